-- The next step of a script, for a prover that is handed all values.
use Rattle.std.specs.{Borrow.Bor, Prelude.{◌≡◌, ℕ, ◌+◌, List, [], ◌++◌, ◌⊎◌, drop, slice_get, Option, Some, None}}
use Rattle.std.specs.Prelude.{Result, MatchResult}
use Rattle.p3_fs_core.specs.declared.error.TranscriptError.{TranscriptError}
use Rattle.p3_driver_core.specs.Driving.{Driving}
use Rattle.p3_runs.specs.{Plays.Play, Provings.where_carried, Runs.{if_sent, if_drawn}, Values.{Value, Challenge}}
use Rattle.p3_runs.specs.{Sides.Sides, Stepping.{SendsStep, Halts, one_of}}
use Rattle.p3_runs.specs.Rules.{Rules}
use Rattle.p3_drivers.specs.{Drivers.proving_of, declared.{driver.DriverState.DriverState, tape.Written.Written}}
use Rattle.p3_script.specs.{Scripts.{play_of, values_sent, challenges_of}, ScriptRefusals.sides_of}
use Rattle.p3_script.specs.declared.{standing.Standing.Standing, steps.Sent.Sent}
use Rattle.p3_script_prover.specs.declared.proving.Made.{Made}
use Rattle.p3_symmetric.specs.declared.digest_hasher.DigestHasher.{Ghosts}
use Rattle.p3_script.specs.declared.standing.Standing.TheVariants as standing
use Rattle.p3_script.specs.declared.steps.Step as script

-- the witness, where the caller carries it
abbrev pub carried_at : {A : Type 0} → Standing → List A → List A
carried_at standing.Carried xs = xs
carried_at _ xs = []

-- the borrowed value, if there is one
abbrev pub lent : {A : Type 0} → Option (Bor A) → Option A
lent None = None
lent (Some x) = Some x.now

-- what is handed for a step whose value stands so: the value at the place, or nothing
abbrev pub IsGivenAt : {A : Type 0} → Standing → List A → ℕ → Option (Bor A) → Type 0
IsGivenAt standing.Sent sent at given = lent given ≡ slice_get sent at
IsGivenAt _ sent at given = given ≡ None

-- the place of the next value, after this was handed
abbrev pub next_place : {A : Type 0} → ℕ → Option (Bor A) → ℕ
next_place at None = at
next_place at (Some x) = at + 1

-- The step is played with the first unused value, or with nothing. Its results are kept, and the later values are
-- still unused.
pub record PlaysNext {S Symbol F EF O : Type 0} (play : Play S Symbol F EF O) (sent : List (Value F EF)) (j k : ℕ)
    (here there : Driving S) (witnesses0 witnesses1 carried0 carried1 : List F)
    (drawn0 drawn1 : List (Challenge F EF)) : Type 0 where
  pub given : Value F EF
  pub witness : Option F
  pub drawn : Option (Challenge F EF)
  pub used : drop j sent ≡ if_sent play.place given ++ drop k sent
  pub sends : SendsStep play (if_sent play.place given) here witness drawn there
  pub witnesses_is : witnesses1 ≡ witnesses0 ++ one_of witness
  pub carried_is : carried1 ≡ carried0 ++ where_carried play.place (one_of witness)
  pub drawn_is : drawn1 ≡ drawn0 ++ if_drawn (Some drawn)

-- The step is refused with what is handed for it, or memory for its results was refused.
pub record RefusesNext {S Symbol F EF O : Type 0} (play : Play S Symbol F EF O) (sides : Sides S F EF)
    (sent : List (Value F EF)) (j : ℕ) (here : Driving S) (e : TranscriptError) (there : Driving S) : Type 0 where
  pub given : Value F EF
  pub unused : List (Value F EF)
  pub used : drop j sent ≡ if_sent play.place given ++ unused
  pub handed : play.IsHanded given
  pub refuses : sides.prover given here e there ⊎ Halts here e there

pub record NextOrRefuses {S Symbol F EF O R : Type 0} (play : Play S Symbol F EF O) (sides : Sides S F EF)
    (sent : List (Value F EF)) (j : ℕ) (here : Driving S) (witnesses0 carried0 : List F) (drawn0 : List (Challenge F EF))
    (result : Result R TranscriptError) (k : ℕ) (there : Driving S) (witnesses1 carried1 : List F)
    (drawn1 : List (Challenge F EF)) : Type 0 where
  pub comes : MatchResult result
      (λ _. PlaysNext play sent j k here there witnesses0 witnesses1 carried0 carried1 drawn0 drawn1)
      (λ e. RefusesNext play sides sent j here e there)

-- a prover plays the script's step with the first unused value and keeps its results, or the step is refused
abbrev pub PlaysNextStep : {Su F EF U O C K Ac D G It St Sy R : Type 0} {hasher : Ghosts D} → Rules St Sy It F EF O Ac →
    (C → St) → script.Step Su F EF U O C K Ac D G It St Sy → List (Sent Su F EF U O C K Ac D G It St Sy) → ℕ →
    DriverState C U D Written hasher → Made Su F EF U O C K Ac D G It St Sy → Result R TranscriptError → ℕ →
    DriverState C U D Written hasher → Made Su F EF U O C K Ac D G It St Sy → Type 0
PlaysNextStep rules state step sent j before made result k after kept = NextOrRefuses (play_of rules step)
    (sides_of rules step) (values_sent sent) j (proving_of state before) made.witnesses.items made.carried.items
    (challenges_of made.challenges.items) result k (proving_of state after) kept.witnesses.items kept.carried.items
    (challenges_of kept.challenges.items)
