-- One step of a script on either driver.
use Rattle.std.specs.Prelude.{◌≡◌, ◌⊎◌, ℕ, List, [], ◌∷◌, ◌++◌, Option, Some, None, IsSome, true}
use Rattle.p3_fs_core.specs.declared.error.{TranscriptError.TranscriptError, TranscriptError.TheVariants.OutOfMemory}
use Rattle.p3_driver_core.specs.{Driving.Driving, Transcripts.{PlaysStep, IsNext}}
use Rattle.p3_step_laws.specs.OneReason.{TellOneReason}
use Rattle.p3_runs.specs.{Plays.{Play, Place, Carried, meaning}, Runs.{if_in_proof, if_sent, if_carried, if_witness}}
use Rattle.p3_runs.specs.{Sides.{Refusing, Sides}, Values.{Value, Challenge, one_witness}}

-- a caller carries a witness exactly to a step whose place says so
abbrev pub IsCarriedTo : {F : Type 0} → Place → Option F → Type 0
IsCarriedTo Carried witness = IsSome witness
IsCarriedTo _ witness = witness ≡ None

-- an optional value as a list
abbrev pub one_of : {A : Type 0} → Option A → List A
one_of None = []
one_of (Some x) = x ∷ []

-- A verifier plays the step with a value that fits and whose bytes came next in the proof. If the caller carries a
-- witness, the value is that witness. This part of it is received, and this is drawn.
pub record TakesStep {S Symbol F EF O : Type 0} (play : Play S Symbol F EF O) (witness : Option F) (before : Driving S)
    (received : List (Value F EF)) (drawn : Option (Challenge F EF)) (after : Driving S) : Type 0 where
  pub value : Value F EF
  pub fits : play.Fits value
  pub carried : if_carried play.place value ≡ one_witness witness
  pub shown : if_in_proof play.place value ≡ received
  pub plays : PlaysStep (meaning play value) before.transcript drawn after.transcript
  pub read : before.bytes ≡ play.wire value ++ after.bytes

-- A prover plays the step with a value that fits: the value handed to the prover, or the least witness that passes. Its
-- bytes are added, and this is drawn.
pub record SendsStep {S Symbol F EF O : Type 0} (play : Play S Symbol F EF O) (handed : List (Value F EF))
    (before : Driving S) (witness : Option F) (drawn : Option (Challenge F EF)) (after : Driving S) : Type 0 where
  pub value : Value F EF
  pub fits : play.Fits value
  pub sent : if_sent play.place value ≡ handed
  pub found : if_witness play.place value ≡ one_witness witness
  pub chosen : play.IsChosen before.transcript.challenger value
  pub plays : PlaysStep (meaning play value) before.transcript drawn after.transcript
  pub written : after.bytes ≡ before.bytes ++ play.wire value

-- memory for the results of the step was refused, and no step may follow
abbrev pub Halts : {S : Type 0} → Refusing S
Halts before e after = (e ≡ OutOfMemory) × (after.transcript.playing.finished ≡ true)

-- a side refuses the step, or memory for its results was refused
abbrev pub OrHalts : {S : Type 0} → Refusing S → Refusing S
OrHalts refuses before e after = refuses before e after ⊎ Halts before e after

-- ---- when a step may be played

-- A verifier may play the step with the value. The step is next in the pattern, and the value's bytes are next in the
-- proof. None of them is too long, no draw meets a limit, and a witness passes.
pub record CanTake {S Symbol F EF O : Type 0} (play : Play S Symbol F EF O) (before : Driving S) (v : Value F EF) :
    Type 0 where
  pub is_next : IsNext before.transcript.playing play.interaction
  pub fits : play.Fits v
  pub short : (play.effect v).fits
  pub gives : IsSome ((play.effect v).gives before.transcript.challenger)
  pub left : List ℕ
  pub next : before.bytes ≡ play.wire v ++ left

-- a prover may play the step with the value
pub record CanSend {S Symbol F EF O : Type 0} (play : Play S Symbol F EF O) (before : Driving S) (v : Value F EF) :
    Type 0 where
  pub is_next : IsNext before.transcript.playing play.interaction
  pub fits : play.Fits v
  pub short : (play.effect v).fits
  pub gives : IsSome ((play.effect v).gives before.transcript.challenger)
  pub chosen : play.IsChosen before.transcript.challenger v

-- ---- laws of a step

-- Over the same bytes and the same carried witnesses, the step has at most one value, and the rests are the same.
pub record IsCanonical {S Symbol F EF O : Type 0} (play : Play S Symbol F EF O) : Type 0 where
  pub one_way : (v w : Value F EF) (a b : List ℕ) (c d : List (Value F EF)) → play.Fits v → play.Fits w →
      play.wire v ++ a ≡ play.wire w ++ b → if_carried play.place v ++ c ≡ if_carried play.place w ++ d →
      (v ≡ w) × (a ≡ b) × (c ≡ d)

-- Two values that a prover may play at a step are equal if the same is sent for them. So are two values that it may be
-- handed.
pub record IsDetermined {S Symbol F EF O : Type 0} (play : Play S Symbol F EF O) : Type 0 where
  pub one_way : (v w : Value F EF) (s : S) → play.Fits v → play.Fits w → if_sent play.place v ≡ if_sent play.place w →
      play.IsChosen s v → play.IsChosen s w → v ≡ w
  pub one_handed : (v w : Value F EF) → play.IsHanded v → play.IsHanded w →
      if_sent play.place v ≡ if_sent play.place w → v ≡ w

-- A verifier refuses the step only when out of memory, if the step may be played with a value.
pub record IsTakenWherePossible {S Symbol F EF O : Type 0} (play : Play S Symbol F EF O) (sides : Sides S F EF) : Type 0 where
  pub only_memory : (witness : Option F) (before after : Driving S) (e : TranscriptError) (v : Value F EF) →
      sides.verifier witness before e after → if_carried play.place v ≡ one_witness witness →
      CanTake play before v → e ≡ OutOfMemory

-- A prover refuses the step only when out of memory, if the step may be played with the value handed to the prover.
pub record IsSentWherePossible {S Symbol F EF O : Type 0} (play : Play S Symbol F EF O) (sides : Sides S F EF) : Type 0 where
  pub only_memory : (given v : Value F EF) (before after : Driving S) (e : TranscriptError) →
      play.IsHanded given → sides.prover given before e after →
      if_sent play.place v ≡ if_sent play.place given → CanSend play before v → e ≡ OutOfMemory

-- Each side refuses a step for one reason, whatever its caller carries or it is handed. Any two errors from one state,
-- neither of them out of memory, say the same.
pub record RefuseForOneReason {S F EF : Type 0} (sides : Sides S F EF) : Type 0 where
  pub verifier : (witness : Option F) → TellOneReason (OrHalts (sides.verifier witness))
  pub prover : (given : Value F EF) → TellOneReason (OrHalts (sides.prover given))
