-- What is told of a step that a caller asks for.
use Rattle.std.specs.{Prelude.{◌≡◌, ◌⊎◌, ℕ, List, [], ◌∷◌, ◌++◌, Option, None, Some, true, Result}, Result.{IfOk, IfErr}}
use Rattle.p3_challenger.specs.{Playing.IsPlayed, Transcripts.RefusesPlayEnd, Verifying.{EndsReading, RefusesEnd}}
use Rattle.p3_challenger.specs.{Driving.Driving, ProverAnswers.SendsValue, Rules.Rules, ScriptRefusals.sides_of}
use Rattle.p3_challenger.specs.{Scripts.{play_of, value_sent}, Sent.Sent, Stepping.{TakesStep, Halts, one_of}}
use Rattle.p3_challenger.specs.Values.{Value, Challenge, Nothing}
use Rattle.p3_challenger.specs.VerifierAnswers.{IsRefused}
use Rattle.p3_challenger.specs.TranscriptError.{TranscriptError}
use Rattle.tealmuze_calls.specs.{Descriptions.IsRead, Told.TellsFault, Written.ByAnswer}
use Rattle.tealmuze_calls.specs.declared.{telling.Answer.Answer, unanswered.Unanswered.{Unanswered, TheVariants.OutOfMemory}}
use Rattle.tealmuze_calls.specs.Forms.{counted_bytes, listed_bytes, scalar_bytes, value_bytes, challenge_bytes}
use Rattle.tealmuze_live.specs.declared.telling.Told.{Told}
use Rattle.p3_challenger.specs.Step as script
use Rattle.tealmuze_live.specs.declared.telling.Told.TheVariants as told

-- the bytes of what is carried to a step, if anything is
abbrev pub bytes_if_given : {A : Type 0} → (A → List ℕ) → Option A → List ℕ
bytes_if_given bytes None = []
bytes_if_given bytes (Some x) = bytes x

module _ {Su F EF U O C K Ac D G It St Sy : Type 0} where
  -- the value that is sent at a step, if one is
  abbrev pub value_handed : Option (Sent Su F EF U O C K Ac D G It St Sy) → Value F EF
  value_handed None = Nothing
  value_handed (Some sent) = value_sent sent

-- no step may follow
abbrev pub HasEnded : {S : Type 0} → Driving S → Type 0
HasEnded driver = driver.transcript.playing.finished ≡ true

module _ {Su F EF U O C K Ac D G It St Sy : Type 0} (rules : Rules St Sy It F EF O Ac) (number : F → ℕ)
    (coefficients : EF → List F) (step : script.Step Su F EF U O C K Ac D G It St Sy) where
  -- A verifier plays the step with this witness carried; and what is told is what it received there, and what it drew.
  pub record TellsTaken (witness : Option F) (before after : Driving St) (told : List ℕ) : Type 0 where
    pub received : List (Value F EF)
    pub drawn : Option (Challenge F EF)
    pub takes : TakesStep (play_of rules step) witness before received drawn after
    pub told_is : told ≡ 0 ∷ (listed_bytes (value_bytes number coefficients) received
        ++ listed_bytes (challenge_bytes number coefficients) (one_of drawn))

  -- A verifier refuses the step, and no step may follow; and what is told is the position and the reason.
  pub record TellsNotTaken (witness : Option F) (position : ℕ) (before after : Driving St) (told : List ℕ) : Type 0 where
    pub error : TranscriptError
    pub refused : IsRefused (sides_of rules step) witness before error
    pub ended : HasEnded after
    pub told_is : TellsFault (record { position = position; error = error }) told

  -- A prover plays the step with the value handed or the witness found; and what is told is the witness, and what it drew.
  pub record TellsSent (given : Value F EF) (before after : Driving St) (told : List ℕ) : Type 0 where
    pub witness : Option F
    pub drawn : Option (Challenge F EF)
    pub sends : SendsValue (play_of rules step) before given witness drawn after
    pub told_is : told ≡ 0 ∷ (listed_bytes (scalar_bytes number coefficients) (one_of witness)
        ++ listed_bytes (challenge_bytes number coefficients) (one_of drawn))

  -- A prover refuses the step, and no step may follow; and what is told is the position and the reason.
  pub record TellsNotSent (given : Value F EF) (position : ℕ) (before after : Driving St) (told : List ℕ) : Type 0 where
    pub error : TranscriptError
    pub left : Driving St
    pub refused : (sides_of rules step).prover given before error left ⊎ Halts before error left
    pub ended : HasEnded after
    pub told_is : TellsFault (record { position = position; error = error }) told

module _ (Su U C K D G : Type 0) {F EF O Ac It St Sy : Type 0} (rules : Rules St Sy It F EF O Ac) (number : F → ℕ)
    (coefficients : EF → List F) (opaque_numbers : O → List ℕ) (AreOpaque : List ℕ → Type 0) where
  -- A request asks for a step and has the value that is sent there, if one is; and this is told of the step by a prover.
  pub record TellsOfSending (request : List ℕ) (position : ℕ) (before after : Driving St) (told : List ℕ) : Type 0 where
    pub step : script.Step Su F EF U O C K Ac D G It St Sy
    pub given : Value F EF
    pub asked : IsRead number coefficients opaque_numbers AreOpaque request (value_bytes number coefficients given) step
    pub told_is : TellsSent rules number coefficients step given before after told
        ⊎ TellsNotSent rules number coefficients step given position before after told

  -- A request asks for a step and has the witness that is carried there, if one is; and this is told of the step by a
  -- verifier.
  pub record TellsOfTaking (request : List ℕ) (position : ℕ) (before after : Driving St) (told : List ℕ) : Type 0 where
    pub step : script.Step Su F EF U O C K Ac D G It St Sy
    pub witness : Option F
    pub asked : IsRead number coefficients opaque_numbers AreOpaque request
        (bytes_if_given (scalar_bytes number coefficients) witness) step
    pub told_is : TellsTaken rules number coefficients step witness before after told
        ⊎ TellsNotTaken rules number coefficients step witness position before after told

-- by what is told of a step: that it was played, or that it was refused
abbrev pub ByTold : (List ℕ → Type 0) → (List ℕ → Type 0) → Told → Type 0
ByTold IsPlayed IsRefused (told.Played bytes) = IsPlayed bytes.items
ByTold IsPlayed IsRefused (told.Refused bytes) = IsRefused bytes.items

-- A prover ends: all steps were played, and what is told is the proof; or the end is refused, and what is told is the position
-- and the reason.
abbrev pub TellsOfProverEnd : {S : Type 0} → ℕ → Driving S → List ℕ → Type 0
TellsOfProverEnd position prover told =
    (IsPlayed prover.transcript.playing × (told ≡ 0 ∷ counted_bytes prover.bytes))
    ⊎ ((error : TranscriptError) × (RefusesPlayEnd prover.transcript.playing error
    × TellsFault (record { position = position; error = error }) told))

-- A verifier ends: all steps were played, and the whole proof was read; or the end is refused, and what is told is the position
-- and the reason.
abbrev pub TellsOfVerifierEnd : {S : Type 0} → ℕ → Driving S → List ℕ → Type 0
TellsOfVerifierEnd position verifier told = (EndsReading verifier × (told ≡ 0 ∷ []))
    ⊎ ((error : TranscriptError) × (RefusesEnd verifier error
    × TellsFault (record { position = position; error = error }) told))

-- The seed is refused: what is told is the position 0 and the reason.
abbrev pub TellsSeedRefused : List ℕ → Type 0
TellsSeedRefused told = (error : TranscriptError) × TellsFault (record { position = 0; error = error }) told

-- what there is for the caller where no side is made: that the seed is refused, or that memory ran out
pub record IsNotBegun (found : Result Answer Unanswered) : Type 0 where
  pub told : IfOk found (ByAnswer TellsSeedRefused (λ wanted. ⊥))
  pub unanswered : IfErr found (λ e. e ≡ OutOfMemory)
