-- What an answer says.
use Rattle.std.specs.{Prelude.{◌≡◌, ℕ, zero, suc, ◌<◌, ◌≤◌, List, ◌∷◌, ◌++◌, length, map}, List.All}
use Rattle.p3_challenger.specs.Separators.{HeldSeparator}
use Rattle.p3_challenger.specs.TranscriptError.{TranscriptError, TheVariants.OutOfMemory}
use Rattle.p3_challenger.specs.{Fronts.Run, Provings.{IsProved, RefusesToProve, IsProverRun}, Rules.Rules}
use Rattle.p3_challenger.specs.{Values.{Value, Challenge}, Verdicts.{Accepts, HasNoProof, RefusesProof, script_under, with_steps}}
use Rattle.p3_challenger.specs.{Scripts.play_of, ScriptRefusals.sides_of, Fault.Fault}
use Rattle.tealmuze_calls.specs.Descriptions.{Describes}
use Rattle.tealmuze_calls.specs.Forms.{number_bytes, counted_bytes, listed_bytes, scalar_bytes, value_bytes, challenge_bytes}
use Rattle.tealmuze_calls.specs.Readings.{FitsWord, IsListHeld}
use Rattle.p3_challenger.specs.Step as script
use Rattle.p3_challenger.specs.Values as value

-- These numbers can be carried: as many are wanted, and each is that of an element.
pub record CanBeCarried (count order : ℕ) (carried : List ℕ) : Type 0 where
  pub wanted : count ≡ length carried
  pub elements : All (λ number. number < order) carried

-- the bytes tell of a fault: its position, and a reason as a text; it is not that memory ran out
pub record TellsFault (fault : Fault) (bytes : List ℕ) : Type 0 where
  pub other : fault.error ≡ OutOfMemory → ⊥
  pub reason : List ℕ
  pub short : length reason ≤ 1000
  pub told_is : bytes ≡ 1 ∷ (number_bytes fault.position ++ reason)

module _ {Su F EF U O C K Ac D G It St Sy : Type 0} (rules : Rules St Sy It F EF O Ac) (number : F → ℕ)
    (coefficients : EF → List F) (run : Run (script.Step Su F EF U O C K Ac D G It St Sy) F EF St) where
  -- The proof is accepted, with these witnesses carried; and what follows the verdict is what was received, in order, and
  -- what was drawn.
  pub record TellsAccepted (proof : List ℕ) (carried : List ℕ) (told : List ℕ) : Type 0 where
    pub witnesses : List F
    pub carried_are : map number witnesses ≡ carried
    pub received : List (Value F EF)
    pub drawn : List (Challenge F EF)
    pub end : St
    pub accepts : Accepts rules (play_of rules) run proof witnesses received drawn end
    pub told_is : told ≡ listed_bytes (value_bytes number coefficients) received
        ++ listed_bytes (challenge_bytes number coefficients) drawn

  -- The proof is refused, and is none; and what follows the verdict is the position, and the reason as a text.
  pub record TellsRefused (proof : List ℕ) (carried : List ℕ) (told : List ℕ) : Type 0 where
    pub witnesses : List F
    pub carried_are : map number witnesses ≡ carried
    pub position : ℕ
    pub error : TranscriptError
    pub refuses : RefusesProof rules (play_of rules) (sides_of rules) run proof witnesses position error
    pub is_none : HasNoProof rules (play_of rules) run proof witnesses
    pub reason : List ℕ
    pub short : length reason ≤ 1000
    pub told_is : told ≡ number_bytes position ++ reason

  -- what an answer to a verifier says by its first byte, where it is a verdict
  abbrev pub TellsOfProof : List ℕ → List ℕ → List ℕ → Type 0
  TellsOfProof proof carried (zero ∷ told) = TellsAccepted proof carried told
  TellsOfProof proof carried (suc zero ∷ told) = TellsRefused proof carried told
  TellsOfProof proof carried _ = ⊥

  -- The values have a run; and what follows the verdict is its proof, its witnesses, those of them that the proof does
  -- not carry, and what was drawn.
  pub record TellsProved (sent : List (Value F EF)) (told : List ℕ) : Type 0 where
    pub narg : List ℕ
    pub witnesses : List F
    pub carried : List F
    pub drawn : List (Challenge F EF)
    pub end : St
    pub proved : IsProved rules (play_of rules) run sent narg witnesses carried drawn end
    pub told_is : told ≡ counted_bytes narg ++ (listed_bytes (scalar_bytes number coefficients) witnesses
        ++ (listed_bytes (scalar_bytes number coefficients) carried
        ++ listed_bytes (challenge_bytes number coefficients) drawn))

  -- The values have no run; and what follows the verdict is the position, and the reason as a text.
  pub record TellsUnproved (sent : List (Value F EF)) (told : List ℕ) : Type 0 where
    pub position : ℕ
    pub error : TranscriptError
    pub refuses : RefusesToProve rules (play_of rules) (sides_of rules) run sent position error
    pub is_none : (values : List (Value F EF)) → IsProverRun rules (play_of rules) (with_steps run run.steps values) sent → ⊥
    pub reason : List ℕ
    pub short : length reason ≤ 1000
    pub told_is : told ≡ number_bytes position ++ reason

  -- what an answer to a prover says by its first byte, where it is a verdict
  abbrev pub TellsOfValues : List (Value F EF) → List ℕ → Type 0
  TellsOfValues sent (zero ∷ told) = TellsProved sent told
  TellsOfValues sent (suc zero ∷ told) = TellsUnproved sent told
  TellsOfValues sent _ = ⊥

module _ (Su U C K D G : Type 0) {F EF O Ac It St Sy : Type 0} (rules : Rules St Sy It F EF O Ac) (number : F → ℕ)
    (coefficients : EF → List F) (opaque_numbers : O → List ℕ) (AreOpaque : List ℕ → Type 0) where
  -- The bytes describe a protocol, and of its script, from a state of a challenger that observed nothing, this is told.
  pub record TellsOfDescribed (IsFresh : St → Type 0) (bytes : List ℕ)
      (Tells : Run (script.Step Su F EF U O C K Ac D G It St Sy) F EF St → Type 0) : Type 0 where
    pub start : St
    pub fresh : IsFresh start
    pub separator : HeldSeparator
    pub steps : List (script.Step Su F EF U O C K Ac D G It St Sy)
    pub describes : Describes number coefficients opaque_numbers AreOpaque rules bytes separator steps
    pub tells : Tells (script_under start separator steps)

  -- The bytes describe a protocol, and of its steps this is so.
  pub record DescribesSome (bytes : List ℕ) (Is : List (script.Step Su F EF U O C K Ac D G It St Sy) → Type 0) :
      Type 0 where
    pub separator : HeldSeparator
    pub steps : List (script.Step Su F EF U O C K Ac D G It St Sy)
    pub describes : Describes number coefficients opaque_numbers AreOpaque rules bytes separator steps
    pub such : Is steps

  -- The bytes describe a protocol, and for an answer of its steps so many bytes are wanted.
  pub record WantsForDescribed (bytes : List ℕ)
      (room : List (script.Step Su F EF U O C K Ac D G It St Sy) → ℕ) (wanted : ℕ) : Type 0 where
    pub separator : HeldSeparator
    pub steps : List (script.Step Su F EF U O C K Ac D G It St Sy)
    pub describes : Describes number coefficients opaque_numbers AreOpaque rules bytes separator steps
    pub wanted_is : wanted ≡ room steps

-- The bytes encode values, of which this is told.
pub record EncodesValues {F EF : Type 0} (number : F → ℕ) (coefficients : EF → List F) (bytes : List ℕ)
    (Tells : List (Value F EF) → Type 0) : Type 0 where
  pub values : List (Value F EF)
  pub encoded : bytes ≡ listed_bytes (value_bytes number coefficients) values
  pub tells : Tells values

-- a value that a prover may be handed, and its length has a form of 8 bytes
abbrev pub IsSendable : {F EF : Type 0} → Value F EF → Type 0
IsSendable (value.Bytes bytes) = FitsWord (length bytes)
IsSendable (value.Scalar x) = Unit {0}
IsSendable (value.Scalars xs) = FitsWord (length xs)
IsSendable (value.Extension x) = Unit {0}
IsSendable _ = ⊥

-- the bytes encode values that may be sent, of which this is so
pub record EncodesSendable {F EF : Type 0} (number : F → ℕ) (coefficients : EF → List F) (bytes : List ℕ)
    (Are : List (Value F EF) → Type 0) : Type 0 where
  pub values : List (Value F EF)
  pub sendable : IsListHeld IsSendable values
  pub encoded : bytes ≡ listed_bytes (value_bytes number coefficients) values
  pub such : Are values
