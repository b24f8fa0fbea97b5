-- Protocols that are alike: what is so of a proof or of values of one is so of the other.
use Rattle.std.specs.Prelude.{◌≡◌, ℕ, List}
use Rattle.p3_challenger.specs.{Separators.{HeldSeparator, contents_of}, ScriptRefusals.sides_of}
use Rattle.p3_challenger.specs.{Provings.{IsProved, IsProverRun, RefusesToProve}, Rules.Rules, Runs.interactions}
use Rattle.p3_challenger.specs.{Scripts.play_of, TranscriptError.TranscriptError, Values.{Value, Challenge}}
use Rattle.p3_challenger.specs.Verdicts.{Accepts, HasNoProof, RefusesProof, script_under, with_steps}
use Rattle.p3_challenger.specs.Fronts.{Run}
use Rattle.tealmuze_calls.specs.Descriptions.{Describes}
use Rattle.tealmuze_calls.specs.Told.{TellsOfProof, TellsOfValues, TellsOfDescribed, EncodesValues}
use Rattle.p3_challenger.specs.Step as script

module _ {Su F EF U O C K Ac D G It St Sy : Type 0} (rules : Rules St Sy It F EF O Ac) (one other : HeldSeparator)
    (steps others : List (script.Step Su F EF U O C K Ac D G It St Sy)) where
  -- They have the same version, name, chunks and pattern, and play the same interactions. From each state of a
  -- challenger they have the same verdicts: what is accepted or proved, and what comes of it; where and why the rest is
  -- refused; and what has no run.
  pub record AreAlike : Type 0 where
    pub separators : contents_of one ≡ contents_of other
    pub played : interactions (play_of rules) steps ≡ interactions (play_of rules) others
    pub accepted : (start : St) (proof : List ℕ) (witnesses : List F) (received : List (Value F EF))
        (drawn : List (Challenge F EF)) (end : St) →
        Accepts rules (play_of rules) (script_under start one steps) proof witnesses received drawn end →
        Accepts rules (play_of rules) (script_under start other others) proof witnesses received drawn end
    pub refused : (start : St) (proof : List ℕ) (witnesses : List F) (position : ℕ) (e : TranscriptError) →
        RefusesProof rules (play_of rules) (sides_of rules) (script_under start one steps) proof witnesses position e →
        RefusesProof rules (play_of rules) (sides_of rules) (script_under start other others) proof witnesses position e
    pub none : (start : St) (proof : List ℕ) (witnesses : List F) →
        HasNoProof rules (play_of rules) (script_under start one steps) proof witnesses →
        HasNoProof rules (play_of rules) (script_under start other others) proof witnesses
    pub proved : (start : St) (sent : List (Value F EF)) (narg : List ℕ) (witnesses carried : List F)
        (drawn : List (Challenge F EF)) (end : St) →
        IsProved rules (play_of rules) (script_under start one steps) sent narg witnesses carried drawn end →
        IsProved rules (play_of rules) (script_under start other others) sent narg witnesses carried drawn end
    pub unproved : (start : St) (sent : List (Value F EF)) (position : ℕ) (e : TranscriptError) →
        RefusesToProve rules (play_of rules) (sides_of rules) (script_under start one steps) sent position e →
        RefusesToProve rules (play_of rules) (sides_of rules) (script_under start other others) sent position e
    pub none_proved : (start : St) (sent : List (Value F EF)) → ((values : List (Value F EF)) →
        IsProverRun rules (play_of rules) (with_steps (script_under start one steps) steps values) sent → ⊥) →
        (values : List (Value F EF)) →
        IsProverRun rules (play_of rules) (with_steps (script_under start other others) others values) sent → ⊥

-- whatever the same bytes describe is alike
abbrev pub DescriptionsMeanOne : (Su U C K D G : Type 0) {F EF O Ac It St Sy : Type 0} → Rules St Sy It F EF O Ac →
    (F → ℕ) → (EF → List F) → (O → List ℕ) → (List ℕ → Type 0) → Type 0
DescriptionsMeanOne Su U C K D G {F} {EF} {O} {Ac} {It} {St} {Sy} rules number coefficients opaque_numbers AreOpaque =
    (bytes : List ℕ) (one other : HeldSeparator)
    (steps others : List (script.Step Su F EF U O C K Ac D G It St Sy)) →
    Describes number coefficients opaque_numbers AreOpaque rules bytes one steps →
    Describes number coefficients opaque_numbers AreOpaque rules bytes other others → AreAlike rules one other steps others

-- ---- what is told

-- Of these steps under this separator, from a state of a challenger that observed nothing, this is told.
pub record IsToldOf {X F EF St : Type 0} (IsFresh : St → Type 0) (Tells : Run X F EF St → Type 0)
    (separator : HeldSeparator) (steps : List X) : Type 0 where
  pub start : St
  pub fresh : IsFresh start
  pub tells : Tells (script_under start separator steps)

module _ (Su U C K D G : Type 0) {F EF O Ac It St Sy : Type 0} (rules : Rules St Sy It F EF O Ac) (number : F → ℕ)
    (coefficients : EF → List F) (opaque_numbers : O → List ℕ) (AreOpaque : List ℕ → Type 0) (IsFresh : St → Type 0) where
  -- what is told of a protocol that the bytes describe is so of each that they describe
  abbrev pub IsSoOfAll : List ℕ → (Run (script.Step Su F EF U O C K Ac D G It St Sy) F EF St → Type 0) → Type 0
  IsSoOfAll bytes Tells = (separator : HeldSeparator) (steps : List (script.Step Su F EF U O C K Ac D G It St Sy)) →
      TellsOfDescribed Su U C K D G rules number coefficients opaque_numbers AreOpaque IsFresh bytes Tells →
      Describes number coefficients opaque_numbers AreOpaque rules bytes separator steps → IsToldOf IsFresh Tells separator steps

  -- what is told of a proof, and of the values that some bytes encode
  abbrev pub VerdictsAreSoOfAll : Type 0
  VerdictsAreSoOfAll = (bytes proof carried told : List ℕ) →
      IsSoOfAll bytes (λ run. TellsOfProof rules number coefficients run proof carried told)

  abbrev pub ProvingsAreSoOfAll : Type 0
  ProvingsAreSoOfAll = (bytes values told : List ℕ) → IsSoOfAll bytes (λ run. EncodesValues number coefficients values
      (λ sent. TellsOfValues rules number coefficients run sent told))
