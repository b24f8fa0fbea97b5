-- The faults of one script.
use Rattle.std.specs.Prelude.{◌≡◌, ℕ, List}
use Rattle.p3_fs_core.specs.{Errors.refusal_of, declared.error.TranscriptError.TranscriptError}
use Rattle.p3_fs_core.specs.declared.error.TranscriptError.TheVariants.{OutOfMemory}
use Rattle.p3_runs.specs.{Fronts.Run, Plays.Play, Provings.RefusesToProve, Rules.Rules, Runs.AreAdmitted, Values.Value}
use Rattle.p3_runs.specs.{Sides.Sides, Verdicts.RefusesProof}

-- A relation of a position and an error has one fault. Any two errors in it, neither of them out of memory, say the
-- same, and come at the same position.
abbrev pub TellOneFault : (ℕ → TranscriptError → Type 0) → Type 0
TellOneFault Refuses = (p q : ℕ) (e f : TranscriptError) → Refuses p e → Refuses q f → (e ≡ OutOfMemory → ⊥) →
    (f ≡ OutOfMemory → ⊥) → (p ≡ q) × (refusal_of e ≡ refusal_of f)

module _ {X S Symbol I F EF O Ac : Type 0} (rules : Rules S Symbol I F EF O Ac)
    (play : X → Play S Symbol F EF O) (sides : X → Sides S F EF) where
  -- each script of admitted steps is refused to a verifier for one fault, given the same bytes and carried
  -- witnesses
  abbrev pub ProofsTellOneFault : Type 0
  ProofsTellOneFault = (script : Run X F EF S) (bytes : List ℕ) (carried : List F) → AreAdmitted play script.steps →
      TellOneFault (RefusesProof rules play sides script bytes carried)

  -- each script of admitted steps is refused to a prover for one fault, given the same handed values
  abbrev pub ProvingsTellOneFault : Type 0
  ProvingsTellOneFault = (script : Run X F EF S) (sent : List (Value F EF)) → AreAdmitted play script.steps →
      TellOneFault (RefusesToProve rules play sides script sent)
