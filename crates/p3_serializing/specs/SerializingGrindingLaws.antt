-- Laws of proof of work on a serializing challenger.
use Rattle.std.specs.Prelude.{ℕ, List}
use Rattle.p3_field_core.specs.Residues.{Residues}
use Rattle.p3_challenger_core.specs.{Observation.Observation, declared.error.ChallengerError.ChallengerError}
use Rattle.p3_challenger_core.specs.declared.error.ChallengerError.TheVariants.{OutOfMemory, NoWitness}
use Rattle.p3_challenger_core.specs.Sampling.{Sampling}
use Rattle.p3_grinding.specs.Checks.{MayRunOut, RefusesSearch}
use Rattle.p3_serializing.specs.SerializingGrinding.{serializing_check, may_run_out_of}
use Rattle.p3_serializing.specs.SerializingState.{SerializingState}

module _ {I Symbol F : Type 0} (o : Observation I Symbol ℕ) (slice_may_leave : I → List ℕ → I → Type 0)
    (d : Sampling I ℕ) (r : Residues F) (n : ℕ) (copies_may_fail : Type 0) (bits : ℕ) where
  -- a refused search by checks of a fixed number of bits is a refused search
  pub refused-search : (e : ChallengerError) (s t : SerializingState I)
      → RefusesSearch r (MayRunOut copies_may_fail (serializing_check o slice_may_leave d r n bits))
      (serializing_check o slice_may_leave d r n bits) e s t
      → RefusesSearch r (may_run_out_of o slice_may_leave d r n copies_may_fail)
      (serializing_check o slice_may_leave d r n bits) e s t
  refused-search OutOfMemory s t h = ((bits, h.0), h.1)
  refused-search NoWitness s t h = h
  refused-search _ s t h = h
