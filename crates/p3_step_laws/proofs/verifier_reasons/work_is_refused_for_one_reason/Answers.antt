use Rattle.std.{specs.Prelude.ℕ, proofs.Common.rules}
use Rattle.p3_fs_core.specs.Steps.{Step}
use Rattle.p3_driver_core.specs.Working.{work_of}
use Rattle.p3_step_laws.proofs.WorkReasons.{ground-one_reason, carried-one_reason, work-one_reason}
use Rattle.p3_step_laws.proofs.verifier_reasons.work_is_refused_for_one_reason.Goals as goal

pub returns : goal.returns
returns g c =
    let of = λ (step : Step) (bits : ℕ). work_of step g.C.Witness.PrimeCharacteristicRing.residues
    g.C.BeforeWitness.before_witness g.C.CanObserve.observation g.C.CanSampleBits.bits_sampling bits in
    record {
      ground = λ step bits. ground-one_reason (of step bits) _;
      read = λ step bits. work-one_reason (of step bits) (search rules) _;
      carried = λ step bits x. carried-one_reason (of step bits) (search rules) x;
    }
