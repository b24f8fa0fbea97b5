use Rattle.std.proofs.Common.{sym}
use Rattle.p3_field_core.specs.UniformBoundLaws.{bound-none}
use Rattle.p3_field_core.proofs.uniform.UniformSamplingField.sampling_bits_m.Goals as goal

-- the order is below the power
pub returns-else-bits-lt64 : goal.returns-else-bits-lt64
returns-else-bits-lt64 g c =
    sym (bound-none g.Self.PrimeCharacteristicRing.residues.order c.args.bits g.met.Self.PrimeField64.fits_u64
    c.if-bits-lt64.false)
