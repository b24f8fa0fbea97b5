use Rattle.p3_field_core.specs.UniformBoundLaws.{bound-within, bound-whole, bound-shared, bound-positive}
use Rattle.p3_field_core.proofs.uniform.uniform_bounds_are_whole.Goals as goal

pub returns-clause-within : goal.returns-clause-within
returns-clause-within g c = bound-within g.F.PrimeCharacteristicRing.residues.order

pub returns-clause-whole : goal.returns-clause-whole
returns-clause-whole g c = bound-whole g.F.PrimeCharacteristicRing.residues.order

pub returns-clause-shared : goal.returns-clause-shared
returns-clause-shared g c = bound-shared g.F.PrimeCharacteristicRing.residues.order

pub returns-clause-positive : goal.returns-clause-positive
returns-clause-positive g c bits few =
    bound-positive g.F.PrimeCharacteristicRing.residues.order bits g.F.UniformSamplingField.MAX_SINGLE_SAMPLE_BITS
    g.met.F.UniformSamplingField.max_single_within few
