use Rattle.p3_symmetric.specs.HashValueLaws.{values-injective}
use Rattle.p3_symmetric.proofs.hash.Hash.is_its_values.Goals as goal

pub returns-clause-same : goal.returns-clause-same
returns-clause-same g c = values-injective
