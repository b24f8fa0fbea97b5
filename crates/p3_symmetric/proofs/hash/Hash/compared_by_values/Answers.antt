use Rattle.p3_symmetric.specs.HashValueLaws.{compared-by-values}
use Rattle.p3_symmetric.proofs.hash.Hash.compared_by_values.Goals as goal

-- digests are told apart by their values, and those compare exactly
pub returns : goal.returns
returns g c = compared-by-values
