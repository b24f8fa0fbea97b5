use Rattle.p3_symmetric.specs.{Digests.values_of, HashValueLaws.values-injective}
use Rattle.p3_multi_field.specs.MultiFieldSymbolLaws.{scalars-prefix_code, digest-prefix_code}
use Rattle.p3_multi_field.proofs.prefix_code.multi_field_arrays_are_prefix_code.Goals as goal

pub returns-clause-arrays : goal.returns-clause-arrays
returns-clause-arrays g c = scalars-prefix_code g.row.N

pub returns-clause-digests : goal.returns-clause-digests
returns-clause-digests g c = digest-prefix_code values_of values-injective
