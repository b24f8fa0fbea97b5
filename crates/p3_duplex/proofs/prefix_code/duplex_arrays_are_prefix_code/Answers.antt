use Rattle.p3_challenger_core.specs.SymbolLaws.{places-prefix_code, valued-prefix_code}
use Rattle.p3_symmetric.specs.{Digests.values_of, HashValueLaws.{length-values, values-injective}}
use Rattle.p3_duplex.proofs.prefix_code.duplex_arrays_are_prefix_code.Goals as goal

pub returns-clause-arrays : goal.returns-clause-arrays
returns-clause-arrays g c = places-prefix_code g.row.N

pub returns-clause-digests : goal.returns-clause-digests
returns-clause-digests g c = valued-prefix_code g.row.N values_of length-values values-injective

pub returns-clause-both : goal.returns-clause-both
returns-clause-both g c =
    λ digest values a b places e. places-prefix_code g.row.N (values_of digest) values a b (length-values digest) places
    e
