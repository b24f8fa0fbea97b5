use Rattle.std.proofs.Common.{sym, ◌∙◌}
use Rattle.p3_challenger_core.specs.SymbolLaws.{row-prefix_code, bytes-prefix_code}
use Rattle.p3_serializing.specs.SerializingSymbolLaws.{words-read}
use Rattle.p3_symmetric.specs.{Digests.values_of, HashValueLaws.{length-values, values-injective}}
use Rattle.p3_serializing.proofs.prefix_code.serialized_digests_are_prefix_code.Goals as goal

pub returns-clause-bytes : goal.returns-clause-bytes
returns-clause-bytes g c =
    λ prefix_code x y a b e.
    let read = row-prefix_code g.Inner.CanObserve.observation.symbols prefix_code (values_of x) (values_of y) a b
    (length-values x ∙ sym (length-values y)) e in
    (values-injective x y read.0, read.1)

pub returns-clause-known_bytes : goal.returns-clause-known_bytes
returns-clause-known_bytes g c =
    λ prefix_code x y a b x_are y_are e.
    let read = bytes-prefix_code g.Inner.CanObserve.observation.symbols prefix_code (values_of x) (values_of y) a b
    x_are y_are (length-values x ∙ sym (length-values y)) e in
    (values-injective x y read.0, read.1)

pub returns-clause-words : goal.returns-clause-words
returns-clause-words g c =
    λ prefix_code x y a b x_are y_are e.
    let read = words-read g.Inner.CanObserve.observation.symbols prefix_code (values_of x) (values_of y) a b
    x_are y_are (length-values x ∙ sym (length-values y)) e in
    (values-injective x y read.0, read.1)
