use Rattle.std.proofs.Common.{◌∙◌, ap}
use Rattle.p3_serializing.specs.{Bytes.bytes_of, BytesLaws.bytes_of_8}
use Rattle.p3_serializing.proofs.serialized_in.AnySerializedIn8.to_unique_bytes.Goals as goal

pub returns : goal.returns
returns g c =
    c.to_le_bytes.ensures ∙ bytes_of_8 c.to_unique_u64.result ∙ ap (bytes_of 8) c.to_unique_u64.ensures
