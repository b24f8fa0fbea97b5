use Rattle.std.proofs.Common.{◌∙◌, ap}
use Rattle.p3_serializing.specs.{Bytes.bytes_of, BytesLaws.bytes_of_4}
use Rattle.p3_serializing.proofs.serialized_in.AnySerializedIn4.to_unique_bytes.Goals as goal

pub returns : goal.returns
returns g c =
    c.to_le_bytes.ensures ∙ bytes_of_4 c.to_unique_u32.result ∙ ap (bytes_of 4) c.to_unique_u32.ensures
