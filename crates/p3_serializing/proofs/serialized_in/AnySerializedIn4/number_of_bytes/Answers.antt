use Rattle.std.proofs.Common.{◌∙◌}
use Rattle.p3_serializing.specs.BytesLaws.{number_of_4}
use Rattle.p3_serializing.proofs.serialized_in.AnySerializedIn4.number_of_bytes.Goals as goal

pub returns : goal.returns
returns g c = c.from.ensures ∙ c.from_le_bytes.ensures ∙ number_of_4 c.args.bytes.now c.told-bytes
