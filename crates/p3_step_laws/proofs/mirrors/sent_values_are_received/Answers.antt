use Rattle.std.proofs.Common.{rules}
use Rattle.p3_step_laws.{proofs.ReadBack.values-back, specs.CompletenessLaws.read_back-completes}
use Rattle.p3_step_laws.proofs.mirrors.sent_values_are_received.Goals as goal

pub returns : goal.returns
returns g c = search (rules, read_back-completes, values-back, g.met.Cdc.Codec.is_codec.encodes)
