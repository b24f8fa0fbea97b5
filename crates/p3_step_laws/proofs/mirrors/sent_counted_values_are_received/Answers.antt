use Rattle.std.proofs.Common.{rules}
use Rattle.p3_step_laws.{proofs.ReadBack.counted_values-back, specs.CompletenessLaws.read_back-completes}
use Rattle.p3_step_laws.proofs.mirrors.sent_counted_values_are_received.Goals as goal

pub returns : goal.returns
returns g c = search (rules, read_back-completes, counted_values-back, g.met.Cdc.Codec.is_codec.encodes)
