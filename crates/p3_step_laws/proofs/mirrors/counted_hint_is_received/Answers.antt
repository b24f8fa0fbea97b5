use Rattle.std.proofs.Common.{rules}
use Rattle.p3_step_laws.{proofs.ReadBack.counted_bytes-back, specs.CompletenessLaws.read_back-completes}
use Rattle.p3_step_laws.proofs.mirrors.counted_hint_is_received.Goals as goal

pub returns : goal.returns
returns g c = search (rules, read_back-completes, counted_bytes-back)
