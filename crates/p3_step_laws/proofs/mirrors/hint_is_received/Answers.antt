use Rattle.std.proofs.Common.{rules}
use Rattle.p3_step_laws.{proofs.ReadBack.bytes-back, specs.CompletenessLaws.read_back-completes}
use Rattle.p3_step_laws.proofs.mirrors.hint_is_received.Goals as goal

pub returns : goal.returns
returns g c = search (rules, read_back-completes, bytes-back)
