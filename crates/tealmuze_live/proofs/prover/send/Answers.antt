use Rattle.std.proofs.Common.{ap}
use Rattle.tealmuze_live.proofs.prover.send.Goals as goal

-- the step is refused
pub returns-clause-ok : goal.returns-clause-ok
returns-clause-ok g c = record {
  error = c.in-Err.error;
  left = _;
  refused = c.in-Err.ensures.comes;
  ended = ap (λ t. t.playing.finished) c.halt-in-Err.ensures.transcript;
  told_is = c.in_ok-refused-in-Err.ensures.ok;
}
