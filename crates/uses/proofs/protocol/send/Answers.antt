use Rattle.std.proofs.Common.{rules}
use Rattle.p3_challenger.specs.Bound.{bound_value}
use Rattle.uses.proofs.Runs.{once-written, sent-by}
use Rattle.uses.proofs.protocol.send.Goals as goal

pub returns : goal.returns
returns c =
    once-written _ _ _ _ _ c.add_hint.result c.add_hint.ensures
    (λ x done. sent-by _ _ _ _ _ _ _ _
    (record {
      slope = c.args.slope;
      offset = c.args.offset;
      place = bound_value c.in_ok-place.place;
      divisor = c.in_ok-divisor.divisor;
      quotient = c.mul-quotient.result;
    })
    _ _ _ _ _ _ _ c.in_ok-add_scalar.ensures.plays.challenger c.in_ok-add_scalar-2.ensures.plays.challenger
    c.in_ok-place.ensures.0.gives c.in_ok-place.ensures.0.challenger c.in_ok-divisor.ensures.drawn (search rules)
    c.in_ok-add_scalar.ensures.wire c.in_ok-add_scalar-2.ensures.wire c.in_ok-place.ensures.1
    c.in_ok-divisor.ensures.bytes done.wire (search rules))
