use Rattle.std.proofs.{Common.{arith, ◌∙◌}, lemmas.List.FromFn.fill_by_all}
use Rattle.p3_test_support.proofs.Digests.{digest_place, digest_places}
use Rattle.p3_test_support.proofs.test_hashers.digest_from.Goals as goal

-- each place counts on from the first
pub returns : goal.returns
returns c =
    fill_by_all (digest_place c.args.first) c.loop-i.digest 32 0 c.loop-i.invariant.0
    (λ j below. c.loop-i.invariant.1 j (omega arith))
    ∙ digest_places c.args.first
