use Rattle.std.proofs.Common.{arith, refl, ◌∙◌}
use Rattle.p3_challenger.specs.Drivers.{verifying_of}
use Rattle.p3_challenger.specs.ReadsLaws.{bytes-read}
use Rattle.uses.proofs.MerkleOpening.{climbed-none, climbed-more, climbed-end}
use Rattle.p3_symmetric.specs.contracts.sha256.Sha256HasherDigestHasher.TheImpl as digests
use Rattle.uses.proofs.opening.climb.Goals as goal

pub loop-init : goal.loop-init
loop-init c = (
  climbed-none digests.ghosts.digest_of c.args.place c.args.leaf
      (verifying_of (λ s. s) c.args.verifier.now).bytes,
  refl,
)

pub loop-preserved : goal.loop-preserved
loop-preserved c =
    let received = c.in_ok-sibling.ensures.exact in (
      climbed-more digests.ghosts.digest_of c.args.place c.args.leaf _ c.loop.counter c.loop.place c.loop.node _ _ _ _
          c.loop.invariant.0 (bytes-read 32 _ _ _ received.read) c.in_ok-node.ensures,
      received.challenger ∙ c.loop.invariant.1,
    )

pub returns-clause-climbed : goal.returns-clause-climbed
returns-clause-climbed c =
    climbed-end digests.ghosts.digest_of c.args.place c.args.leaf _ c.loop.counter c.loop.place c.loop.node _
    (omega (arith, c.loop-test.false, c.loop.auto.counter-end)) c.loop.invariant.0
