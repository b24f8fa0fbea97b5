use Rattle.std.proofs.Common.{rules, IsTrue, ap, sym}
use Rattle.p3_challenger.specs.{HashState.observed, Observation.observed_all, SeparatorSeed.seed_of_separator}
use Rattle.p3_challenger.specs.Drivers.{verifying_of}
use Rattle.p3_challenger.specs.BegunLaws.{begun-as}
use Rattle.uses.proofs.MerkleOpening.{opened-as}
use Rattle.p3_symmetric.specs.contracts.sha256.Sha256HasherDigestHasher.TheImpl as digests
use Rattle.uses.proofs.opening.verify.Goals as goal

pub returns : goal.returns
returns c =
    let verifier = verifying_of (λ s. s) c.in_ok-verifier.verifier in
    let in_tree : IsTrue c.in_ok-leaf.leaf.in_tree = search (rules, c.if-not-leaf.false) in
    opened-as digests.ghosts.digest_of _ (observed_all observed) _ _ _ _ _ _ _ _ _ _
    (ap (λ v. v.bytes) c.in_ok-verifier.ensures.ok)
    (begun-as c.challenger.result verifier.transcript.challenger
    (seed_of_separator digests.ghosts.digest_of c.args.separator.now)
    (ap (λ v. v.transcript.challenger) c.in_ok-verifier.ensures.ok) c.challenger.ensures)
    c.in_ok-challenger.ensures.ok.0.whole (sym c.in_ok-challenger.ensures.ok.1) (c.in_ok-leaf.ensures in_tree)
