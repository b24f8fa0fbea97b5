use Rattle.std.proofs.Common.{sym, ap, ◌∙◌}
use Rattle.p3_challenger.specs.{HashState.observed, Observation.observed_all}
use Rattle.p3_challenger.specs.ReadsLaws.{bytes-read}
use Rattle.uses.proofs.MerkleOpening.{leaf-read, counted-leaf, opened-by}
use Rattle.p3_symmetric.specs.contracts.sha256.Sha256HasherDigestHasher.TheImpl as digests
use Rattle.uses.proofs.opening.receive.Goals as goal

pub returns : goal.returns
returns c in_tree =
    let of_root = bytes-read 32 _ _ _ c.in_ok-root.ensures.exact.read in
    let of_leaf = leaf-read _ _ _ c.in_ok-bytes.ensures.exact.read in
    let of_salt = bytes-read 16 _ _ _ c.in_ok-salt.ensures.exact.read in
    opened-by digests.ghosts.digest_of _ (observed_all observed) _ _ _ _ _ _ _ _ _ _ _ _ _ _ _ of_root
    (sym c.in_ok-place.ensures.bytes ∙ of_leaf.0, of_leaf.1) of_salt c.in_ok-node.ensures
    (c.same_bytes-in_tree.ensures.0 in_tree) c.in_ok-top.ensures.climbed c.in_ok-root.ensures.exact.challenger
    c.in_ok-place.ensures.drawn
    (c.in_ok-top.ensures.untouched ∙ c.in_ok-salt.ensures.exact.challenger
    ∙ ap (λ s. observed_all observed s c.in_ok-salt.salt.now)
    (counted-leaf observed _ _ c.in_ok-bytes.bytes.now of_leaf.1 c.in_ok-bytes.ensures.exact.challenger))
