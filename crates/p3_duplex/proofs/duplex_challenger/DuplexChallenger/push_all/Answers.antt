use Rattle.std.proofs.{Common.{◌≡◌, ◌++◌, ap, ◌∙◌, arith}, lemmas.List.take-append-drop}
use Rattle.p3_duplex.specs.{DuplexState.fed, DuplexStateLaws.fed-append}
use Rattle.p3_duplex.proofs.duplex_challenger.DuplexChallenger.push_all.Goals as goal

-- the values that fill up what is pending
pub loop-rest-init : goal.loop-rest-init
loop-rest-init g c =
    let r = g.F.PrimeCharacteristicRing.residues in
    let permutation = g.P.CryptographicPermutation.permutation in
    let rate = g.row.RATE in
    let front = c.split_at.result.0.now in
    let rest = c.split_at.result.1.now in
    let parts : front ++ rest ≡ c.args.values.now = (λ i. c.split_at.ensures.front i ++ c.split_at.ensures.back i)
    ∙ take-append-drop c.min.result c.args.values.now in (
      ap (λ s. fed r permutation rate s rest) c.push_within.ensures.fed
          ∙ fed-append r permutation rate c.args.self.now front rest
          ∙ ap (fed r permutation rate c.args.self.now) parts,
      λ some. c.push_within.ensures.full (omega (arith, some, c.split_at.ensures, c.min.ensures, c.room.ensures.fills)),
    )

-- a block more
pub loop-rest-preserved : goal.loop-rest-preserved
loop-rest-preserved g c =
    let r = g.F.PrimeCharacteristicRing.residues in
    let permutation = g.P.CryptographicPermutation.permutation in
    let rate = g.row.RATE in
    let split = c.split_at-in-loop-rest in
    let block = split.result.0.now in
    let after = split.result.1.now in
    let parts : block ++ after ≡ c.loop-rest.rest.now = (λ i. split.ensures.front i ++ split.ensures.back i)
    ∙ take-append-drop rate c.loop-rest.rest.now in (
      ap (λ s. fed r permutation rate s after) c.absorb_block.ensures.fed
          ∙ fed-append r permutation rate c.loop-rest.self block after
          ∙ ap (fed r permutation rate c.loop-rest.self) parts ∙ c.loop-rest.invariant.0,
      λ some. c.absorb_block.ensures.none_left,
    )
