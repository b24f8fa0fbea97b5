use Rattle.std.proofs.{Common.{◌≡◌, ◌++◌, ap, ◌∙◌, arith}, lemmas.List.take-append-drop}
use Rattle.p3_multi_field.specs.{MultiFieldState.scalars_observed, MultiFieldStateLaws.scalars-append}
use Rattle.p3_multi_field.proofs.Pairs.{pair_over}
use Rattle.p3_multi_field.proofs.multi_field_challenger.MultiField32Challenger.push_all.Goals as goal

-- the scalars that fill up what is pending
pub loop-rest-init : goal.loop-rest-init
loop-rest-init g c =
    let pair = pair_over g.F.PrimeCharacteristicRing.residues g.PF.PrimeCharacteristicRing.residues g.PF.FieldBridge in
    let permutation = g.P.CryptographicPermutation.permutation in
    let rate = g.row.RATE in
    let front = c.split_at.result.0.now in
    let rest = c.split_at.result.1.now in
    let parts : front ++ rest ≡ c.args.values.now = (λ i. c.split_at.ensures.front i ++ c.split_at.ensures.back i)
    ∙ take-append-drop c.min.result c.args.values.now in (
      ap (λ s. scalars_observed pair permutation rate s rest) c.push_within.ensures.fed
          ∙ scalars-append pair permutation rate c.args.self.now front rest
          ∙ ap (scalars_observed pair permutation rate c.args.self.now) parts,
      λ some. c.push_within.ensures.full (omega (arith, some, c.split_at.ensures, c.min.ensures, c.room.ensures.fills)),
    )

-- a batch more
pub loop-rest-preserved : goal.loop-rest-preserved
loop-rest-preserved g c =
    let pair = pair_over g.F.PrimeCharacteristicRing.residues g.PF.PrimeCharacteristicRing.residues g.PF.FieldBridge in
    let permutation = g.P.CryptographicPermutation.permutation in
    let rate = g.row.RATE in
    let split = c.split_at-in-loop-rest in
    let batch = split.result.0.now in
    let after = split.result.1.now in
    let parts : batch ++ after ≡ c.loop-rest.rest.now = (λ i. split.ensures.front i ++ split.ensures.back i)
    ∙ take-append-drop c.batch_len-batch_len.result c.loop-rest.rest.now in (
      ap (λ s. scalars_observed pair permutation rate s after) c.absorb_batch.ensures.fed
          ∙ scalars-append pair permutation rate c.loop-rest.self batch after
          ∙ ap (scalars_observed pair permutation rate c.loop-rest.self) parts
          ∙ c.loop-rest.invariant.0,
      λ some. c.absorb_batch.ensures.none_left,
    )
