use Rattle.std.proofs.Common.{◌≡◌, ◌<◌, ◌-◌, ◌∷◌, length, take, drop, min, sym, ap, ◌∙◌, arith}
use Rattle.p3_multi_field.proofs.{Pairs.pair_over, WordBlocks.blocks-some}
use Rattle.std.proofs.lemmas.{Bool.Decides.nat_tests, List.{length-drop, take_min, drop_min}}
use Rattle.p3_multi_field.specs.{MultiFieldCalls.{words_absorbed, blocks}, MultiFieldState.MultiFieldState}
use Rattle.p3_multi_field.proofs.multi_field_challenger.MultiField32Challenger.push_digest.Goals as goal

-- at least one word is absorbed
pub loop-rest-smaller : goal.loop-rest-smaller
loop-rest-smaller g c =
    let rest = c.loop-rest.rest.now in
    let some : 0 < length rest = grind (arith, nat_tests, c.loop-rest-test.ensures) in
    let count : c.min.result ≡ min g.row.RATE (length rest) = c.min.ensures in
    let back : length c.split_at.result.1.now ≡ length rest - c.min.result =
    ap length c.split_at.ensures.back ∙ length-drop c.min.result rest in
    omega (arith, some, count, back, c.self.invariant.positive)

-- a block more
pub loop-rest-preserved : goal.loop-rest-preserved
loop-rest-preserved g c =
    let pair = pair_over g.F.PrimeCharacteristicRing.residues g.PF.PrimeCharacteristicRing.residues g.PF.FieldBridge in
    let outer = g.PF.PrimeCharacteristicRing.residues in
    let permutation = g.P.CryptographicPermutation.permutation in
    let rate = g.row.RATE in
    let here = c.loop-rest.self in
    let rest = c.loop-rest.rest.now in
    let permute = permutation here.permutation in
    let block = c.split_at.result.0.now in
    let after = c.split_at.result.1.now in
    let some : 0 < length rest = grind (arith, nat_tests, c.loop-rest-test.ensures) in
    let front : block ≡ take rate rest =
    c.split_at.ensures.front ∙ ap (λ k. take k rest) c.min.ensures ∙ take_min rate rest in
    let back : after ≡ drop rate rest =
    c.split_at.ensures.back ∙ ap (λ k. drop k rest) c.min.ensures ∙ drop_min rate rest in
    let both : (block ∷ blocks rate after) ≡ blocks rate rest =
    (λ i. front i ∷ blocks rate (back i)) ∙ sym (blocks-some rate c.self.invariant.positive rest some) in
    let others : MultiFieldState g.row.F.Denot g.row.PF.Denot g.row.P.Denot
    → MultiFieldState g.row.F.Denot g.row.PF.Denot g.row.P.Denot =
    λ s. record s { sponge = words_absorbed pair (permutation s.permutation) rate s.sponge (blocks rate after) } in (
      ap others c.absorb_words.ensures
          ∙ ap (λ bs. record here { sponge = words_absorbed pair permute rate here.sponge bs }) both
          ∙ c.loop-rest.invariant.0,
      ap (λ (s : MultiFieldState g.row.F.Denot g.row.PF.Denot g.row.P.Denot). s.sponge.pending) c.absorb_words.ensures,
    )
