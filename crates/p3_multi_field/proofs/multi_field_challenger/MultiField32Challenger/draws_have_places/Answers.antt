use Rattle.std.proofs.Common.{subst}
use Rattle.p3_sponge.specs.SpongeStepLaws.{Fits}
use Rattle.p3_multi_field.specs.{MultiFieldCalls.scalars_rule, MultiFieldState.MultiFieldState}
use Rattle.p3_multi_field.proofs.MultiFieldSteps.{kept-fits}
use Rattle.p3_multi_field.proofs.{Pairs.pair_over, Calls.{scalars-places, digest-places}, Numbers.some_product}
use Rattle.p3_multi_field.proofs.multi_field_challenger.MultiField32Challenger.draws_have_places.Goals as goal

pub returns : goal.returns
returns g c =
    let bridge = g.PF.FieldBridge in
    let pair = pair_over g.F.PrimeCharacteristicRing.residues g.PF.PrimeCharacteristicRing.residues bridge in
    let rate = g.row.RATE in
    let inside = c.self.inside in
    let keeps = c.self.invariant in
    let state = c.args.self.now in
    let permute = g.P.CryptographicPermutation.permutation state.permutation in
    let rule = scalars_rule pair permute rate in
    let fits : Fits rule state.sponge =
    subst (λ (d : MultiFieldState g.row.F.Denot g.row.PF.Denot g.row.P.Denot). Fits rule d.sponge) c.self.view_is
    (kept-fits pair permute _ rate _ _ inside.scalars inside.outputs_left inside.sponge_state inside.pending keeps) in
    let some_batch = some_product bridge.ABSORB_COUNT rate keeps.some_packed keeps.positive in
    let some_row = some_product rate bridge.SQUEEZE_COUNT keeps.positive keeps.some_digits in
    record {
      scalars = scalars-places pair permute rate keeps.positive some_batch some_row state.sponge fits;
      digest = digest-places pair permute rate keeps.positive some_batch some_row state.sponge fits;
    }
