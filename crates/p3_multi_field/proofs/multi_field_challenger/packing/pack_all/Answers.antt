use Rattle.std.proofs.{Common.{◌≡◌, ◌<◌, length, take, drop, min, ap, ◌∙◌, refl}, lemmas.List.{take_min, drop_min}}
use Rattle.p3_field_bridge.specs.Bridges.{packed}
use Rattle.p3_multi_field.proofs.Packing.{has_packed-none, has_packed-next, has_packed-all}
use Rattle.p3_multi_field.proofs.multi_field_challenger.packing.pack_all.Goals as goal

pub loop-i-init : goal.loop-i-init
loop-i-init g c = has_packed-none _ (length c.args.cells.now) c.args.scalars.now

-- the next cell packs the next scalars
pub loop-i-preserved : goal.loop-i-preserved
loop-i-preserved g c =
    let bridge = g.PF.FieldBridge in
    let inner = g.F.PrimeCharacteristicRing.residues in
    let outer = g.PF.PrimeCharacteristicRing.residues in
    let rest = c.loop-i.rest.now in
    let count : c.min.result ≡ min bridge.ABSORB_COUNT (length rest) =
    c.min.ensures ∙ ap (λ k. min k (length rest)) c.ABSORB_COUNT.ensures in
    let front : c.split_at.result.0.now ≡ take bridge.ABSORB_COUNT rest =
    c.split_at.ensures.front ∙ ap (λ k. take k rest) count ∙ take_min bridge.ABSORB_COUNT rest in
    let back : c.split_at.result.1.now ≡ drop bridge.ABSORB_COUNT rest =
    c.split_at.ensures.back ∙ ap (λ k. drop k rest) count ∙ drop_min bridge.ABSORB_COUNT rest in
    let long : length c.loop-i.cells ≡ length c.args.cells.now = c.loop-i.auto.cells in
    let more : c.loop-i.i < length c.args.cells.now = c.loop-i-test.true in
    has_packed-next _ (length c.args.cells.now) c.args.scalars.now c.loop-i.cells _ c.loop-i.i rest
    c.split_at.result.1.now c.pack.result more long
    (c.pack.ensures ∙ ap (packed inner outer bridge.RADIX_BITS) front) back refl c.loop-i.invariant

pub returns : goal.returns
returns g c =
    has_packed-all _ (length c.args.cells.now) c.args.scalars.now c.loop-i.cells c.loop-i.i c.loop-i.rest.now
    c.loop-i-test.false c.loop-i.auto.cells c.loop-i.invariant
