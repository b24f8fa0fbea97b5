use Rattle.std.proofs.Common.{◌≡◌, ◌∙◌, ◌+◌, map, refl, ap, arith}
use Rattle.p3_poseidon2.specs.{Poseidon2.sum_below, Layers.number_at}
use Rattle.p3_poseidon2.proofs.Blocks.{sum-more}
use Rattle.p3_poseidon2.proofs.layers.sum_from.Goals as goal

pub loop-i-init : goal.loop-i-init
loop-i-init g c m lt =
    let zero_is : g.F.PrimeCharacteristicRing.ZERO ≡ g.F.PrimeCharacteristicRing.residues.of 0 =
    g.met.F.PrimeCharacteristicRing.zero_is in
    c.broadcast-sum.ensures m lt ∙ c.ZERO.ensures ∙ zero_is

pub loop-i-preserved : goal.loop-i-preserved
loop-i-preserved g c m lt =
    let lane = g.V.PackedValue.in_lane m in
    sum-more g.F.PrimeCharacteristicRing.residues g.met.F.PrimeCharacteristicRing.are_residues
    (map lane c.args.state.now) c.args.first c.loop-i.i (c.loop-i.i + 1) (lane c.loop-i.sum) (lane c.add-sum.result)
    (lane c.cell_at-summand.result) refl (g.met.V.PackedValue.add_law _ _ _ c.add-sum.ensures m lt)
    (c.cell_at-summand.ensures m) (c.loop-i.invariant m lt)

pub returns : goal.returns
returns g c l lt =
    let r = g.F.PrimeCharacteristicRing.residues in
    let cells = map (g.V.PackedValue.in_lane l) c.args.state.now in
    let last : c.loop-i.i ≡ c.args.count = omega arith in
    c.loop-i.invariant l lt ∙ ap (λ k. r.of (sum_below k (λ j. number_at r cells (c.args.first + j)))) last
