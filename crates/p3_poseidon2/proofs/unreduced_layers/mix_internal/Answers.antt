use Rattle.std.proofs.Common.{◌≡◌, ◌<◌, ◌∙◌, ◌+◌, length, map, refl, arith}
use Rattle.std.proofs.lemmas.List.{length-map}
use Rattle.p3_field_core.specs.Residues.{product_of}
use Rattle.p3_goldilocks.specs.{GoldilocksResidues.residues, GoldilocksLaws.laws}
use Rattle.p3_poseidon2.specs.{Poseidon2.{product_cell, m_i}, Layers.number_at}
use Rattle.p3_poseidon2.proofs.{Blocks.internal-cell, Filling.{filled-none, filled-more, filled-all}}
use Rattle.p3_poseidon2.proofs.unreduced_layers.mix_internal.Goals as goal

pub loop-i-init : goal.loop-i-init
loop-i-init g c = filled-none _ _ _

pub loop-i-preserved : goal.loop-i-preserved
loop-i-preserved g c =
    let cells = map residues.of c.args.state.now in
    let i = c.loop-i.i in
    let so_far = c.loop-i.invariant in
    let own = residues.of c.number_in-own.result in
    let entry = c.element_at-entry.result in
    let long : length cells ≡ g.row.WIDTH = length-map c.args.state.now residues.of ∙ c.told-state in
    let inside : i < length cells = omega (arith, long, c.loop-i-test.true) in
    let below : i < g.row.WIDTH = c.loop-i-test.true in
    filled-more (residues.of 0) (product_cell residues g.row.WIDTH (m_i (number_at residues c.args.diagonal.now)) cells) cells
    i (i + 1) (map residues.of c.loop-i.state) (map residues.of c.put_number.new.state)
    (residues.of c.product_and-sum.result) refl inside c.put_number.ensures
    (internal-cell residues laws cells g.row.WIDTH i c.args.diagonal.now (residues.of c.total_of-total.result) own entry
    (product_of residues own entry) (residues.of c.product_and-sum.result) below c.total_of-total.ensures.sum
    (c.number_in-own.ensures ∙ so_far.after i (omega arith)) c.element_at-entry.ensures refl c.product_and-sum.ensures)
    so_far

pub returns : goal.returns
returns g c =
    filled-all _ _ _ g.row.WIDTH _ c.loop-i.i (omega arith) (length-map c.args.state.now residues.of ∙ c.told-state)
    c.loop-i.invariant
