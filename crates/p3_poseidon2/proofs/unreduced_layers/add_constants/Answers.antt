use Rattle.std.proofs.Common.{◌≡◌, ◌<◌, ◌∙◌, ◌+◌, length, map, refl, ap₂, arith}
use Rattle.std.proofs.lemmas.List.{length-map}
use Rattle.p3_field_core.specs.Residues.{sum_of}
use Rattle.p3_goldilocks.specs.GoldilocksResidues.{residues}
use Rattle.p3_poseidon2.specs.Poseidon2.{cell}
use Rattle.p3_poseidon2.proofs.Filling.{filled-none, filled-more, filled-all}
use Rattle.p3_poseidon2.proofs.unreduced_layers.add_constants.Goals as goal

pub loop-i-init : goal.loop-i-init
loop-i-init g c = filled-none _ _ _

pub loop-i-preserved : goal.loop-i-preserved
loop-i-preserved g c =
    let cells = map residues.of c.args.state.now in
    let i = c.loop-i.i in
    let so_far = c.loop-i.invariant in
    let long : length cells ≡ g.row.WIDTH = length-map c.args.state.now residues.of ∙ c.told-state in
    let inside : i < length cells = omega (arith, long, c.loop-i-test.true) in
    filled-more (residues.of 0) (λ j. sum_of residues (cell residues cells j) (cell residues c.args.constants.now j)) cells i (i + 1)
    (map residues.of c.loop-i.state) (map residues.of c.put_number.new.state) (residues.of c.plus-sum.result) refl inside
    c.put_number.ensures
    (c.plus-sum.ensures
    ∙ ap₂ (sum_of residues) (c.number_in-own.ensures ∙ so_far.after i (omega arith)) c.element_at-constant.ensures)
    so_far

pub returns : goal.returns
returns g c =
    filled-all _ _ _ g.row.WIDTH _ c.loop-i.i (omega arith) (length-map c.args.state.now residues.of ∙ c.told-state)
    c.loop-i.invariant
