use Rattle.std.proofs.Common.{◌∙◌, map, slice_set, ap}
use Rattle.p3_field_core.specs.Residues.{sum_of, power_of}
use Rattle.p3_goldilocks.specs.GoldilocksResidues.{residues}
use Rattle.p3_poseidon2.specs.{Poseidon2.{times, m_i}, Layers.number_at}
use Rattle.p3_poseidon2.proofs.unreduced_rounds.play_internal.Goals as goal

pub returns : goal.returns
returns g c =
    let cells = map residues.of c.args.state.now in
    c.mix_internal.ensures
    ∙ ap (times residues g.row.WIDTH (m_i (number_at residues c.args.diagonal.now)))
    (c.put_number.ensures
    ∙ ap (slice_set cells 0)
    (c.power-power.ensures
    ∙ ap (λ x. power_of residues x g.row.DEGREE)
    (c.plus-sum.ensures ∙ ap (λ x. sum_of residues x c.args.constant) c.number_in-first.ensures)))
