use Rattle.std.proofs.Common.{◌∙◌, map, ap}
use Rattle.p3_goldilocks.specs.GoldilocksResidues.{residues}
use Rattle.p3_poseidon2.specs.Poseidon2.{times, m_e, external_rounds, internal_rounds}
use Rattle.p3_poseidon2.proofs.poseidon2.Poseidon2+Goldilocks+WIDTH+DEGREE+INTERNAL.permute_numbers.Goals as goal

pub returns : goal.returns
returns g c =
    let p = c.args.self.now in
    c.play_externals-2.ensures _ c.add_constants.ensures
    ∙ ap (external_rounds residues g.row.WIDTH g.row.DEGREE p.terminal)
    (c.play_internals.ensures
    ∙ ap (internal_rounds residues g.row.WIDTH g.row.DEGREE p.diagonal p.internal)
    (c.play_externals.ensures (times residues g.row.WIDTH m_e (map residues.of c.args.state.now)) c.mix_external.ensures))
