use Rattle.std.proofs.Common.{◌∙◌, ap}
use Rattle.p3_goldilocks.specs.GoldilocksResidues.{residues}
use Rattle.p3_poseidon2.specs.{Poseidon2.{times, m_e}, Begun.with_constants}
use Rattle.p3_poseidon2.proofs.unreduced_rounds.play_external.Goals as goal

pub returns : goal.returns
returns g c =
    c.mix_external.ensures
    ∙ ap (λ xs. with_constants residues g.row.WIDTH c.args.next.now (times residues g.row.WIDTH m_e xs)) c.put_powers.ensures
