use Rattle.std.proofs.{Common.arith, lemmas.List.FromFn.fill_by_all}
use Rattle.p3_symmetric.specs.Turn.{turned_cell}
use Rattle.p3_symmetric.proofs.turn.TurnCryptographicPermutationArray.permute_mut.Goals as goal

-- each cell is turned
pub returns : goal.returns
returns g c =
    let r = g.F.PrimeCharacteristicRing.residues in
    fill_by_all (turned_cell r g.row.K g.row.WIDTH c.args.state.now) c.loop-i.state g.row.WIDTH (r.of 0)
    c.loop-i.invariant.0
    (λ j below. c.loop-i.invariant.1 j (omega arith))
