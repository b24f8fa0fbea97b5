use Rattle.std.proofs.Common.{◌∙◌, map, refl, arith}
use lib.ListN.{get_or-replicate}
use Rattle.p3_goldilocks.specs.{GoldilocksResidues.residues, GoldilocksLaws.{laws, number-injective}}
use Rattle.p3_poseidon2.proofs.Begun.{begun-more, begun-all}
use Rattle.p3_poseidon2.proofs.unreduced_rounds.play_externals.Goals as goal

pub loop-i-init : goal.loop-i-init
loop-i-init g c cells start = record { now = cells; here = start; left = refl }

pub loop-i-preserved : goal.loop-i-preserved
loop-i-preserved g c cells start =
    begun-more residues g.row.WIDTH g.row.DEGREE c.args.rounds.now c.loop-i.i (map residues.of c.loop-i.state) _ cells
    (omega arith) c.play_external.ensures (c.loop-i.invariant cells start)

pub returns : goal.returns
returns g c cells start =
    begun-all residues laws g.row.WIDTH g.row.DEGREE c.args.rounds.now c.loop-i.i _ (map residues.of c.loop-i.state) _ cells
    (omega arith) c.play_external-2.ensures
    (λ k below. get_or-replicate g.row.WIDTH k _ _ below ∙ number-injective _ (residues.of 0) refl)
    (c.loop-i.invariant cells start)
