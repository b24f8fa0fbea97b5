use Rattle.std.proofs.Common.{◌∙◌, ◌+◌, map, refl, sym, ap, arith}
use Rattle.p3_field_core.specs.RingLaws.{residues-ring}
use Rattle.p3_goldilocks.specs.{GoldilocksResidues.residues, GoldilocksLaws.laws}
use Rattle.p3_poseidon2.proofs.{Blocks.{sum-more, total-is}, Representatives.sum-of}
use Rattle.p3_poseidon2.proofs.unreduced_layers.total_of.Goals as goal

pub loop-i-init : goal.loop-i-init
loop-i-init g c = (refl, omega arith)

pub loop-i-preserved : goal.loop-i-preserved
loop-i-preserved g c =
    let more = c.from-others.result in (
      sum-more residues laws (map residues.of c.args.state.now) 1 c.loop-i.i (c.loop-i.i + 1) (residues.of c.loop-i.others) _
          (residues.of more) refl (sum-of (c.loop-i.others + more) c.loop-i.others more refl)
          (ap residues.of c.from-others.ensures ∙ c.number_in-summand.ensures)
          c.loop-i.invariant.0,
      omega (arith, c.loop-i.invariant.1),
    )

pub returns-clause-sum : goal.returns-clause-sum
returns-clause-sum g c =
    let cells = map residues.of c.args.state.now in
    let others = c.loop-i.others in
    let own = c.from.result in
    total-is residues laws cells g.row.WIDTH g.row.WIDTH c.loop-i.i 0 (residues.of others) (residues.of 0)
    (residues.of others) (residues.of own) (residues.of (others + own)) (omega (arith, c.requires.some)) (omega arith)
    c.loop-i.invariant.0 refl (sym ((residues-ring residues laws).sum_with_zero (residues.of others)))
    (ap residues.of c.from.ensures ∙ c.number_in-first.ensures) (sum-of (others + own) others own refl)
