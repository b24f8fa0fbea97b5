use Rattle.std.proofs.Common.{◌≡◌, ◌∙◌, ◌+◌, ◌/◌, ◌*◌, map, refl, ap, arith}
use Rattle.p3_goldilocks.specs.{GoldilocksResidues.residues, GoldilocksLaws.laws}
use Rattle.p3_poseidon2.specs.Layers.{number_at, column}
use Rattle.p3_poseidon2.proofs.{Blocks.column-more, Representatives.sum-of}
use Rattle.p3_poseidon2.proofs.unreduced_layers.column_sums.Goals as goal

pub loop-block-init : goal.loop-block-init
loop-block-init g c = (refl, refl, refl, refl, omega arith, omega arith, omega arith, omega arith)

pub loop-block-preserved : goal.loop-block-preserved
loop-block-preserved g c =
    let cells = map residues.of c.args.state.now in
    let k = c.loop-block.block in
    let so_far = c.loop-block.invariant in
    let l = c.loop-block in (
      column-more residues laws cells 0 k (k + 1) (4 * k) (residues.of l.first) _ (residues.of c.from-first.result)
          refl (omega arith) (sum-of (l.first + c.from-first.result) l.first c.from-first.result refl)
          (ap residues.of c.from-first.ensures ∙ c.number_in-a.ensures) so_far.0,
      column-more residues laws cells 1 k (k + 1) (4 * k + 1) (residues.of l.second) _ (residues.of c.from-second.result)
          refl refl (sum-of (l.second + c.from-second.result) l.second c.from-second.result refl)
          (ap residues.of c.from-second.ensures ∙ c.number_in-b.ensures) so_far.1,
      column-more residues laws cells 2 k (k + 1) (4 * k + 2) (residues.of l.third) _ (residues.of c.from-third.result)
          refl refl (sum-of (l.third + c.from-third.result) l.third c.from-third.result refl)
          (ap residues.of c.from-third.ensures ∙ c.number_in-c.ensures) so_far.2,
      column-more residues laws cells 3 k (k + 1) (4 * k + 3) (residues.of l.fourth) _ (residues.of c.from-fourth.result)
          refl refl (sum-of (l.fourth + c.from-fourth.result) l.fourth c.from-fourth.result refl)
          (ap residues.of c.from-fourth.ensures ∙ c.number_in-d.ensures) so_far.3,
      omega (arith, so_far.4),
      omega (arith, so_far.5),
      omega (arith, so_far.6),
      omega (arith, so_far.7),
    )

pub returns-clause-first : goal.returns-clause-first
returns-clause-first g c =
    let n = number_at residues (map residues.of c.args.state.now) in
    let last : c.loop-block.block ≡ g.row.WIDTH / 4 = omega arith in
    (c.loop-block.invariant.0 ∙ ap (λ k. residues.of (column n 0 k)) last, omega (arith, c.loop-block.invariant.4, last, c.requires))

pub returns-clause-second : goal.returns-clause-second
returns-clause-second g c =
    let n = number_at residues (map residues.of c.args.state.now) in
    let last : c.loop-block.block ≡ g.row.WIDTH / 4 = omega arith in
    (c.loop-block.invariant.1 ∙ ap (λ k. residues.of (column n 1 k)) last, omega (arith, c.loop-block.invariant.5, last, c.requires))

pub returns-clause-third : goal.returns-clause-third
returns-clause-third g c =
    let n = number_at residues (map residues.of c.args.state.now) in
    let last : c.loop-block.block ≡ g.row.WIDTH / 4 = omega arith in
    (c.loop-block.invariant.2 ∙ ap (λ k. residues.of (column n 2 k)) last, omega (arith, c.loop-block.invariant.6, last, c.requires))

pub returns-clause-fourth : goal.returns-clause-fourth
returns-clause-fourth g c =
    let n = number_at residues (map residues.of c.args.state.now) in
    let last : c.loop-block.block ≡ g.row.WIDTH / 4 = omega arith in
    (c.loop-block.invariant.3 ∙ ap (λ k. residues.of (column n 3 k)) last, omega (arith, c.loop-block.invariant.7, last, c.requires))
