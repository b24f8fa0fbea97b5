use Rattle.std.proofs.Common.{◌≡◌, ℕ, ◌<◌, ◌∙◌, ◌+◌, ◌*◌, ◌/◌, length, map, refl, sym, ap, ap₂, arith}
use Rattle.std.proofs.lemmas.List.{length-map}
use Rattle.p3_field_core.specs.Residues.{sum_of}
use Rattle.p3_goldilocks.specs.{GoldilocksResidues.residues, GoldilocksLaws.laws, declared.goldilocks.Goldilocks.Goldilocks}
use Rattle.p3_poseidon2.specs.Poseidon2.{cell, product_cell, times, m_e}
use Rattle.p3_poseidon2.proofs.{Begun.cell-of, Blocks.external-cell, Filling.{filled-none, filled-more, filled-all}}
use Rattle.p3_poseidon2.proofs.Representatives.{sum-of, combination-of}
use Rattle.p3_poseidon2.proofs.unreduced_layers.mix_external.Goals as goal

pub loop-block-init : goal.loop-block-init
loop-block-init g c = filled-none _ _ _

pub loop-block-preserved : goal.loop-block-preserved
loop-block-preserved g c =
    let width = g.row.WIDTH in
    let cells = map residues.of c.args.state.now in
    let k = c.loop-block.block in
    let so_far = c.loop-block.invariant in
    let long : length cells ≡ width = length-map c.args.state.now residues.of ∙ c.told-state in
    let below : k < width / 4 = c.loop-block-test.true in
    let product = product_cell residues width m_e cells in
    let next = c.args.next.now in
    let target : ℕ → Goldilocks = λ i. sum_of residues (cell residues (times residues width m_e cells) i) (cell residues next i) in
    let none : 4 * k ≡ 4 * k + 0 = omega arith in
    let sums = c.column_sums-first in
    let mixed = c.mixed_four-mixed_a in
    let s_a = c.from.result + sums.result.0 in
    let of_a : residues.of s_a ≡ sum_of residues (cell residues cells (4 * k + 0)) (residues.of sums.result.0) =
    sum-of s_a c.from.result sums.result.0 refl ∙ ap (λ x. sum_of residues x (residues.of sums.result.0))
    (ap residues.of c.from.ensures ∙ c.number_in-a.ensures ∙ so_far.after (4 * k) (omega arith) ∙ ap (cell residues cells) none) in
    let s_b = c.from-in-loop-block.result + sums.result.1 in
    let of_b : residues.of s_b ≡ sum_of residues (cell residues cells (4 * k + 1)) (residues.of sums.result.1) =
    sum-of s_b c.from-in-loop-block.result sums.result.1 refl ∙ ap (λ x. sum_of residues x (residues.of sums.result.1))
    (ap residues.of c.from-in-loop-block.ensures ∙ c.number_in-b.ensures ∙ so_far.after (4 * k + 1) (omega arith)) in
    let s_c = c.from-in-loop-block-2.result + sums.result.2 in
    let of_c : residues.of s_c ≡ sum_of residues (cell residues cells (4 * k + 2)) (residues.of sums.result.2) =
    sum-of s_c c.from-in-loop-block-2.result sums.result.2 refl ∙ ap (λ x. sum_of residues x (residues.of sums.result.2))
    (ap residues.of c.from-in-loop-block-2.ensures ∙ c.number_in-c.ensures ∙ so_far.after (4 * k + 2) (omega arith)) in
    let s_d = c.from-in-loop-block-3.result + sums.result.3 in
    let of_d : residues.of s_d ≡ sum_of residues (cell residues cells (4 * k + 3)) (residues.of sums.result.3) =
    sum-of s_d c.from-in-loop-block-3.result sums.result.3 refl ∙ ap (λ x. sum_of residues x (residues.of sums.result.3))
    (ap residues.of c.from-in-loop-block-3.ensures ∙ c.number_in-d.ensures ∙ so_far.after (4 * k + 3) (omega arith)) in
    let product_0 : residues.of mixed.result.0 ≡ product (4 * k + 0) =
    external-cell residues laws cells width k c.requires.blocks below
    (residues.of sums.result.0) (residues.of sums.result.1) (residues.of sums.result.2) (residues.of sums.result.3)
    sums.ensures.first.0 sums.ensures.second.0 sums.ensures.third.0 sums.ensures.fourth.0
    (residues.of s_a) (residues.of s_b) (residues.of s_c) (residues.of s_d) of_a of_b of_c of_d
    0 (omega arith) (residues.of mixed.result.0)
    (combination-of 2 3 1 1 s_a s_b s_c s_d mixed.result.0 mixed.result.0 refl mixed.ensures.first) in
    let value_0 : residues.of c.folded_with-new_a.result ≡ target (4 * k + 0) =
    c.folded_with-new_a.ensures
    ∙ ap₂ (sum_of residues) (product_0 ∙ sym (cell-of residues width (4 * k + 0) product (omega (arith, c.requires.blocks, below))))
    (c.element_at-next_a.ensures ∙ ap (cell residues next) none) in
    let product_1 : residues.of mixed.result.1 ≡ product (4 * k + 1) =
    external-cell residues laws cells width k c.requires.blocks below
    (residues.of sums.result.0) (residues.of sums.result.1) (residues.of sums.result.2) (residues.of sums.result.3)
    sums.ensures.first.0 sums.ensures.second.0 sums.ensures.third.0 sums.ensures.fourth.0
    (residues.of s_a) (residues.of s_b) (residues.of s_c) (residues.of s_d) of_a of_b of_c of_d
    1 (omega arith) (residues.of mixed.result.1)
    (combination-of 1 2 3 1 s_a s_b s_c s_d mixed.result.1 mixed.result.1 refl mixed.ensures.second) in
    let value_1 : residues.of c.folded_with-new_b.result ≡ target (4 * k + 1) =
    c.folded_with-new_b.ensures
    ∙ ap₂ (sum_of residues) (product_1 ∙ sym (cell-of residues width (4 * k + 1) product (omega (arith, c.requires.blocks, below))))
    c.element_at-next_b.ensures in
    let product_2 : residues.of mixed.result.2 ≡ product (4 * k + 2) =
    external-cell residues laws cells width k c.requires.blocks below
    (residues.of sums.result.0) (residues.of sums.result.1) (residues.of sums.result.2) (residues.of sums.result.3)
    sums.ensures.first.0 sums.ensures.second.0 sums.ensures.third.0 sums.ensures.fourth.0
    (residues.of s_a) (residues.of s_b) (residues.of s_c) (residues.of s_d) of_a of_b of_c of_d
    2 (omega arith) (residues.of mixed.result.2)
    (combination-of 1 1 2 3 s_a s_b s_c s_d mixed.result.2 mixed.result.2 refl mixed.ensures.third) in
    let value_2 : residues.of c.folded_with-new_c.result ≡ target (4 * k + 2) =
    c.folded_with-new_c.ensures
    ∙ ap₂ (sum_of residues) (product_2 ∙ sym (cell-of residues width (4 * k + 2) product (omega (arith, c.requires.blocks, below))))
    c.element_at-next_c.ensures in
    let product_3 : residues.of mixed.result.3 ≡ product (4 * k + 3) =
    external-cell residues laws cells width k c.requires.blocks below
    (residues.of sums.result.0) (residues.of sums.result.1) (residues.of sums.result.2) (residues.of sums.result.3)
    sums.ensures.first.0 sums.ensures.second.0 sums.ensures.third.0 sums.ensures.fourth.0
    (residues.of s_a) (residues.of s_b) (residues.of s_c) (residues.of s_d) of_a of_b of_c of_d
    3 (omega arith) (residues.of mixed.result.3)
    (combination-of 3 1 1 2 s_a s_b s_c s_d mixed.result.3 mixed.result.3 refl mixed.ensures.fourth) in
    let value_3 : residues.of c.folded_with-new_d.result ≡ target (4 * k + 3) =
    c.folded_with-new_d.ensures
    ∙ ap₂ (sum_of residues) (product_3 ∙ sym (cell-of residues width (4 * k + 3) product (omega (arith, c.requires.blocks, below))))
    c.element_at-next_d.ensures in
    let step_0 =
    filled-more (residues.of 0) target cells (4 * k) (4 * k + 1) (map residues.of c.loop-block.state)
    (map residues.of c.put_number.new.state) (residues.of c.folded_with-new_a.result) (omega arith) (omega (arith, long, below))
    c.put_number.ensures (value_0 ∙ ap target (sym none)) so_far in
    let step_1 =
    filled-more (residues.of 0) target cells (4 * k + 1) (4 * k + 2) (map residues.of c.put_number.new.state)
    (map residues.of c.put_number-in-loop-block.new.state) (residues.of c.folded_with-new_b.result) (omega arith) (omega (arith, long, below))
    c.put_number-in-loop-block.ensures value_1 step_0 in
    let step_2 =
    filled-more (residues.of 0) target cells (4 * k + 2) (4 * k + 3) (map residues.of c.put_number-in-loop-block.new.state)
    (map residues.of c.put_number-in-loop-block-2.new.state) (residues.of c.folded_with-new_c.result) (omega arith) (omega (arith, long, below))
    c.put_number-in-loop-block-2.ensures value_2 step_1 in
    let step_3 =
    filled-more (residues.of 0) target cells (4 * k + 3) (4 * (k + 1)) (map residues.of c.put_number-in-loop-block-2.new.state)
    (map residues.of c.put_number-in-loop-block-3.new.state) (residues.of c.folded_with-new_d.result) (omega arith) (omega (arith, long, below))
    c.put_number-in-loop-block-3.ensures value_3 step_2 in
    step_3

pub returns : goal.returns
returns g c =
    filled-all _ _ _ g.row.WIDTH _ (4 * c.loop-block.block) (omega (arith, c.requires.blocks))
    (length-map c.args.state.now residues.of ∙ c.told-state) c.loop-block.invariant
