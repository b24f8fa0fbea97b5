use Rattle.std.proofs.Common.{◌≡◌, ◌<◌, ◌∙◌, ◌+◌, ℕ, List, [], ◌∷◌, map, length, slice_index_or, sym, ap, ap₂, lit<}
use Rattle.std.proofs.{Common.arith, lemmas.List.get_or-map}
use Rattle.p3_field.specs.{BabyBearResidues.{BabyBear, residues}, Residues.{plus, power_of, sum_of}}
use Rattle.p3_field.specs.{SmallPrimesInLanes.element_in, SmallPrimeLanes.SmallPrimeLanes}
use Rattle.uses.specs.OwnPermutation.{stirred_cell}
use Rattle.uses.proofs.own_permutation.StirLanePermutationBabyBear4.permute_lanes.Goals as goal

-- what a lane of a stirred cell has, by the cells of that lane
cell-stirred : {V : Type 0} (lane : V → BabyBear) (cells : List V) (i : ℕ) (d : V) (new : BabyBear) → i < length cells
    → new ≡ power_of residues (plus residues (lane (slice_index_or cells i d)) (i + 1)) 7
    → new ≡ stirred_cell (map lane cells) i
cell-stirred lane cells i d new there gives =
    gives ∙ ap (λ x. power_of residues (plus residues x (i + 1)) 7) (sym (get_or-map lane cells i d (residues.of 0) there))

pub returns : goal.returns
returns c l lt =
    let state = c.args.state.now in
    let sum = sum_of residues in
    let lane : SmallPrimeLanes 2013265921 8 → BabyBear = λ v. element_in (lit< tt) l v.numbers in
    let one = cell-stirred lane state 0 c.index-state-0.result _ (omega (arith, c.told-state))
    (c.stirred_lanes-first.ensures l lt) in
    let two = cell-stirred lane state 1 c.index-state-1.result _ (omega (arith, c.told-state))
    (c.stirred_lanes-second.ensures l lt) in
    let three = cell-stirred lane state 2 c.index-state-2.result _ (omega (arith, c.told-state))
    (c.stirred_lanes-third.ensures l lt) in
    let four = cell-stirred lane state 3 c.index-state-3.result _ (omega (arith, c.told-state))
    (c.stirred_lanes-fourth.ensures l lt) in
    let total = c.add-total.ensures l lt
    ∙ ap₂ sum (c.add-2.ensures l lt ∙ ap₂ sum (c.add.ensures l lt ∙ ap₂ sum one two) three) four in
    λ i. (c.add-3.ensures l lt ∙ ap₂ sum one total) i
    ∷ (c.add-4.ensures l lt ∙ ap₂ sum two total) i
    ∷ (c.add-5.ensures l lt ∙ ap₂ sum three total) i
    ∷ (c.add-6.ensures l lt ∙ ap₂ sum four total) i
    ∷ []
