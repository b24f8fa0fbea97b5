-- Rounds whose constants are added in the layer before them.
use Rattle.std.proofs.Common.{◌≡◌, ℕ, ◌+◌, ◌<◌, ◌∙◌, List, [], length, get_or, drop, map, refl, sym, ap, arith}
use Rattle.std.proofs.lemmas.List.{drop_all}
use Rattle.std.proofs.lemmas.List.FromFn.{fill_by_all, get_or-map-range_with_len, length-map-range_with_len}
use Rattle.std.specs.List.{range_with_len}
use Rattle.p3_field_core.specs.{Residues.{Residues, IsResidues, sum_of, power_of}, RingLaws.residues-ring}
use Rattle.p3_poseidon2.specs.Poseidon2.{cell, product_cell, times, m_e, full_cell, full_s_boxes, external_round, external_rounds}
use Rattle.p3_poseidon2.specs.Begun.{with_constants, powered}
use Rattle.p3_poseidon2.proofs.Steps.{external-step}

module _ {F : Type 0} (r : Residues F) where
  pub cell-of : (width i : ℕ) (f : ℕ → F) → i < width → cell r (map f (range_with_len 0 width)) i ≡ f i
  cell-of width i f inside = get_or-map-range_with_len f 0 width i i (r.of 0) inside (omega arith)

  -- the powers of cells that have the constants are what the S-boxes give
  powered-is : (width degree : ℕ) (constants cells : List F)
      → powered r width degree (with_constants r width constants cells) ≡ full_s_boxes r width degree constants cells
  powered-is width degree constants cells =
      let begun : ℕ → F = λ i. sum_of r (cell r cells i) (cell r constants i) in
      let f : ℕ → F = λ i. power_of r (cell r (with_constants r width constants cells) i) degree in
      fill_by_all (full_cell r degree constants cells) (map f (range_with_len 0 width)) width (r.of 0)
      (length-map-range_with_len f 0 width)
      (λ k below. cell-of width k f below ∙ ap (λ x. power_of r x degree) (cell-of width k begun below))

  -- a round of cells that have its constants
  pub round-is : (width degree : ℕ) (constants cells next state new : List F)
      → state ≡ with_constants r width constants cells
      → new ≡ with_constants r width next (times r width m_e (powered r width degree state))
      → new ≡ with_constants r width next (external_round r width degree constants cells)
  round-is width degree constants cells next state new here is =
      is ∙ ap (λ xs. with_constants r width next (times r width m_e (powered r width degree xs))) here
      ∙ ap (λ xs. with_constants r width next (times r width m_e xs)) (powered-is width degree constants cells)

  -- with constants that are all 0 the cells are as they were
  pub with-none : IsResidues r → (width : ℕ) (constants : List F) (f : ℕ → F)
      → ((i : ℕ) → i < width → cell r constants i ≡ r.of 0)
      → with_constants r width constants (map f (range_with_len 0 width)) ≡ map f (range_with_len 0 width)
  with-none laws width constants f none =
      let cells = map f (range_with_len 0 width) in
      let sums : ℕ → F = λ i. sum_of r (cell r cells i) (cell r constants i) in
      sym (fill_by_all sums cells width (r.of 0) (length-map-range_with_len f 0 width)
      (λ k below. sym (ap (sum_of r (cell r cells k)) (none k below) ∙ (residues-ring r laws).sum_with_zero (cell r cells k))))

  -- the rounds so far: the state is cells with the constants of the next round, and of these cells the rounds that are left
  -- make what all of them make of the first ones
  pub record Begun (width degree : ℕ) (rounds : List (List F)) (i : ℕ) (state cells : List F) : Type 0 where
    pub now : List F
    pub here : state ≡ with_constants r width (get_or rounds i []) now
    pub left : external_rounds r width degree (drop i rounds) now ≡ external_rounds r width degree rounds cells

  pub begun-more : (width degree : ℕ) (rounds : List (List F)) (i : ℕ) (state new cells : List F) → i < length rounds
      → new ≡ with_constants r width (get_or rounds (i + 1) []) (times r width m_e (powered r width degree state))
      → Begun width degree rounds i state cells → Begun width degree rounds (i + 1) new cells
  begun-more width degree rounds i state new cells more is so_far = record {
    now = external_round r width degree (get_or rounds i []) so_far.now;
    here = round-is width degree (get_or rounds i []) so_far.now (get_or rounds (i + 1) []) state new so_far.here is;
    left = external-step r width degree rounds i [] so_far.now
        (external_round r width degree (get_or rounds i []) so_far.now) (external_rounds r width degree rounds cells) more refl
        so_far.left;
  }

  -- the last of four rounds, which adds no constants
  pub begun-all : IsResidues r → (width degree : ℕ) (rounds : List (List F)) (i : ℕ) (none state new cells : List F)
      → length rounds ≡ i + 1 → new ≡ with_constants r width none (times r width m_e (powered r width degree state))
      → ((k : ℕ) → k < width → cell r none k ≡ r.of 0)
      → Begun width degree rounds i state cells → new ≡ external_rounds r width degree rounds cells
  begun-all laws width degree rounds i none state new cells last is zeros so_far =
      let round = external_round r width degree (get_or rounds i []) so_far.now in
      let whole = external_rounds r width degree rounds cells in
      let past : drop (i + 1) rounds ≡ [] = drop_all (i + 1) rounds (omega (arith, last)) in
      let left : external_rounds r width degree (drop (i + 1) rounds) round ≡ whole =
      external-step r width degree rounds i [] so_far.now round whole (omega (arith, last)) refl so_far.left in
      round-is width degree (get_or rounds i []) so_far.now none state new so_far.here is
      ∙ with-none laws width none
      (product_cell r width m_e (full_s_boxes r width degree (get_or rounds i []) so_far.now)) zeros
      ∙ sym (ap (λ rows. external_rounds r width degree rows round) past) ∙ left
