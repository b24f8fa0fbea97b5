-- Scalars packed into cells one cell after another.
use Rattle.std.proofs.Common.{◌≡◌, ℕ, zero, suc, ◌+◌, ◌-◌, ◌<◌, ◌≤◌, List, [], ◌∷◌, ◌++◌, length, take, drop, refl, sym}
use Rattle.std.proofs.lemmas.List.{take_more_set, take_all}
use Rattle.p3_field_bridge.specs.Bridges.{packed}
use Rattle.p3_multi_field.specs.MultiFieldCalls.{FieldPair, packed_cells}
use Rattle.std.proofs.{Common.{ap, ◌∙◌, subst, append_assoc, append-nil, arith}, Math.ListN.set}

-- as many cells pack scalars as are asked for
pub length-packed_cells : {F PF : Type 0} (pair : FieldPair F PF) (n : ℕ) (scalars : List F)
    → length (packed_cells pair n scalars) ≡ n
length-packed_cells pair zero scalars = refl
length-packed_cells pair (suc n) scalars = ap suc (length-packed_cells pair n (drop pair.absorb scalars))

module _ {F PF : Type 0} (pair : FieldPair F PF) (n : ℕ) (scalars : List F) where
  -- of n cells the front ones are packed, and the rest of the scalars is for those that are left
  pub record HasPacked (front : List PF) (left : ℕ) (rest : List F) : Type 0 where
    pub whole : packed_cells pair n scalars ≡ front ++ packed_cells pair left rest

  pub has_packed-none : HasPacked [] (n - 0) scalars
  has_packed-none =
      let all : n ≡ n - 0 = omega arith in
      subst (λ (left : ℕ). HasPacked [] left scalars) all (record { whole = refl })

  -- the cell at place i is packed
  pub has_packed-next : (cells after : List PF) (i : ℕ) (rest left : List F) (x : PF) → i < n → length cells ≡ n
      → x ≡ packed pair.inner pair.outer pair.bits (take pair.absorb rest) → left ≡ drop pair.absorb rest
      → after ≡ set cells i x → HasPacked (take i cells) (n - i) rest
      → HasPacked (take (i + 1) after) (n - (i + 1)) left
  has_packed-next cells after i rest left x more long is dropped wrote so_far =
      let one : n - i ≡ suc (n - (i + 1)) = omega arith in
      let inside : i < length cells = omega (arith, more, long) in
      let following : HasPacked (take i cells) (suc (n - (i + 1))) rest =
      subst (λ (k : ℕ). HasPacked (take i cells) k rest) one so_far in
      let longer : take i cells ++ x ∷ [] ≡ take (i + 1) after =
      sym (ap (take (i + 1)) wrote ∙ take_more_set cells i x inside) in
      let others = packed_cells pair (n - (i + 1)) in
      record {
        whole =
            following.whole
            ∙ (λ j. take i cells ++ (sym is j ∷ others (sym dropped j)))
            ∙ sym (append_assoc (take i cells) (x ∷ []) (others left))
            ∙ ap (λ front. front ++ others left) longer;
      }

  -- all of them
  pub has_packed-all : (cells : List PF) (i : ℕ) (rest : List F) → n ≤ i → length cells ≡ n
      → HasPacked (take i cells) (n - i) rest → cells ≡ packed_cells pair n scalars
  has_packed-all cells i rest all long so_far =
      let whole : length cells ≤ i = omega (arith, all, long) in
      let none : n - i ≡ 0 = omega arith in
      sym (so_far.whole
      ∙ ap (λ k. take i cells ++ packed_cells pair k rest) none
      ∙ append-nil (take i cells)
      ∙ take_all i cells whole)
