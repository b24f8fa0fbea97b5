-- Sums of tables in parts, and of what is folded.
use Rattle.std.proofs.Common.{◌≡◌, ℕ, ◌+◌, ◌/◌, ◌<◌, List, [], ◌∷◌, ◌++◌, length, take, drop, sum_by, get_or, ap, ◌∙◌}
use Rattle.std.proofs.lemmas.List.Sums.{sum_by-cons, sum_by-take-drop, sum_by_more, sum_by_push}
use Rattle.p3_field.specs.{Residues.{Residues, IsResidues, sum_of}, Rings.IsRing, RingLaws.residues-ring}
use Rattle.p3_sumcheck.specs.Tables.{low_half, high_half, total}

module _ {F : Type 0} (r : Residues F) (laws : IsResidues r) where
  ring : IsRing r
  ring = residues-ring r laws

  -- the totals of a front of a table and of what is left add to that of the table
  pub total-split : (table : List F) (k : ℕ) → sum_of r (total r (take k table)) (total r (drop k table)) ≡ total r table
  total-split table k =
      ring.sum_of_numbers (sum_by r.number (take k table)) (sum_by r.number (drop k table))
      ∙ ap r.of (sum_by-take-drop r.number table k)

  pub total-parts : (table front rest : List F) (k : ℕ) (x y u : F) → front ≡ take k table → rest ≡ drop k table →
      x ≡ total r front → y ≡ total r rest → u ≡ sum_of r x y → u ≡ total r table
  total-parts table front rest k x y u is_front is_rest first second adds = cc (total-split table k)

  -- those of its halves
  pub total-halves : (table : List F) → sum_of r (total r (low_half table)) (total r (high_half table)) ≡ total r table
  total-halves table = total-split table (length table / 2)

  -- the total of a list with one value in front
  pub total-cons : (x : F) (xs : List F) → total r (x ∷ xs) ≡ sum_of r x (total r xs)
  total-cons x xs =
      cc (sum_by-cons r.number x xs, ring.sum_of_numbers (r.number x) (sum_by r.number xs), laws.of_number x)

  -- of a front of a list, with the next value added
  pub total-more : (xs : List F) (i : ℕ) (x : F) → i < length xs → x ≡ get_or xs i x → (t u : F) →
      t ≡ total r (take i xs) → u ≡ sum_of r t x → u ≡ total r (take (i + 1) xs)
  total-more xs i x below at t u so_far added =
      cc (
        sum_by_more r.number xs i x below,
        laws.of_number x,
        ring.sum_of_numbers (sum_by r.number (take i xs)) (r.number x),
      )

  -- of a list with one value at its end
  pub total-push : (xs : List F) (x : F) → total r (xs ++ (x ∷ [])) ≡ sum_of r (total r xs) x
  total-push xs x =
      cc (sum_by_push r.number xs x, ring.sum_of_numbers (sum_by r.number xs) (r.number x), laws.of_number x)

  -- the total of a table of one value is that value
  pub total-one : (x : F) → total r (x ∷ []) ≡ x
  total-one x = total-cons x [] ∙ ring.sum_with_zero x
