-- A table that is folded where it lies, place by place.
use Rattle.std.proofs.Common.{◌≡◌, ℕ, zero, suc, ◌+◌, ◌/◌, ◌<◌, ◌≤◌, List, [], ◌∷◌, ◌++◌, length, take, drop, get_or}
use Rattle.std.{proofs.Common.{set, refl, sym, ap, ◌∙◌, arith, add-zero, length-take-le, length-drop}, specs.List.zip}
use Rattle.std.proofs.lemmas.List.{take_all, take_more_set, drop-set-lt, drop-drop, get_or-drop, length-set, length-map}
use Rattle.std.proofs.{Math.Seq.{take-append_seam, drop-append_seam}, lemmas.Slice.Zip.length-zip}
use Rattle.p3_field.specs.{Residues.{Residues, IsResidues, sum_of, difference_of, product_of}, Rings.IsRing}
use Rattle.p3_field.specs.RingLaws.{residues-ring}
use Rattle.p3_sumcheck.specs.Tables.{low_half, high_half, value_at, total, fold_pairs, folded}
use Rattle.p3_sumcheck.proofs.TableSums.{total-cons, total-push}

-- what is the same from a place on is the same from the next one on
drop-one-more : {F : Type 0} (xs ys : List F) (i : ℕ) → drop i xs ≡ drop i ys → drop (i + 1) xs ≡ drop (i + 1) ys
drop-one-more xs ys i same = sym (drop-drop 1 i xs) ∙ ap (drop 1) same ∙ drop-drop 1 i ys

module _ {F : Type 0} (r : Residues F) (x : F) where
  pub fold-length : (low high : List F) → length low ≤ length high → length (fold_pairs r x low high) ≡ length low
  fold-length low high within =
      length-map (zip low high) (λ pair. value_at r x pair.0 pair.1) ∙ length-zip low high ∙ (omega (arith, within))

  pub folded-half : (table : List F) → length (folded r x table) ≡ length table / 2
  folded-half table =
      let low = length-take-le (length table / 2) table (omega arith) in
      fold-length (low_half table) (high_half table) (omega (arith, low, length-drop (length table / 2) table)) ∙ low

  -- one place more
  fold-more : (low high : List F) (i : ℕ) (a b : F) → i < length low → length low ≤ length high →
      a ≡ get_or low i a → b ≡ get_or high i b →
      take (i + 1) (fold_pairs r x low high) ≡ take i (fold_pairs r x low high) ++ (value_at r x a b ∷ [])
  fold-more (c ∷ low) (d ∷ high) zero a b below within one other = λ i. value_at r x (sym one i) (sym other i) ∷ []
  fold-more (c ∷ low) (d ∷ high) (suc i) a b below within one other =
      let next : suc i + 1 ≡ suc (i + 1) = omega arith in
      rw next
      (ap (λ vs. value_at r x c d ∷ vs)
      (fold-more low high i a b (omega (arith, below)) (omega (arith, within)) one other))
  fold-more _ _ i a b below within one other = absurd (omega (arith, below, within))

  -- two parts, each folded
  pub fold-parts : (n : ℕ) (low high : List F) → length low ≤ length high →
      fold_pairs r x low high ≡ fold_pairs r x (take n low) (take n high) ++ fold_pairs r x (drop n low) (drop n high)
  fold-parts zero low high within = refl
  fold-parts (suc n) [] high within = refl
  fold-parts (suc n) (a ∷ low) [] within = absurd (omega (arith, within))
  fold-parts (suc n) (a ∷ low) (b ∷ high) within =
      ap (λ vs. value_at r x a b ∷ vs) (fold-parts n low high (omega (arith, within)))

  -- the values before a place are folded, and their sum is this; those from there on are as they were
  pub record FoldsTo (old high : List F) (i : ℕ) (low : List F) (so_far : F) : Type 0 where
    pub done : take i low ≡ take i (fold_pairs r x old high)
    pub left : drop i low ≡ drop i old
    pub len : length low ≡ length old
    pub sum : so_far ≡ total r (take i low)

  pub folds-more : IsResidues r → (old high low : List F) (i : ℕ) (a b value sum more : F) → i < length low →
      length old ≤ length high → FoldsTo old high i low sum → a ≡ get_or low i a → b ≡ get_or high i b →
      value ≡ value_at r x a b → more ≡ sum_of r sum value → FoldsTo old high (i + 1) (set low i value) more
  folds-more laws old high low i a b value sum more below within so_far one other is added =
      let grown = take_more_set low i value below in
      let same : a ≡ get_or old i a
      = cc (add-zero i, get_or-drop i low 0 a, get_or-drop i old 0 a, so_far.left, one) in
      record {
        done = grown ∙ (λ k. so_far.done k ++ (is k ∷ []))
            ∙ sym (fold-more old high i a b (omega (arith, below, so_far.len)) within same other);
        left = drop-set-lt (i + 1) low i value (omega arith) ∙ drop-one-more low old i so_far.left;
        len = length-set low i value ∙ so_far.len;
        sum = added ∙ ap (λ s. sum_of r s value) so_far.sum ∙ sym (total-push r laws (take i low) value)
            ∙ ap (total r) (sym grown);
      }

  pub folds-all : (old high low : List F) (i : ℕ) (sum : F) → length old ≤ length high → length low ≤ i →
      FoldsTo old high i low sum → (low ≡ fold_pairs r x old high) × (sum ≡ total r low)
  folds-all old high low i sum within all so_far =
      let whole = take_all i low all in (
        sym whole ∙ so_far.done
            ∙ take_all i (fold_pairs r x old high) (omega (arith, fold-length old high within, so_far.len, all)),
        so_far.sum ∙ ap (total r) whole,
      )

  -- ---- the two halves of the low half, each folded

  module _ (table low high front back high_front high_back new_front new_back : List F) (half : ℕ)
      (is : half ≡ length table / 2) (is_low : low ≡ take half table) (is_high : high ≡ drop half table)
      (is_front : front ≡ take (half / 2) low) (is_back : back ≡ drop (half / 2) low)
      (is_high_front : high_front ≡ take (half / 2) high) (is_high_back : high_back ≡ drop (half / 2) high)
      (folds_front : new_front ≡ fold_pairs r x front high_front)
      (folds_back : new_back ≡ fold_pairs r x back high_back) where
    low-length : length low ≡ half
    low-length = rw is_low (length-take-le half table (omega (arith, is)))

    high-enough : half ≤ length high
    high-enough = omega (arith, is, ap length is_high, length-drop half table)

    folded-as : folded r x table ≡ fold_pairs r x low high
    folded-as = rw (is_low, is_high, is)

    pub both-folded : new_front ++ new_back ≡ folded r x table
    both-folded =
        rw (folded-as, folds_front, folds_back, is_front, is_back, is_high_front, is_high_back)
        (sym (fold-parts (half / 2) low high (omega (arith, low-length, high-enough))))

    whole-length : length (folded r x table) ≡ half
    whole-length = folded-half table ∙ sym is

    front-length : length new_front ≡ half / 2
    front-length =
        let front_is = length-take-le (half / 2) low (omega (arith, low-length)) in
        let other = length-take-le (half / 2) high (omega (arith, high-enough)) in
        rw (folds_front, is_front, is_high_front)
        (fold-length (take (half / 2) low) (take (half / 2) high) (omega (arith, front_is, other)) ∙ front_is)

    -- the front is the low half of what is left, and the back its high half
    pub front-half : new_front ≡ low_half (folded r x table)
    front-half =
        sym (take-append_seam new_front new_back) ∙ (λ i. take (front-length i) (both-folded i))
        ∙ ap (λ n. take (n / 2) (folded r x table)) (sym whole-length)

    pub back-half : new_back ≡ high_half (folded r x table)
    back-half =
        sym (drop-append_seam new_front new_back) ∙ (λ i. drop (front-length i) (both-folded i))
        ∙ ap (λ n. drop (n / 2) (folded r x table)) (sym whole-length)

    pub taken-folded : (rest : List F) → take half (new_front ++ new_back ++ rest) ≡ folded r x table
    taken-folded rest =
        ap (λ n. take n ((new_front ++ new_back) ++ rest)) (sym (ap length both-folded ∙ whole-length))
        ∙ take-append_seam (new_front ++ new_back) rest ∙ both-folded

-- ---- sums of what is folded

module _ {F : Type 0} (r : Residues F) (laws : IsResidues r) where
  ring : IsRing r
  ring = residues-ring r laws

  -- the four numbers of two sums, in another order
  sums-turned : (a b c d : F) → sum_of r (sum_of r a b) (sum_of r c d) ≡ sum_of r (sum_of r a c) (sum_of r b d)
  sums-turned a b c d =
      cc (
        ring.sum_associates a b (sum_of r c d),
        ring.sum_associates b c d,
        ring.sum_commutes b c,
        ring.sum_associates c b d,
        ring.sum_associates a c (sum_of r b d),
      )

  -- the sum of two differences is the difference of the sums
  difference-sums : (a b c d : F) →
      difference_of r (sum_of r b d) (sum_of r a c) ≡ sum_of r (difference_of r b a) (difference_of r d c)
  difference-sums a b c d =
      cc (
        ring.added_and_taken (sum_of r (difference_of r b a) (difference_of r d c)) (sum_of r a c),
        sums-turned (difference_of r b a) (difference_of r d c) a c,
        ring.taken_and_added b a,
        ring.taken_and_added d c,
      )

  -- values on two lines add to one on the line through the sums
  lines-add : (x a b c d : F) →
      sum_of r (value_at r x a b) (value_at r x c d) ≡ value_at r x (sum_of r a c) (sum_of r b d)
  lines-add x a b c d =
      cc (
        sums-turned a (product_of r x (difference_of r b a)) c (product_of r x (difference_of r d c)),
        ring.product_with_sum x (difference_of r b a) (difference_of r d c),
        difference-sums a b c d,
      )

  -- a line through one value twice
  line-level : (x a : F) → value_at r x a a ≡ a
  line-level x a = cc (ring.taken_from_itself a, ring.product_with_zero x, ring.sum_with_zero a)

  -- the total of what is folded is on the line through the totals
  pub total-folded : (x : F) (low high : List F) → length high ≡ length low →
      total r (fold_pairs r x low high) ≡ value_at r x (total r low) (total r high)
  total-folded x [] [] is = sym (line-level x (total r []))
  total-folded x (a ∷ low) (b ∷ high) is =
      cc (
        total-cons r laws (value_at r x a b) (fold_pairs r x low high),
        total-cons r laws a low,
        total-cons r laws b high,
        total-folded x low high (omega (arith, is)),
        lines-add x a b (total r low) (total r high),
      )
  total-folded x _ _ is = absurd (omega (arith, is))
