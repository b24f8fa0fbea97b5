-- Sums and differences modulo an order, of each two lanes: a comparison and a choice.
use Rattle.std.proofs.Common.{◌≡◌, ℕ, zero, suc, ◌+◌, ◌-◌, ◌*◌, ◌%◌, ◌^◌, ◌<◌, ◌≤◌, ◌∙◌, List, [], ◌∷◌, length, replicate, cond, map, nat_lt, false, refl, sym, ap, inl, inr, arith}
use Rattle.std.{proofs.Math.Nat.{mod-eq_of_lt, mod-eq-sub-mod}, specs.Prelude.slice_index}
use Rattle.std.proofs.lemmas.Bool.{cases_lt, lt-ltb, le-ltb, cond-true, cond-false}
use Rattle.std.specs.Simd.Lanes.{zip2, Each1, sel_l, top}
use Rattle.std.proofs.lemmas.Simd.{tops_compared, Each1-from_get_or, get_or-zip2, get_or-sel_l, length-zip2, get_or-replicate, length-replicate}
use mir.{Syntax.Width, Val.{bits, hbits}}

-- a sum, and a difference, as lanes below `m` have it
abbrev pub wrapped_sum : ℕ → ℕ → ℕ → ℕ
wrapped_sum m a b = (a + b) % m

abbrev pub wrapped_difference : ℕ → ℕ → ℕ → ℕ
wrapped_difference m a b = (a + (m - b)) % m

-- a difference that is no less than 0 does not wrap
no_wrap : (m a b : ℕ) → b ≤ a → a < m → wrapped_difference m a b ≡ a - b
no_wrap m a b le fits =
    let more : m ≤ a + (m - b) = omega arith in
    let left : a + (m - b) - m ≡ a - b = omega arith in
    mod-eq-sub-mod more ∙ ap (λ n. n % m) left ∙ mod-eq_of_lt (omega arith)

-- of a number from an order on and below twice the order, what is left
less_order : (n order : ℕ) → order ≤ n → n < order + order → n % order ≡ n - order
less_order n order le lt = mod-eq-sub-mod le ∙ mod-eq_of_lt (omega (arith, le, lt))

module _ (m order : ℕ) (within : order < m) where
  abbrev chosen_sum : ℕ → ℕ → ℕ
  chosen_sum a b = let room = wrapped_difference m order b in cond (nat_lt a room) (wrapped_sum m a b) (wrapped_difference m a room)

  abbrev chosen_difference : ℕ → ℕ → ℕ
  chosen_difference a b = cond (nat_lt a b) (wrapped_sum m a (wrapped_difference m order b)) (wrapped_difference m a b)

  one_sum : (a b : ℕ) → a < order → b < order → chosen_sum a b ≡ (a + b) % order
  one_sum a b a_below b_below =
      ap (λ r. cond (nat_lt a r) (wrapped_sum m a b) (wrapped_difference m a r))
      (no_wrap m order b (omega arith) within)
      ∙ elim (cases_lt a (order - b)) [
        | inl lt ↦ cond-true _ _ _ (lt-ltb a (order - b) lt)
            ∙ mod-eq_of_lt (omega arith) ∙ sym (mod-eq_of_lt (omega arith))
        | inr le ↦ cond-false _ _ _ (le-ltb a (order - b) le) ∙ no_wrap m a (order - b) le (omega arith)
            ∙ omega (arith, less_order (a + b) order (omega arith) (omega arith))
      ]

  one_difference : (a b : ℕ) → a < order → b < order → chosen_difference a b ≡ (a + (order - b)) % order
  one_difference a b a_below b_below =
      ap (λ r. cond (nat_lt a b) (wrapped_sum m a r) (wrapped_difference m a b))
      (no_wrap m order b (omega arith) within)
      ∙ elim (cases_lt a b) [
        | inl lt ↦ cond-true _ _ _ (lt-ltb a b lt) ∙ mod-eq_of_lt (omega arith) ∙ sym (mod-eq_of_lt (omega arith))
        | inr le ↦ cond-false _ _ _ (le-ltb a b le) ∙ no_wrap m a b le (omega arith)
            ∙ omega (arith, less_order (a + (order - b)) order (omega arith) (omega arith))
      ]

  abbrev Below : List ℕ → Type 0
  Below = Each1 (λ n. n < order)

  choices_sum : (n : ℕ) (xs ys : List ℕ) → Below xs → Below ys → length ys ≡ n
      → let room = zip2 (wrapped_difference m) (replicate n order) ys in
      sel_l (zip2 nat_lt xs room) (zip2 (wrapped_sum m) xs ys) (zip2 (wrapped_difference m) xs room)
      ≡ zip2 (λ a b. (a + b) % order) xs ys
  choices_sum n [] ys xb yb long = refl
  choices_sum zero (x ∷ xs) [] xb yb long = refl
  choices_sum (suc n) (x ∷ xs) [] xb yb long = absurd (omega arith)
  choices_sum zero (x ∷ xs) (y ∷ ys) xb yb long = absurd (omega arith)
  choices_sum (suc n) (x ∷ xs) (y ∷ ys) xb yb long =
      λ i. one_sum x y xb.0 yb.0 i ∷ choices_sum n xs ys xb.1 yb.1 (omega arith) i

  choices_difference : (n : ℕ) (xs ys : List ℕ) → Below xs → Below ys → length ys ≡ n
      → let room = zip2 (wrapped_difference m) (replicate n order) ys in
      sel_l (zip2 nat_lt xs ys) (zip2 (wrapped_sum m) xs room) (zip2 (wrapped_difference m) xs ys)
      ≡ zip2 (λ a b. (a + (order - b)) % order) xs ys
  choices_difference n [] ys xb yb long = refl
  choices_difference zero (x ∷ xs) [] xb yb long = refl
  choices_difference (suc n) (x ∷ xs) [] xb yb long = absurd (omega arith)
  choices_difference zero (x ∷ xs) (y ∷ ys) xb yb long = absurd (omega arith)
  choices_difference (suc n) (x ∷ xs) (y ∷ ys) xb yb long =
      λ i. one_difference x y xb.0 yb.0 i ∷ choices_difference n xs ys xb.1 yb.1 (omega arith) i

-- the comparison of lanes, as a mask
abbrev pub compared : Width → ℕ → ℕ → ℕ
compared w a b = cond (nat_lt a b) (2 ^ bits w - 1) 0

module _ (w : Width) (order : ℕ) (within : order < 2 ^ bits w) (n : ℕ) (xs ys : List ℕ)
    (xb : Each1 (λ n. n < order) xs) (yb : Each1 (λ n. n < order) ys) (long : length ys ≡ n) where
  abbrev m : ℕ
  m = 2 ^ bits w

  lane_sums : let room = zip2 (wrapped_difference m) (replicate n order) ys in
      sel_l (map (top (hbits w)) (zip2 (compared w) xs room)) (zip2 (wrapped_sum m) xs ys) (zip2 (wrapped_difference m) xs room)
      ≡ zip2 (λ a b. (a + b) % order) xs ys
  lane_sums =
      let room = zip2 (wrapped_difference m) (replicate n order) ys in
      ap (λ ms. sel_l ms (zip2 (wrapped_sum m) xs ys) (zip2 (wrapped_difference m) xs room)) (tops_compared w nat_lt xs room)
      ∙ choices_sum m order within n xs ys xb yb long

  lane_differences : let room = zip2 (wrapped_difference m) (replicate n order) ys in
      sel_l (map (top (hbits w)) (zip2 (compared w) xs ys)) (zip2 (wrapped_sum m) xs room) (zip2 (wrapped_difference m) xs ys)
      ≡ zip2 (λ a b. (a + (order - b)) % order) xs ys
  lane_differences =
      let room = zip2 (wrapped_difference m) (replicate n order) ys in
      ap (λ ms. sel_l ms (zip2 (wrapped_sum m) xs room) (zip2 (wrapped_difference m) xs ys)) (tops_compared w nat_lt xs ys)
      ∙ choices_difference m order within n xs ys xb yb long

-- the same of one lane, from what holds of each
module _ (w : Width) (order : ℕ) (within : order < 2 ^ bits w) (n : ℕ) (xs ys : List ℕ)
    (xlong : length xs ≡ n) (ylong : length ys ≡ n)
    (xb : (l : ℕ) → l < n → slice_index xs l < order) (yb : (l : ℕ) → l < n → slice_index ys l < order)
    (l : ℕ) (lt : l < n) where
  abbrev k : ℕ
  k = 2 ^ bits w

  pub sum_in_lane : let room = zip2 (wrapped_difference k) (replicate n order) ys in
      slice_index (sel_l (map (top (hbits w)) (zip2 (compared w) xs room)) (zip2 (wrapped_sum k) xs ys) (zip2 (wrapped_difference k) xs room)) l
      ≡ (slice_index xs l + slice_index ys l) % order
  sum_in_lane =
      ap (λ zs. slice_index zs l) (lane_sums w order within n xs ys
      (Each1-from_get_or (λ a. a < order) xs 0 (λ i at. xb i (omega (arith, at, xlong))))
      (Each1-from_get_or (λ a. a < order) ys 0 (λ i at. yb i (omega (arith, at, ylong)))) ylong)
      ∙ get_or-zip2 (λ a b. (a + b) % order) xs ys l 0 0 0 (omega (arith, lt, xlong)) (omega (arith, lt, ylong))

  pub difference_in_lane : let room = zip2 (wrapped_difference k) (replicate n order) ys in
      slice_index (sel_l (map (top (hbits w)) (zip2 (compared w) xs ys)) (zip2 (wrapped_sum k) xs room) (zip2 (wrapped_difference k) xs ys)) l
      ≡ (slice_index xs l + (order - slice_index ys l)) % order
  difference_in_lane =
      ap (λ zs. slice_index zs l) (lane_differences w order within n xs ys
      (Each1-from_get_or (λ a. a < order) xs 0 (λ i at. xb i (omega (arith, at, xlong))))
      (Each1-from_get_or (λ a. a < order) ys 0 (λ i at. yb i (omega (arith, at, ylong)))) ylong)
      ∙ get_or-zip2 (λ a b. (a + (order - b)) % order) xs ys l 0 0 0 (omega (arith, lt, xlong)) (omega (arith, lt, ylong))

-- the less of a number below twice an order and that number less the order, modulo m
one_reduced : (m order a : ℕ) → order < m → a < m → a < 2 * order
    → let rest = wrapped_difference m a order in cond (nat_lt a rest) a rest ≡ a % order
one_reduced m order a within fits twice =
    let rest = wrapped_difference m a order in
    elim (cases_lt a order) [
      | inl lt ↦
          let is : rest ≡ a + (m - order) = mod-eq_of_lt (omega arith) in
          cond-true _ _ _ (lt-ltb a rest (omega (arith, is))) ∙ sym (mod-eq_of_lt lt)
      | inr le ↦
          let is : rest ≡ a - order = no_wrap m a order le fits in
          cond-false _ _ _ (le-ltb a rest (omega (arith, is))) ∙ is ∙ sym (less_order a order le (omega arith))
    ]

module _ (w : Width) (order : ℕ) (within : order < 2 ^ bits w) (n : ℕ) (xs : List ℕ) (long : length xs ≡ n)
    (l : ℕ) (lt : l < n) (fits : slice_index xs l < 2 ^ bits w) (twice : slice_index xs l < 2 * order) where
  abbrev rests : List ℕ
  rests = zip2 (wrapped_difference (2 ^ bits w)) xs (replicate n order)

  there : l < length xs
  there = omega (arith, lt, long)

  orders_long : length (replicate {A = ℕ} n order) ≡ n
  orders_long = length-replicate {A = ℕ} n order

  rests_long : length rests ≡ length xs
  rests_long = length-zip2 _ xs (replicate n order) (long ∙ sym orders_long)

  rest_is : slice_index rests l ≡ wrapped_difference (2 ^ bits w) (slice_index xs l) order
  rest_is =
      get_or-zip2 (wrapped_difference (2 ^ bits w)) xs (replicate n order) l 0 0 0 there (omega (arith, lt, orders_long))
      ∙ ap (wrapped_difference (2 ^ bits w) (slice_index xs l)) (get_or-replicate {A = ℕ} n l order 0 lt)

  rest_there : l < length rests
  rest_there = omega (arith, there, rests_long)

  pub reduced_in_lane : slice_index (sel_l (map (top (hbits w)) (zip2 (compared w) xs rests)) xs rests) l ≡ slice_index xs l % order
  reduced_in_lane =
      let tests = zip2 nat_lt xs rests in
      let tests_long : length tests ≡ length xs = length-zip2 nat_lt xs rests (sym rests_long) in
      ap (λ ms. slice_index (sel_l ms xs rests) l) (tops_compared w nat_lt xs rests)
      ∙ get_or-sel_l tests xs rests l 0 (omega (arith, there, tests_long)) there rest_there
      ∙ ap (λ b. cond b (slice_index xs l) (slice_index rests l)) (get_or-zip2 nat_lt xs rests l 0 0 false there rest_there)
      ∙ ap (λ r. cond (nat_lt (slice_index xs l) r) (slice_index xs l) r) rest_is
      ∙ one_reduced (2 ^ bits w) order (slice_index xs l) within fits twice
