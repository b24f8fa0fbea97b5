-- Laws of the sequence of outputs: the result of a draw, and the outputs left after it.
use Rattle.std.proofs.Common.{◌≡◌, ℕ, zero, suc, ◌<◌, ◌≤◌, ◌+◌, ◌-◌, ◌/◌, ◌%◌, [], ◌∷◌, map, refl, sym, ap, ◌∙◌}
use Rattle.std.proofs.Math.Nat.{add-div_left, add-mod_left, div-eq_of_lt, mod-eq_of_lt}
use Rattle.p3_challenger_core.specs.Segments.{Run}
use Rattle.p3_sponge.specs.Outputs.{Outputs, stepped, step_queries, output_at, outputs_from, left_after, draws_from}
use Rattle.p3_sponge.specs.Outputs.{run_draws}
use Rattle.std.{proofs.Common.{add-one, arith}, specs.List.range_with_len}

-- the places of one more state
pub further-div : (n q : ℕ) → 0 < n → (n + q) / n ≡ suc (q / n)
further-div n q h = add-div_left q h ∙ add-one (q / n)

-- with outputs left, draws begin within the state itself, at the last output left
here-div : (n left : ℕ) → 0 < left → left ≤ n → (n - left) / n ≡ 0
here-div n left more h = let below : n - left < n = omega arith in div-eq_of_lt below

here-mod : (n left : ℕ) → 0 < left → left ≤ n → n - 1 - (n - left) % n ≡ left - 1
here-mod n left more h =
    let below : n - left < n = omega arith in
    let same : (n - left) % n ≡ n - left = mod-eq_of_lt below in
    omega (arith, same)

module _ {C T : Type 0} (o : Outputs C T) where
  -- the outputs from a place on are those at the following places
  pub outputs-places : (state : C) (place n : ℕ)
      → outputs_from o state place n ≡ map (output_at o state) (range_with_len place n)
  unfolding outputs_from
  outputs-places state place zero = refl
  outputs-places state place (suc n) =
      ap (λ xs. output_at o state place ∷ xs)
      (ap (λ p. outputs_from o state p n) (sym (add-one place)) ∙ outputs-places state (place + 1) n)

  module _ (positive : 0 < o.row_len) where
    -- outputs one state further on are those of the next state
    output_at-further : (state : C) (q : ℕ) → output_at o state (o.row_len + q) ≡ output_at o (o.next state) q
    unfolding stepped
    output_at-further state q =
        λ i. o.output (stepped o (further-div o.row_len q positive i) state) (o.row_len - 1 - add-mod_left o.row_len q i)

    outputs_from-further : (state : C) (q k : ℕ)
        → outputs_from o state (o.row_len + q) k ≡ outputs_from o (o.next state) q k
    unfolding outputs_from
    outputs_from-further state q zero = refl
    outputs_from-further state q (suc k) =
        let next : suc (o.row_len + q) ≡ o.row_len + suc q = omega arith in
        let tail = ap (λ p. outputs_from o state p k) next ∙ outputs_from-further state (suc q) k in
        λ i. output_at-further state q i ∷ tail i

    output_at-here : (state : C) (left : ℕ) → 0 < left → left ≤ o.row_len
        → output_at o state (o.row_len - left) ≡ o.output state (left - 1)
    unfolding stepped
    output_at-here state left more h =
        λ i. o.output (stepped o (here-div o.row_len left more h i) state) (here-mod o.row_len left more h i)

    module _ {S : Type 0} (holding : C → ℕ → S) where
      -- an output is drawn first
      abbrev pub drawn_first : T → Run T C S → Run T C S
      drawn_first x run = record run { answers = x ∷ run.answers }

      -- a state is queried first
      abbrev pub queried_first : C → Run T C S → Run T C S
      queried_first state run = record run { queries = state ∷ run.queries }

      left_after-further : (state : C) (q : ℕ)
          → left_after o holding state (o.row_len + q) ≡ left_after o holding (o.next state) q
      unfolding stepped
      left_after-further state q =
          λ i. holding (stepped o (further-div o.row_len q positive i) state)
          (o.row_len - 1 - add-mod_left o.row_len q i)

      left_after-here : (state : C) (left : ℕ) → 0 < left → left ≤ o.row_len
          → left_after o holding state (o.row_len - left) ≡ holding state (left - 1)
      unfolding stepped
      left_after-here state left more h =
          λ i. holding (stepped o (here-div o.row_len left more h i) state) (here-mod o.row_len left more h i)

      -- draws one state further on are those of the next state, after a query of the state itself
      draws_from-further : (state : C) (q k : ℕ)
          → draws_from o holding state (o.row_len + q) k
          ≡ queried_first state (draws_from o holding (o.next state) q k)
      unfolding step_queries
      draws_from-further state q k =
          let n = o.row_len in
          let same : n + q + k ≡ n + (q + k) = omega arith in
          let turns : (n + q + k) / n ≡ suc ((q + k) / n) = ap (λ p. p / n) same ∙ further-div n (q + k) positive in
          let following = ap (left_after o holding state) same ∙ left_after-further state (q + k) in
          λ i. record {
            answers = outputs_from-further state q (suc k) i;
            queries = step_queries o (turns i) state;
            after = following i;
          }

      -- a draw that finds an output, followed by k draws
      pub draws-left : (state : C) (left k : ℕ) → 0 < left → left ≤ o.row_len
          → draws_from o holding state (o.row_len - left) k
          ≡ drawn_first (o.output state (left - 1)) (run_draws o holding state (left - 1) k)
      unfolding outputs_from step_queries
      draws-left state left zero more h =
          let n = o.row_len in
          let same : n - left + 0 ≡ n - left = omega arith in
          let turns : (n - left + 0) / n ≡ 0 = ap (λ p. p / n) same ∙ here-div n left more h in
          let following = ap (left_after o holding state) same ∙ left_after-here state left more h in
          λ i. record {
            answers = output_at-here state left more h i ∷ [];
            queries = step_queries o (turns i) state;
            after = following i;
          }
      draws-left state left (suc k) more h =
          let n = o.row_len in
          let next : suc (n - left) ≡ n - (left - 1) = omega arith in
          let further : n - left + suc k ≡ n - (left - 1) + k = omega arith in
          λ i. record {
            answers = output_at-here state left more h i ∷ outputs_from o state (next i) (suc k);
            queries = step_queries o (further i / n) state;
            after = left_after o holding state (further i);
          }

      -- a draw that finds no output, followed by k draws
      pub draws-next : (state : C) (k : ℕ)
          → draws_from o holding state (o.row_len - 0) k
          ≡ queried_first state (drawn_first (o.output (o.next state) (o.row_len - 1))
          (run_draws o holding (o.next state) (o.row_len - 1) k))
      draws-next state k =
          let n = o.row_len in
          let there : n - 0 ≡ n + 0 = omega arith in
          let start : 0 ≡ n - n = omega arith in
          ap (λ p. draws_from o holding state p k) there
          ∙ draws_from-further state 0 k
          ∙ ap (λ p. queried_first state (draws_from o holding (o.next state) p k)) start
          ∙ ap (queried_first state) (draws-left (o.next state) n k positive (omega arith))
