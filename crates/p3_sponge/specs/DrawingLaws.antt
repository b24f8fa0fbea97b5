-- Lemmas on values drawn one after another.
use Rattle.std.proofs.Common.{◌≡◌, ℕ, suc, ◌+◌, ◌-◌, ◌<◌, ◌≤◌, List, [], ◌∷◌, ◌++◌, length, take, Some, refl, sym, ◌∙◌}
use Rattle.std.proofs.{Common.{append_assoc, append-nil, arith}, lemmas.List.{take_more_set, take_all}, Math.ListN.set}
use Rattle.p3_challenger_core.specs.{SamplingLaws.{one_step, unrefused_draw-is_sampling}, Sponge.after_steps}
use Rattle.p3_challenger_core.specs.Sampling.{IsSampling, unrefused_draw}
use Rattle.p3_sponge.specs.Outputs.{drawn}

module _ {S T : Type 0} (sampled : S → T) (next : S → S) where
  -- a function of values drawn in order is drawn
  pub elements-sampled : {A : Type 0} (n : ℕ) (element : List T → A)
      → IsSampling next (unrefused_draw (λ s. Some (element (drawn sampled next n s))) (after_steps next n))
  elements-sampled n element =
      unrefused_draw-is_sampling next (λ s. Some (element (drawn sampled next n s))) (after_steps next n)
      (λ s. (n, refl))

  -- a function of one drawn value is drawn
  pub value-sampled : {A : Type 0} (of_value : T → A)
      → IsSampling next (unrefused_draw (λ s. Some (of_value (sampled s))) next)
  value-sampled of_value = unrefused_draw-is_sampling next (λ s. Some (of_value (sampled s))) next (one_step next)

  module _ (n : ℕ) (start : S) where
    -- Of n values from the start, these were drawn; the remaining draws continue from here.
    pub record HasDrawn (xs : List T) (left : ℕ) (here : S) : Type 0 where
      pub values : drawn sampled next n start ≡ xs ++ drawn sampled next left here
      pub reached : after_steps next n start ≡ after_steps next left here

    pub has_drawn-none : HasDrawn [] (n - 0) start
    has_drawn-none = let all : n - 0 ≡ n = omega arith in rw all (record { values = refl; reached = refl })

    -- the value of place i is drawn
    pub has_drawn-next : (xs ys : List T) (i : ℕ) (here there : S) (x : T) → i < n → length xs ≡ n → x ≡ sampled here
        → there ≡ next here → ys ≡ set xs i x → HasDrawn (take i xs) (n - i) here
        → HasDrawn (take (i + 1) ys) (n - (i + 1)) there
    has_drawn-next xs ys i here there x more long is reached wrote so_far =
        let left : n - i ≡ suc (n - (i + 1)) = omega arith in
        let in_range : i < length xs = omega arith in
        let longer = take_more_set xs i x in_range in
        let following = rw left at so_far in
        rw (wrote, longer, is, reached) (record {
          values = following.values ∙ sym (append_assoc (take i xs) (sampled here ∷ []) _);
          reached = following.reached;
        })

    -- all n values are drawn
    pub has_drawn-values : (xs : List T) (i : ℕ) (here : S) → n ≤ i → length xs ≡ n
        → HasDrawn (take i xs) (n - i) here → drawn sampled next n start ≡ xs
    has_drawn-values xs i here all long so_far =
        let none : n - i ≡ 0 = omega arith in
        (rw none at so_far).values ∙ append-nil (take i xs) ∙ take_all i xs (omega arith)

    pub has_drawn-state : (xs : List T) (i : ℕ) (here : S) → n ≤ i → HasDrawn xs (n - i) here
        → here ≡ after_steps next n start
    has_drawn-state xs i here all so_far = let none : n - i ≡ 0 = omega arith in sym (rw none at so_far).reached
