-- When a draw of an element meets the draw limit, where the inner challenger always gives a byte.
use Rattle.std.{proofs.Common.{◌≡◌, ℕ, zero, suc, ◌%◌, ◌^◌, nat_lt, Option, Some, None}, specs.Option.option_map}
use Rattle.std.proofs.Common.{IsSome, is_some, sym, ap, ◌∙◌, inl, inr}
use Rattle.p3_field_core.specs.{Residues.Residues, Coefficients.element_of_one}
use Rattle.p3_challenger_core.specs.Sampling.{Sampling, IsSampling, SomeDraw}
use Rattle.p3_serializing.specs.SerializingState.{SerializingState, bits_of_order, low_bits_of_group, element_of_groups}
use Rattle.p3_serializing.specs.SerializingState.{bits_drawn, element_drawn, space_element_drawn, groups_allowed}
use Rattle.p3_serializing.specs.SerializingStateLaws.{stepped-steps}
use Rattle.p3_serializing.proofs.ReadingGroups.{single-sampled, single-after, group-given}
use Rattle.p3_grinding.specs.{Candidates.{EachRefused, MeetsLimitExactly}, CandidateLaws.limit-met_exactly}

some-none : {T : Type 0} (o : Option T) → IsSome o → o ≡ None → ⊥
some-none None some none = cc
some-none (Some x) some none = cc

some-is : {T : Type 0} (o : Option T) (x : T) → o ≡ Some x → IsSome o
some-is o x is = ap is_some is

module _ {I : Type 0} (next : I → I) (d : Sampling I ℕ) (laws : IsSampling next d)
    (gives : (i : I) → IsSome (d.sampled i)) (n : ℕ) where
  unmet : (count : ℕ) (i : I) → SomeDraw d d.meets_limit count i → ⊥
  unfolding SomeDraw
  unmet zero i h = h
  unmet (suc more) i (inl here) = some-none (d.sampled i) (gives i) (laws.limit_gives_none i here)
  unmet (suc more) i (inr later) = unmet more (d.after i) later.1

  bits-given : (bits : ℕ) (i : I) → IsSome ((low_bits_of_group d n bits).sampled i)
  bits-given bits i =
      let word = group-given d gives n i in
      some-is ((low_bits_of_group d n bits).sampled i) (word.0 % 2 ^ bits)
      (ap (option_map (λ w. w % 2 ^ bits)) word.1)

  -- a draw of bits gives a number, and meets no limit
  pub bits-drawn_always : (bits : ℕ) (s : SerializingState I) → IsSome ((bits_drawn d n bits).sampled s)
  bits-drawn_always bits s = bits-given bits s.inner

  pub bits-unlimited : (bits : ℕ) (s : SerializingState I) → ¬ ((bits_drawn d n bits).meets_limit s)
  bits-unlimited bits s h = unmet n s.inner h

  module _ {F : Type 0} (r : Residues F) where
    -- candidates of the challenger are those of the inner one
    outside : (count : ℕ) (s : SerializingState I)
        → EachRefused (low_bits_of_group d n (bits_of_order r.order)) (λ x. nat_lt x r.order) count s.inner
        → EachRefused (bits_drawn d n (bits_of_order r.order)) (λ x. nat_lt x r.order) count s
    outside count s each k below =
        let it = each k below in
        let cut = low_bits_of_group d n (bits_of_order r.order) in
        let there = ap (λ t. cut.sampled t.inner) (stepped-steps cut.after k s) in
        (it.0, there ∙ it.1, it.2)

    inside : (count : ℕ) (s : SerializingState I)
        → EachRefused (bits_drawn d n (bits_of_order r.order)) (λ x. nat_lt x r.order) count s
        → EachRefused (low_bits_of_group d n (bits_of_order r.order)) (λ x. nat_lt x r.order) count s.inner
    inside count s each k below =
        let it = each k below in
        let cut = low_bits_of_group d n (bits_of_order r.order) in
        let there = ap (λ t. cut.sampled t.inner) (stepped-steps cut.after k s) in
        (it.0, sym there ∙ it.1, it.2)

    exactly : (limit : ℕ)
        → MeetsLimitExactly (low_bits_of_group d n (bits_of_order r.order)) (λ x. nat_lt x r.order) (λ _. limit)
        (element_of_groups d n r limit)
    exactly limit =
        limit-met_exactly (low_bits_of_group d n (bits_of_order r.order)) (λ x. nat_lt x r.order)
        (bits-given (bits_of_order r.order)) (unmet n) r.of (λ _. limit)

    element-limit : MeetsLimitExactly (bits_drawn d n (bits_of_order r.order)) (λ x. nat_lt x r.order) groups_allowed
        (element_drawn d n r)
    element-limit =
        record {
          gives_none = λ s. (
            λ none. outside s.draw_limit s (((exactly s.draw_limit).gives_none s.inner).0 none),
            λ each. ((exactly s.draw_limit).gives_none s.inner).1 (inside s.draw_limit s each),
          );
          meets = λ s. (
            λ met. outside s.draw_limit s (((exactly s.draw_limit).meets s.inner).0 met),
            λ each. ((exactly s.draw_limit).meets s.inner).1 (inside s.draw_limit s each),
          );
          consumed = λ s each.
              ap (λ i. record { inner = i; draw_limit = s.draw_limit })
              ((exactly s.draw_limit).consumed s.inner (inside s.draw_limit s each))
              ∙ sym (stepped-steps (low_bits_of_group d n (bits_of_order r.order)).after s.draw_limit s);
        }

    one_meets : (s : SerializingState I)
        → SomeDraw (element_drawn d n r) (element_drawn d n r).meets_limit 1 s → (element_drawn d n r).meets_limit s
    unfolding SomeDraw
    one_meets s (inl here) = here
    one_meets s (inr later) = absurd later.1

    meets_one : (s : SerializingState I)
        → (element_drawn d n r).meets_limit s → SomeDraw (element_drawn d n r) (element_drawn d n r).meets_limit 1 s
    unfolding SomeDraw
    meets_one s here = inl here

    -- a draw of an element of the field
    pub field_element-limit : (nought : F)
        → MeetsLimitExactly (bits_drawn d n (bits_of_order r.order)) (λ x. nat_lt x r.order) groups_allowed
        (space_element_drawn d n r 1 (element_of_one nought))
    field_element-limit nought =
        let one = element-limit in
        record {
          gives_none = λ s. (
            λ none. (one.gives_none s).0 (sym (single-sampled (element_drawn d n r) nought s) ∙ none),
            λ each. single-sampled (element_drawn d n r) nought s ∙ (one.gives_none s).1 each,
          );
          meets = λ s. (λ met. (one.meets s).0 (one_meets s met), λ each. meets_one s ((one.meets s).1 each));
          consumed = λ s each. single-after (element_drawn d n r) nought s ∙ one.consumed s each;
        }
