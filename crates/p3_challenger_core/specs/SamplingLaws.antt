-- Laws of draws, one by one and in a row.
use Rattle.std.specs.Prelude.{◌≡◌, ℕ, zero, suc, ◌+◌, List, ◌∷◌, Option, Some, None, IsSome, is_some, option_and_then}
use Rattle.std.{specs.Prelude.{if◌then◌else◌, refl}, proofs.Common.{ap, sym, ◌∙◌, inl, inr}, specs.Option.option_map}
use Rattle.std.proofs.Math.Nat.{zero-add, suc-add}
use Rattle.p3_challenger_core.specs.{declared.error.ChallengerError.ChallengerError, Sponge.{after_steps, IsStepsOn}}
use Rattle.p3_challenger_core.specs.declared.error.ChallengerError.TheVariants.{OutOfMemory, DrawLimit}
use Rattle.p3_challenger_core.specs.Sampling.{Sampling, IsSampling, unrefused_draw, draws, after_draws, SomeDraw}
use Rattle.p3_challenger_core.specs.Sampling.{RefusesDraw, RefusesDraws, in_row, made_of}

-- ---- some number of the smallest draws

module _ {S : Type 0} (next : S → S) where
  after_steps-more : (n m : ℕ) (s : S) → after_steps next m (after_steps next n s) ≡ after_steps next (n + m) s
  after_steps-more zero m s = ap (λ k. after_steps next k s) (sym (zero-add m))
  after_steps-more (suc n) m s =
      after_steps-more n m (next s) ∙ ap (λ k. after_steps next k s) (sym (suc-add n m))

  pub no_steps : (s : S) → IsStepsOn next s s
  no_steps s = (0, refl)

  pub one_step : (s : S) → IsStepsOn next s (next s)
  one_step s = (1, refl)

  pub steps-then : (s t u : S) → IsStepsOn next s t → IsStepsOn next t u → IsStepsOn next s u
  steps-then s t u first second =
      (first.0 + second.0, second.1 ∙ ap (after_steps next second.0) first.1 ∙ after_steps-more first.0 second.0 s)

-- ---- one draw

pub unrefused_draw-is_sampling : {S T : Type 0} (next : S → S) (sampled : S → Option T) (after : S → S)
    → ((s : S) → IsStepsOn next s (after s)) → IsSampling next (unrefused_draw sampled after)
unrefused_draw-is_sampling next sampled after steps =
    record { limit_gives_none = λ s h. absurd h; steps = steps; leaves = λ s t h. absurd h }

pub made_of-is_sampling : {S T U : Type 0} (next : S → S) (f : T → U) (d : Sampling S T) → IsSampling next d
    → IsSampling next (made_of f d)
made_of-is_sampling next f d laws =
    record {
      limit_gives_none = λ s h. ap (option_map f) (laws.limit_gives_none s h);
      steps = laws.steps;
      leaves = laws.leaves;
    }

-- a draw of a function of a value is refused as the draw of the value is
pub made_of-refuses : {S T U : Type 0} (f : T → U) (d : Sampling S T) (e : ChallengerError) (s t : S)
    → RefusesDraw (made_of f d) e s t → RefusesDraw d e s t
made_of-refuses f d OutOfMemory s t h = h
made_of-refuses f d DrawLimit s t h = h
made_of-refuses f d e s t h = h

-- a draw that is never refused leaves no error
not_refused : {S T : Type 0} (sampled : S → Option T) (after : S → S) (e : ChallengerError) (s t : S)
    → RefusesDraw (unrefused_draw sampled after) e s t → ⊥
not_refused sampled after OutOfMemory s t h = h
not_refused sampled after DrawLimit s t h = h.0
not_refused sampled after e s t h = h

-- such draws in a row are not refused
pub draws-not_refused : {S T : Type 0} (sampled : S → Option T) (after : S → S) (n : ℕ) (e : ChallengerError) (s t : S)
    → RefusesDraws (unrefused_draw sampled after) n e s t → ⊥
unfolding RefusesDraws
draws-not_refused sampled after zero e s t h = h
draws-not_refused sampled after (suc n) e s t (inl here) = not_refused sampled after e s t here
draws-not_refused sampled after (suc n) e s t (inr later) = draws-not_refused sampled after n e (after s) t later.1

-- a property of no state holds at no draw
no_draw : {S T : Type 0} (d : Sampling S T) (n : ℕ) (s : S) → SomeDraw d (λ _. ⊥) n s → ⊥
unfolding SomeDraw
no_draw d zero s h = h
no_draw d (suc n) s (inl here) = here
no_draw d (suc n) s (inr later) = no_draw d n (d.after s) later.1

-- one draw made of such draws is not refused
pub in_row-not_refused : {S T : Type 0} (sampled : S → Option T) (after : S → S) (n : ℕ) (e : ChallengerError) (s t : S)
    → RefusesDraw (in_row (unrefused_draw sampled after) n) e s t → ⊥
in_row-not_refused sampled after n OutOfMemory s t h = no_draw (unrefused_draw sampled after) n s h
in_row-not_refused sampled after n DrawLimit s t h = no_draw (unrefused_draw sampled after) n s h.0
in_row-not_refused sampled after n e s t h = h

-- ---- draws in a row as one draw

-- nothing follows a missing value
none_after : {T : Type 0} (o : Option T) → option_and_then (λ x. option_map (λ (xs : List T). x ∷ xs) None) o ≡ None
none_after None = refl
none_after (Some x) = refl

module _ {S T : Type 0} (next : S → S) (d : Sampling S T) (laws : IsSampling next d) where
  -- if one of the draws gives nothing, the row gives nothing
  limit-none : (n : ℕ) (s : S) → SomeDraw d d.meets_limit n s → draws d n s ≡ None
  unfolding draws SomeDraw
  limit-none zero s h = absurd h
  limit-none (suc n) s (inl here) =
      ap (option_and_then (λ x. option_map (λ xs. x ∷ xs) (draws d n (d.after s)))) (laws.limit_gives_none s here)
  limit-none (suc n) s (inr later) =
      ap (λ o. option_and_then (λ x. option_map (λ xs. x ∷ xs) o) (d.sampled s)) (limit-none n (d.after s) later.1)
      ∙ none_after (d.sampled s)

  choose-steps : (gives : Option T) (s here there : S) → IsStepsOn next s here → IsStepsOn next s there
      → IsStepsOn next s (if is_some gives then here else there)
  choose-steps None s here there p q = q
  choose-steps (Some x) s here there p q = p

  row-steps : (n : ℕ) (s : S) → IsStepsOn next s (after_draws d n s)
  unfolding after_draws
  row-steps zero s = no_steps next s
  row-steps (suc n) s =
      choose-steps (d.sampled s) s (after_draws d n (d.after s)) (d.after s)
      (steps-then next s (d.after s) (after_draws d n (d.after s)) (laws.steps s) (row-steps n (d.after s)))
      (laws.steps s)

  row-leaves : (n : ℕ) (s t : S) → SomeDraw d (λ u. d.may_leave u t) n s → IsStepsOn next s t
  unfolding SomeDraw
  row-leaves zero s t h = absurd h
  row-leaves (suc n) s t (inl here) = laws.leaves s t here
  row-leaves (suc n) s t (inr later) =
      steps-then next s (d.after s) t (laws.steps s) (row-leaves n (d.after s) t later.1)

  pub in_row-is_sampling : (n : ℕ) → IsSampling next (in_row d n)
  in_row-is_sampling n =
      record { limit_gives_none = limit-none n; steps = row-steps n; leaves = row-leaves n }

  -- after a draw that gives nothing, no further draw is made
  stops_at : (n : ℕ) (s t : S) → d.sampled s ≡ None → t ≡ d.after s → t ≡ after_draws d (suc n) s
  unfolding after_draws
  stops_at n s t gives is = is ∙ sym (ap (λ o. if is_some o then after_draws d n (d.after s) else d.after s) gives)

  goes_after : (n : ℕ) (s t : S) → IsSome (d.sampled s) → t ≡ after_draws d n (d.after s) → t ≡ after_draws d (suc n) s
  unfolding after_draws
  goes_after n s t gives is = is ∙ sym (ap (λ b. if b then after_draws d n (d.after s) else d.after s) gives)

  here_refused : (n : ℕ) (e : ChallengerError) (s t : S) → RefusesDraw d e s t → RefusesDraw (in_row d (suc n)) e s t
  unfolding SomeDraw
  here_refused n OutOfMemory s t h = inl h
  here_refused n DrawLimit s t h = (inl h.0, stops_at n s t (laws.limit_gives_none s h.0) h.1)
  here_refused n e s t h = absurd h

  later_refused : (n : ℕ) (e : ChallengerError) (s t : S) → IsSome (d.sampled s)
      → RefusesDraw (in_row d n) e (d.after s) t → RefusesDraw (in_row d (suc n)) e s t
  unfolding SomeDraw
  later_refused n OutOfMemory s t gives h = inr (gives, h)
  later_refused n DrawLimit s t gives h = (inr (gives, h.0), goes_after n s t gives h.1)
  later_refused n e s t gives h = absurd h

  -- if one of the draws is refused, the row is refused
  pub refused-in_row : (n : ℕ) (e : ChallengerError) (s t : S) → RefusesDraws d n e s t → RefusesDraw (in_row d n) e s t
  unfolding RefusesDraws
  refused-in_row zero e s t h = absurd h
  refused-in_row (suc n) e s t (inl here) = here_refused n e s t here
  refused-in_row (suc n) e s t (inr later) = later_refused n e s t later.0 (refused-in_row n e (d.after s) t later.1)
