-- Laws of drawing candidates until one is accepted.
use Rattle.std.proofs.Common.{option_and_then, if◌then◌else◌, Option, IsSome, false, subst, arith, rules, zero, Bool}
use Rattle.std.proofs.Common.{true, Some, None, refl, ◌≡◌, suc, ◌+◌, ◌-◌, ◌<◌, ◌≤◌, sym, ◌∙◌, inl, inr, ◌↔◌, ap, ℕ}
use Rattle.std.specs.Option.{option_map}
use Rattle.p3_challenger_core.specs.declared.error.ChallengerError.{ChallengerError, TheVariants.OutOfMemory}
use Rattle.p3_challenger_core.specs.declared.error.ChallengerError.TheVariants.{DrawLimit, NoWitness, TooLong}
use Rattle.p3_challenger_core.specs.{Sponge.{IsStepsOn, after_steps}, SamplingLaws.{no_steps, steps-then}}
use Rattle.p3_challenger_core.specs.Sampling.{Sampling, IsSampling, RefusesDraw, made_of}
use Rattle.p3_grinding.specs.Candidates.{after_refused, first_accepted, after_first_accepted, MeetsLimit, MayLeave}
use Rattle.p3_grinding.specs.Candidates.{accepted_of, accepted_within, EachRefused, MeetsLimitExactly}

module _ {S T : Type 0} (d : Sampling S T) (accepts : T → Bool) where
  -- ---- such a draw is a draw

  -- the result for a candidate
  next_accepted : ℕ → S → T → Option T
  next_accepted more t x = if accepts x then Some x else first_accepted d accepts more t

  module _ (next : S → S) (laws : IsSampling next d) where
    limit-none : (limit : ℕ) (s : S) → MeetsLimit d accepts limit s → first_accepted d accepts limit s ≡ None
    unfolding first_accepted MeetsLimit next_accepted
    limit-none zero s h = refl
    limit-none (suc more) s (inl here) =
        ap (option_and_then (next_accepted more (d.after s))) (laws.limit_gives_none s here)
    limit-none (suc more) s (inr later) =
        ap (option_and_then (next_accepted more (d.after s))) later.1
        ∙ ap (λ b. if b then Some later.0 else first_accepted d accepts more (d.after s)) later.2
        ∙ limit-none more (d.after s) later.3

    choose-accepted : (b : Bool) (s here there : S) → IsStepsOn next s here → IsStepsOn next s there
        → IsStepsOn next s (if b then here else there)
    choose-accepted true s here there p q = p
    choose-accepted false s here there p q = q

    choose-steps : (more : ℕ) (s t : S) (o : Option T) → IsStepsOn next s t
        → IsStepsOn next t (after_first_accepted d accepts more t)
        → IsStepsOn next s (after_refused accepts (after_first_accepted d accepts more) o t)
    choose-steps more s t None here there = here
    choose-steps more s t (Some x) here there =
        let following = after_first_accepted d accepts more t in
        choose-accepted (accepts x) s t following here (steps-then next s t following here there)

    accepted-steps : (limit : ℕ) (s : S) → IsStepsOn next s (after_first_accepted d accepts limit s)
    unfolding after_first_accepted
    accepted-steps zero s = no_steps next s
    accepted-steps (suc more) s =
        choose-steps more s (d.after s) (d.sampled s) (laws.steps s) (accepted-steps more (d.after s))

    accepted-leaves : (limit : ℕ) (s t : S) → MayLeave d accepts limit s t → IsStepsOn next s t
    unfolding MayLeave
    accepted-leaves zero s t h = absurd h
    accepted-leaves (suc more) s t (inl here) = laws.leaves s t here
    accepted-leaves (suc more) s t (inr later) =
        steps-then next s (d.after s) t (laws.steps s) (accepted-leaves more (d.after s) t later.3)

    pub accepted_of-is_sampling : (limit : ℕ) → IsSampling next (accepted_of d accepts limit)
    accepted_of-is_sampling limit =
        record { limit_gives_none = limit-none limit; steps = accepted-steps limit; leaves = accepted-leaves limit }

    pub accepted_within-is_sampling : (limit : S → ℕ) → IsSampling next (accepted_within d accepts limit)
    accepted_within-is_sampling limit =
        record {
          limit_gives_none = λ s h. limit-none (limit s) s h;
          steps = λ s. accepted-steps (limit s) s;
          leaves = λ s t h. accepted-leaves (limit s) s t h;
        }

  chosen-is : (b : Bool) (y : T) (rest : Option T) (x : T) → accepts y ≡ b → (rest ≡ Some x → accepts x ≡ true)
      → (if b then Some y else rest) ≡ Some x → accepts x ≡ true
  chosen-is true y rest x is later e =
      let same : y ≡ x = search (rules, e) in
      sym (ap accepts same) ∙ is
  chosen-is false y rest x is later e = later e

  next-is : (o rest : Option T) (x : T) → (rest ≡ Some x → accepts x ≡ true)
      → option_and_then (λ y. if accepts y then Some y else rest) o ≡ Some x → accepts x ≡ true
  next-is None rest x later e = search (rules, e)
  next-is (Some y) rest x later e = chosen-is (accepts y) y rest x refl later e

  -- the result is an accepted candidate
  pub accepted-is : (limit : ℕ) (s : S) (x : T) → first_accepted d accepts limit s ≡ Some x → accepts x ≡ true
  unfolding first_accepted
  accepted-is zero s x e = search (rules, e)
  accepted-is (suc more) s x e =
      next-is (d.sampled s) (first_accepted d accepts more (d.after s)) x (accepted-is more (d.after s) x) e

  -- if no draw is refused for memory, none of the candidates is
  pub none_left_behind : ((s t : S) → ¬ (d.may_leave s t)) → (limit : ℕ) (s t : S) → ¬ (MayLeave d accepts limit s t)
  unfolding MayLeave
  none_left_behind never zero s t h = h
  none_left_behind never (suc more) s t (inl here) = never s t here
  none_left_behind never (suc more) s t (inr later) = none_left_behind never more (d.after s) t later.3

  -- ---- candidate by candidate

  -- The first candidates within the limit were rejected; the remaining ones continue from here.
  pub record Seeks (limit : ℕ) (start : S) (left : ℕ) (here : S) : Type 0 where
    pub gives : first_accepted d accepts limit start ≡ first_accepted d accepts left here
    pub reached : after_first_accepted d accepts limit start ≡ after_first_accepted d accepts left here
    pub limited : MeetsLimit d accepts left here → MeetsLimit d accepts limit start
    pub refused : (t : S) → MayLeave d accepts left here t → MayLeave d accepts limit start t

  -- The first i candidates were rejected, and the remaining ones continue from here.

  pub seeks-start : (limit : ℕ) (start : S) → Seeks limit start (limit - 0) start
  seeks-start limit start =
      let all : limit ≡ limit - 0 = omega arith in
      subst (λ left. Seeks limit start left start) all (record {
        gives = refl;
        reached = refl;
        limited = λ h. h;
        refused = λ t h. h;
      })

  one_fewer : (limit i : ℕ) → i < limit → limit - i ≡ suc (limit - (i + 1))
  one_fewer limit i h = omega arith

  module _ (limit : ℕ) (start : S) (i : ℕ) (here : S) where
    seeks-at : i < limit → Seeks limit start (limit - i) here → Seeks limit start (suc (limit - (i + 1))) here
    seeks-at h = subst (λ left. Seeks limit start left here) (one_fewer limit i h)

    module _ (there : S) (x : T) (more : i < limit) (drawn : d.sampled here ≡ Some x) (after : there ≡ d.after here)
        (so_far : Seeks limit start (limit - i) here) where
      -- one more candidate is rejected
      pub seeks-next : accepts x ≡ false → Seeks limit start (limit - (i + 1)) there
      unfolding first_accepted after_first_accepted MeetsLimit MayLeave next_accepted
      seeks-next test =
          let at = seeks-at more so_far in
          let left = limit - (i + 1) in
          subst (λ s. Seeks limit start left s) (sym after) (record {
            gives =
                at.gives
                ∙ ap (option_and_then (next_accepted left (d.after here))) drawn
                ∙ ap (λ b. if b then Some x else first_accepted d accepts left (d.after here)) test;
            reached =
                at.reached
                ∙ ap (λ o. after_refused accepts (after_first_accepted d accepts left) o (d.after here)) drawn
                ∙ ap (λ b. if b then d.after here else after_first_accepted d accepts left (d.after here)) test;
            limited = λ h. at.limited (inr (x, drawn, test, h));
            refused = λ t h. at.refused t (inr (x, drawn, test, h));
          })

      -- the candidate is accepted
      pub seeks-gives : accepts x ≡ true → first_accepted d accepts limit start ≡ Some x
      unfolding first_accepted next_accepted
      seeks-gives test =
          let at = seeks-at more so_far in
          let left = limit - (i + 1) in
          at.gives
          ∙ ap (option_and_then (next_accepted left (d.after here))) drawn
          ∙ ap (λ b. if b then Some x else first_accepted d accepts left (d.after here)) test

      pub seeks-reached : accepts x ≡ true → there ≡ after_first_accepted d accepts limit start
      unfolding after_first_accepted
      seeks-reached test =
          let at = seeks-at more so_far in
          let left = limit - (i + 1) in
          after
          ∙ sym (at.reached
          ∙ ap (λ o. after_refused accepts (after_first_accepted d accepts left) o (d.after here)) drawn
          ∙ ap (λ b. if b then d.after here else after_first_accepted d accepts left (d.after here)) test)

    -- no candidate remains
    none_left : limit ≤ i → limit - i ≡ 0
    none_left h = omega arith

    pub seeks-none : limit ≤ i → Seeks limit start (limit - i) here
        → RefusesDraw (accepted_of d accepts limit) DrawLimit start here
    unfolding after_first_accepted MeetsLimit
    seeks-none h so_far =
        let at = subst (λ left. Seeks limit start left here) (none_left h) so_far in
        (at.limited tt, sym at.reached)

    -- the next draw is refused
    pub seeks-refused : (next : S → S) → IsSampling next d → i < limit → Seeks limit start (limit - i) here
        → (e : ChallengerError) (t : S) → RefusesDraw d e here t → RefusesDraw (accepted_of d accepts limit) e start t
    unfolding after_first_accepted MeetsLimit MayLeave
    seeks-refused next laws more so_far OutOfMemory t h = (seeks-at more so_far).refused t (inl h)
    seeks-refused next laws more so_far DrawLimit t h =
        let at = seeks-at more so_far in
        let left = limit - (i + 1) in (
          at.limited (inl h.0),
          h.1
              ∙ sym (at.reached
              ∙ ap (λ o. after_refused accepts (after_first_accepted d accepts left) o (d.after here))
              (laws.limit_gives_none here h.0)),
        )
    seeks-refused next laws more so_far NoWitness t h = absurd h
    seeks-refused next laws more so_far TooLong t h = absurd h

-- ---- when the limit is met, where each candidate is drawn

none_is_not : false ≡ true → ⊥
none_is_not is = search (rules, is)

some_is_not : {T : Type 0} (x : T) → Some x ≡ None → ⊥
some_is_not x e = search (rules, e)

-- a function of a missing value is missing
pub made_none : {T U : Type 0} (f : T → U) (o : Option T) → (option_map f o ≡ None ↔ o ≡ None)
made_none f None = (λ h. refl, λ h. refl)
made_none f (Some x) = (λ h. absurd (some_is_not (f x) h), λ h. absurd (some_is_not x h))

module _ {S T : Type 0} (d : Sampling S T) (accepts : T → Bool) where
  refused-of : (b : Bool) (more : ℕ) (t : S) (x : T)
      → (if b then Some x else first_accepted d accepts more t) ≡ None
      → (b ≡ false) × (first_accepted d accepts more t ≡ None)
  refused-of true more t x h = absurd (some_is_not x h)
  refused-of false more t x h = (refl, h)

  met-one : (more : ℕ) (s : S) (o : Option T) → d.sampled s ≡ o → IsSome o
      → ((t : S) → first_accepted d accepts more t ≡ None → MeetsLimit d accepts more t)
      → option_and_then (λ x. if accepts x then Some x else first_accepted d accepts more (d.after s)) o ≡ None
      → (x : T) × (d.sampled s ≡ Some x) × (accepts x ≡ false) × MeetsLimit d accepts more (d.after s)
  met-one more s None is some later none = absurd (none_is_not some)
  met-one more s (Some x) is some later none =
      let refused = refused-of (accepts x) more (d.after s) x none in
      (x, is, refused.0, later (d.after s) refused.1)

  earlier : (k more : ℕ) → suc k < suc more → k < more
  earlier k more below = omega (arith, below)

  sooner : (k more : ℕ) → k < more → suc k < suc more
  sooner k more below = omega (arith, below)

  module _ (gives : (u : S) → IsSome (d.sampled u)) (unlimited : (u : S) → ¬ (d.meets_limit u)) where
    met : (limit : ℕ) (s : S) → first_accepted d accepts limit s ≡ None → MeetsLimit d accepts limit s
    unfolding first_accepted MeetsLimit
    met zero s h = tt
    met (suc more) s h = inr (met-one more s (d.sampled s) refl (gives s) (met more) h)

    gives_none : (limit : ℕ) (s : S) → MeetsLimit d accepts limit s → first_accepted d accepts limit s ≡ None
    unfolding first_accepted MeetsLimit
    gives_none zero s h = refl
    gives_none (suc more) s (inl here) = absurd (unlimited s here)
    gives_none (suc more) s (inr later) =
        ap (option_and_then (λ x. if accepts x then Some x else first_accepted d accepts more (d.after s))) later.1
        ∙ ap (λ b. if b then Some later.0 else first_accepted d accepts more (d.after s)) later.2
        ∙ gives_none more (d.after s) later.3

    consumed : (limit : ℕ) (s : S) → MeetsLimit d accepts limit s
        → after_first_accepted d accepts limit s ≡ after_steps d.after limit s
    unfolding after_first_accepted MeetsLimit
    consumed zero s h = refl
    consumed (suc more) s (inl here) = absurd (unlimited s here)
    consumed (suc more) s (inr later) =
        ap (λ o. after_refused accepts (after_first_accepted d accepts more) o (d.after s)) later.1
        ∙ ap (λ b. if b then d.after s else after_first_accepted d accepts more (d.after s)) later.2
        ∙ consumed more (d.after s) later.3

    each_refused : (limit : ℕ) (s : S) → MeetsLimit d accepts limit s → EachRefused d accepts limit s
    unfolding MeetsLimit
    each_refused zero s h k below = absurd (omega (arith, below))
    each_refused (suc more) s (inl here) k below = absurd (unlimited s here)
    each_refused (suc more) s (inr later) zero below = (later.0, later.1, later.2)
    each_refused (suc more) s (inr later) (suc k) below = each_refused more (d.after s) later.3 k (earlier k more below)

    refused_each : (limit : ℕ) (s : S) → EachRefused d accepts limit s → MeetsLimit d accepts limit s
    unfolding MeetsLimit
    refused_each zero s h = tt
    refused_each (suc more) s h =
        let first = h 0 (omega arith) in
        inr (first.0, first.1, first.2, refused_each more (d.after s) (λ k below. h (suc k) (sooner k more below)))

    -- the first accepted candidate within the limit, and a function of it
    pub limit-met_exactly : {U : Type 0} (f : T → U) (limit : S → ℕ)
        → MeetsLimitExactly d accepts limit (made_of f (accepted_within d accepts limit))
    limit-met_exactly f limit =
        record {
          gives_none = λ s. (
            λ none. each_refused (limit s) s
                (met (limit s) s ((made_none f (first_accepted d accepts (limit s) s)).0 none)),
            λ each. (made_none f (first_accepted d accepts (limit s) s)).1
                (gives_none (limit s) s (refused_each (limit s) s each)),
          );
          meets = λ s. (each_refused (limit s) s, refused_each (limit s) s);
          consumed = λ s each. consumed (limit s) s (refused_each (limit s) s each);
        }
