-- Draws that a rule may refuse, one after another.
use Rattle.std.proofs.Common.{◌≡◌, ℕ, zero, suc, ◌<◌, true, false, List, [], ◌∷◌, ◌++◌, Some}
use Rattle.std.proofs.Common.{refl, ap, ◌∙◌, inl, inr, subst, arith}
use Rattle.p3_challenger_core.specs.{declared.error.ChallengerError.ChallengerError, Sampling.{Sampling, RefusesDraw}}
use Rattle.p3_challenger_core.specs.declared.error.ChallengerError.TheVariants.{DrawLimit}
use Rattle.p3_driver_core.specs.Rejecting.{Rule, Outcome, given, taken, RefusesTaken, keeps, RefusesKeeps}

module _ {S T : Type 0} (d : Sampling S T) (rule : Rule T) where
  -- Of so many candidates the first ones were refused: what is left of them goes on from here.
  pub record Seeks (limit : ℕ) (kept : List T) (start : S) (left : ℕ) (here : S) : Type 0 where
    pub on : taken d rule limit kept start ≡ taken d rule left kept here
    pub refused : (e : ChallengerError) (t : S) → RefusesTaken d rule left kept e here t →
        RefusesTaken d rule limit kept e start t

  -- Of so many values to keep, some were: what is left of them goes on from here.
  pub record Keeps (limit n : ℕ) (start : S) (left : ℕ) (kept : List T) (here : S) : Type 0 where
    pub on : keeps d rule limit n [] start ≡ keeps d rule limit left kept here
    pub refused : (e : ChallengerError) (t : S) → RefusesKeeps d rule limit left kept e here t →
        RefusesKeeps d rule limit n [] e start t

module _ {S T : Type 0} {d : Sampling S T} {rule : Rule T} {limit : ℕ} {start : S} where
  pub seeks-start : {kept : List T} {left : ℕ} → limit ≡ left → Seeks d rule limit kept start left start
  seeks-start {kept} all =
      subst (λ left. Seeks d rule limit kept start left start) all (record { on = refl; refused = λ e t h. h })

  pub seeks-next : {kept : List T} {left more : ℕ} {here there : S} {x : T} → left ≡ suc more → d.sampled here ≡ Some x →
      there ≡ d.after here → rule x kept ≡ false → Seeks d rule limit kept start left here →
      Seeks d rule limit kept start more there
  unfolding taken RefusesTaken
  seeks-next {kept} {left} {more} {here} {there} {x} one drawn after test so_far =
      let at = rw one at so_far in
      let on : taken d rule (suc more) kept here ≡ taken d rule more kept there = rw (after, drawn, test) in
      record { on = at.on ∙ on; refused = λ e t r. at.refused e t (inr (x, drawn, test, rw (← after) r)) }

  pub seeks-takes : {kept : List T} {left : ℕ} {here there : S} {x : T} → 0 < left → d.sampled here ≡ Some x →
      there ≡ d.after here → rule x kept ≡ true → Seeks d rule limit kept start left here →
      taken d rule limit kept start ≡ given x there
  unfolding taken
  seeks-takes {left = zero} some drawn after test so_far = absurd (omega arith)
  seeks-takes {kept} {left = suc more} {here} {there} {x} some drawn after test so_far =
      let on : taken d rule (suc more) kept here ≡ given x there = rw (after, drawn, test) in so_far.on ∙ on

  pub seeks-refused : {kept : List T} {left : ℕ} {here : S} → 0 < left → Seeks d rule limit kept start left here →
      (e : ChallengerError) (t : S) → RefusesDraw d e here t → RefusesTaken d rule limit kept e start t
  unfolding RefusesTaken
  seeks-refused {left = zero} some so_far e t r = absurd (omega arith)
  seeks-refused {left = suc more} some so_far e t r = so_far.refused e t (inl r)

  pub seeks-none : {kept : List T} {left : ℕ} {here : S} → left ≡ 0 → Seeks d rule limit kept start left here →
      RefusesTaken d rule limit kept DrawLimit start here
  unfolding RefusesTaken
  seeks-none none so_far = (rw none at so_far).refused DrawLimit _ (refl, refl)

  pub keeps-next : {n left more : ℕ} {kept shown new : List T} {here there : S} {x : T} → left ≡ suc more → shown ≡ kept →
      new ≡ kept ++ (x ∷ []) → taken d rule limit shown here ≡ given x there →
      Keeps d rule limit n start left kept here → Keeps d rule limit n start more new there
  unfolding keeps RefusesKeeps
  keeps-next {n} {left} {more} {kept} {shown} {new} {here} {there} {x} one same grown takes so_far =
      let at = rw one at so_far in
      let is : taken d rule limit kept here ≡ given x there = rw (← same) takes in
      let on : keeps d rule limit (suc more) kept here ≡ keeps d rule limit more new there = rw (grown, is) in
      record {
        on = at.on ∙ on;
        refused = λ e t r. at.refused e t (inr (
          x,
          ap (λ (o : Outcome S T). o.gives) is,
          rw (ap (λ (o : Outcome S T). o.after) is, ← grown) r,
        ));
      }

  pub keeps-refused : {n left : ℕ} {kept shown : List T} {here : S} → 0 < left → shown ≡ kept →
      Keeps d rule limit n start left kept here → (e : ChallengerError) (t : S) →
      RefusesTaken d rule limit shown e here t → RefusesKeeps d rule limit n [] e start t
  unfolding RefusesKeeps
  keeps-refused {left = zero} some same so_far e t r = absurd (omega arith)
  keeps-refused {left = suc more} some same so_far e t r = so_far.refused e t (inl (rw (← same) r))

  pub keeps-all : {n left : ℕ} {kept bound : List T} {here : S} → left ≡ 0 → bound ≡ kept →
      Keeps d rule limit n start left kept here → keeps d rule limit n [] start ≡ given bound here
  unfolding keeps
  keeps-all none same so_far = (rw none at so_far).on ∙ rw same
