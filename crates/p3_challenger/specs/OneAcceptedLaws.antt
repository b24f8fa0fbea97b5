-- Laws of a draw of one value that a rule may reject.
use Rattle.std.proofs.Common.{◌≡◌, ℕ, zero, suc, Bool, true, false, List, [], ◌∷◌, ◌++◌, Option, Some, None, refl, sym, ◌∙◌}
use Rattle.std.proofs.Common.{if◌then◌else◌, ap, map, length, get_or}
use Rattle.p3_challenger_core.specs.Sampling.{Sampling}
use Rattle.p3_fs_core.specs.Steps.{Step}
use Rattle.p3_driver_core.specs.Rejecting.{Rule, Outcome, given, go_on, taken, keeps, drawn_rejecting}
use Rattle.p3_driver_core.specs.Transcripts.{IsNext, PlaysStep, Transcript, step_on}

module _ {S T : Type 0} (d : Sampling S T) (rule : Rule T) where
  chosen-passes : (kept : List T) (x y : T) (takes : Bool) (t : S) (others : Outcome S T) → rule y kept ≡ takes →
      (others.gives ≡ Some x → rule x kept ≡ true) → (if takes then given y t else others).gives ≡ Some x →
      rule x kept ≡ true
  chosen-passes kept x y true t others passes later is =
      let both : ◌≡◌ {A = Option T} (Some y) (Some x) = is in
      let same : y ≡ x = cc in
      ap (λ z. rule z kept) (sym same) ∙ passes
  chosen-passes kept x y false t others passes later is = later is

  drawn-passes : (kept : List T) (x : T) (drawn : Option T) (t : S) (others : S → Outcome S T) →
      ((others t).gives ≡ Some x → rule x kept ≡ true) →
      (go_on (λ y u. if rule y kept then given y u else others u) drawn t).gives ≡ Some x → rule x kept ≡ true
  drawn-passes kept x None t others later is = cc
  drawn-passes kept x (Some y) t others later is = chosen-passes kept x y (rule y kept) t (others t) refl later is

  -- the value that is taken is one that the rule takes
  taken-passes : (n : ℕ) (kept : List T) (s : S) (x : T) → (taken d rule n kept s).gives ≡ Some x → rule x kept ≡ true
  unfolding taken
  taken-passes zero kept s x is = cc
  taken-passes (suc n) kept s x is =
      drawn-passes kept x (d.sampled s) (d.after s) (taken d rule n kept)
      (taken-passes n kept (d.after s) x) is

  one-kept : (limit : ℕ) (xs : List T) (taking : Option T) (t : S) →
      (go_on (λ x u. keeps d rule limit 0 ([] ++ (x ∷ [])) u) taking t).gives ≡ Some xs →
      (x : T) × (taking ≡ Some x) × (xs ≡ x ∷ [])
  unfolding keeps
  one-kept limit xs None t is = cc
  one-kept limit xs (Some x) t is =
      let both : ◌≡◌ {A = Option (List T)} (Some (x ∷ [])) (Some xs) = is in
      let same : xs ≡ x ∷ [] = cc in
      (x, refl, same)

  -- one value is drawn, and the rule takes it
  pub one-passes : (limit : ℕ) (s : S) (xs : List T) → (keeps d rule limit 1 [] s).gives ≡ Some xs →
      (x : T) × ((taken d rule limit [] s).gives ≡ Some x) × (rule x [] ≡ true) × (xs ≡ x ∷ [])
  unfolding keeps
  one-passes limit s xs is =
      let one = one-kept limit xs (taken d rule limit [] s).gives (taken d rule limit [] s).after is in
      (one.0, one.1, taken-passes limit [] s one.0 one.1, one.2)

-- a list whose values are just this one
one-value : {A B : Type 0} (value : A → B) (bounds : List A) (x : B) → map value bounds ≡ x ∷ [] →
    (length bounds ≡ 1) × ((other : A) → value (get_or bounds 0 other) ≡ x)
one-value value [] x is = cc
one-value value (b ∷ []) x is = (refl, λ other. cc)
one-value value (b ∷ c ∷ bounds) x is = cc

-- what is so of the value of a list that was drawn so
module _ {S T A : Type 0} (d : Sampling S T) (rule : Rule T) (value : A → T) where
  pub one-drawn : (limit : ℕ) (s : S) (bounds : List A) → (keeps d rule limit 1 [] s).gives ≡ Some (map value bounds) →
      (length bounds ≡ 1) × ((other : A) → ((taken d rule limit [] s).gives ≡ Some (value (get_or bounds 0 other)))
      × (rule (value (get_or bounds 0 other)) [] ≡ true))
  one-drawn limit s bounds is =
      let one = one-passes d rule limit s (map value bounds) is in
      let same = one-value value bounds one.0 one.3 in
      (same.0, λ other. (one.1 ∙ ap Some (sym (same.1 other)), ap (λ x. rule x []) (same.1 other) ∙ one.2))

module _ {S T : Type 0} (d : Sampling S T) (rule : Rule T) (limit : ℕ) (s : S) (x : T) where
  -- the first value that the rule takes is all that is kept of one
  kept-one : (taken d rule limit [] s).gives ≡ Some x → (keeps d rule limit 1 [] s).gives ≡ Some (x ∷ [])
  unfolding keeps
  kept-one is =
      ap (λ g. (go_on (λ y t. keeps d rule limit 0 (y ∷ []) t) g (taken d rule limit [] s).after).gives) is

  pub draws-one : {Symbol : Type 0} (step : Step) (transcript : Transcript S) → transcript.challenger ≡ s →
      IsNext transcript.playing step →
      (taken d rule limit [] s).gives ≡ Some x →
      PlaysStep {Symbol = Symbol} (drawn_rejecting step d rule limit 1) transcript (x ∷ [])
      (record {
        challenger = (keeps d rule limit 1 [] transcript.challenger).after;
        playing = step_on
            transcript.playing;
      })
  draws-one step transcript at is_next is =
      record {
        is_next = is_next;
        fits = tt;
        gives = ap (λ u. (keeps d rule limit 1 [] u).gives) at ∙ kept-one is;
        challenger = refl;
        playing = refl;
      }
