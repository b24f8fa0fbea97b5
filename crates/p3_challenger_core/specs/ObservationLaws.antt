-- Laws of observations: the symbols fed by one value and by several in a row.
use Rattle.std.proofs.Common.{◌≡◌, ℕ, zero, suc, inl, inr, List, [], ◌∷◌, ◌++◌, take, Result, Ok, Err, refl, sym, ap}
use Rattle.std.{proofs.Common.{◌∙◌, append_assoc, append-nil, subst}, specs.{List.flat_map, Result.OnOk}}
use Rattle.p3_challenger_core.specs.{Sponge.{IsNonEmpty, IsFed}, Observation.{in_slice, observed_as, Observation}}
use Rattle.p3_challenger_core.specs.Observation.{IsObservation, LeavesFed, LeavesAfter, LeavesInCalls, RefusesObserve}
use Rattle.p3_challenger_core.specs.Observation.{observed_all, unrefused_observe, in_row}
use Rattle.p3_challenger_core.specs.declared.error.ChallengerError.{ChallengerError, TheVariants.OutOfMemory}

-- the consequence of an observation that was not refused
pub on_ok : {T E : Type 0} (result : Result T E) {A B : Type 0} → (A → B) → OnOk result A → OnOk result B
on_ok (Ok x) f h = f h
on_ok (Err e) f h = tt

-- a prefix of the first list is a prefix of the concatenation, and so is the first list with a prefix of
-- the second
pub front_append : {X : Type 0} (n : ℕ) (a b : List X) → (m : ℕ) × (take m (a ++ b) ≡ take n a)
front_append zero a b = (0, refl)
front_append (suc n) [] b = (0, refl)
front_append (suc n) (x ∷ a) b = let rest = front_append n a b in (suc rest.0, ap (λ ys. x ∷ ys) rest.1)

pub after_append : {X : Type 0} (n : ℕ) (a b : List X) → (m : ℕ) × (take m (a ++ b) ≡ a ++ take n b)
after_append n [] b = (n, refl)
after_append n (x ∷ a) b = let rest = after_append n a b in (suc rest.0, ap (λ ys. x ∷ ys) rest.1)

-- observations that are never refused are not refused in a row
no_leaving : {S T : Type 0} (step : S → T → S) (s : S) (xs : List T) (t : S)
    → LeavesInCalls step (λ _ _ _. ⊥) s xs t → ⊥
no_leaving step s [] t h = h
no_leaving step s (x ∷ xs) t (inl here) = here
no_leaving step s (x ∷ xs) t (inr later) = no_leaving step (step s x) xs t later

pub row-not_refused : {S T : Type 0} (step : S → T → S) (xs : List T) (e : ChallengerError) (s t : S)
    → RefusesObserve (LeavesInCalls step (λ _ _ _. ⊥) s xs) e t → ⊥
row-not_refused step xs OutOfMemory s t h = no_leaving step s xs t h
row-not_refused step xs e s t h = h

module _ {S Symbol : Type 0} (fed : S → List Symbol → S) (fed_nothing : (s : S) → fed s [] ≡ s)
    (fed_more : (s : S) (a b : List Symbol) → fed (fed s a) b ≡ fed s (a ++ b)) where
  -- symbols that are fed exactly are fed
  pub exactly-fed : (s : S) (a : List Symbol) (t : S) → t ≡ fed s a → IsFed fed s a t
  exactly-fed s a t is =
      record { exactly = λ _. is; traceless = λ y ys. ap (λ u. fed u (y ∷ ys)) is ∙ fed_more s a (y ∷ ys) }

  -- feeding no symbols leaves the state, except for dropped outputs
  pub nothing-fed : (s t : S) → t ≡ s → IsFed fed s [] t
  nothing-fed s t is = exactly-fed s [] t (is ∙ sym (fed_nothing s))

  -- an exact observation feeds its symbols exactly, and a refused one a prefix of them
  pub exact-observation : {T : Type 0} (o : Observation S Symbol T)
      → ((s : S) (x : T) → o.observed s x ≡ fed s (o.symbols x))
      → ((s : S) (x : T) (t : S) → o.may_leave s x t → (n : ℕ) × (t ≡ fed s (take n (o.symbols x))))
      → IsObservation fed o
  exact-observation o feeds fronts =
      record {
        observes = λ s x. exactly-fed s (o.symbols x) (o.observed s x) (feeds s x);
        observes_after = λ s y ys x. feeds (fed s (y ∷ ys)) x ∙ fed_more s (y ∷ ys) (o.symbols x);
        leaves = λ s x t h. let front = fronts s x t h in
            (front.0, exactly-fed s (take front.0 (o.symbols x)) t front.1);
        leaves_after = λ s y ys x t h.
            let front = fronts (fed s (y ∷ ys)) x t h in
            (front.0, front.1 ∙ fed_more s (y ∷ ys) (take front.0 (o.symbols x)));
      }

  -- an observation that is never refused feeds its symbols exactly
  pub unrefused_observe-is_observation : {T : Type 0} (symbols : T → List Symbol) (observed : S → T → S)
      → ((s : S) (x : T) → observed s x ≡ fed s (symbols x)) → IsObservation fed (unrefused_observe symbols observed)
  unrefused_observe-is_observation symbols observed feeds =
      exact-observation (unrefused_observe symbols observed) feeds (λ s x t h. absurd h)

  -- a refusal that changes nothing has fed no symbol
  pub unchanged-front : (s t : S) (symbols : List Symbol) → t ≡ s → (n : ℕ) × (t ≡ fed s (take n symbols))
  unchanged-front s t symbols is = (0, is ∙ sym (fed_nothing s))

  -- ---- one after another

  nothing_then-exactly : (s t u : S) (b : List Symbol) → IsFed fed s [] t → IsFed fed t b u → IsNonEmpty b → u ≡ fed s b
  nothing_then-exactly s t u [] first second some = absurd some
  nothing_then-exactly s t u (y ∷ ys) first second some = second.exactly tt ∙ first.traceless y ys

  nothing_then-traceless : (s t u : S) (b : List Symbol) → IsFed fed s [] t → IsFed fed t b u
      → (y : Symbol) (ys : List Symbol) → fed u (y ∷ ys) ≡ fed s (b ++ y ∷ ys)
  nothing_then-traceless s t u [] first second y ys = second.traceless y ys ∙ first.traceless y ys
  nothing_then-traceless s t u (z ∷ zs) first second y ys = second.traceless y ys ∙ first.traceless z (zs ++ y ∷ ys)

  -- symbols fed after a state to which nothing was fed are fed to the state before it
  nothing_then : (s t u : S) (b : List Symbol) → IsFed fed s [] t → IsFed fed t b u → IsFed fed s b u
  nothing_then s t u b first second =
      record {
        exactly = nothing_then-exactly s t u b first second;
        traceless = nothing_then-traceless s t u b first second;
      }

  -- two feeding steps in a row, of which the second is exact after a symbol
  pub fed-then : (s t u : S) (a b : List Symbol) → IsFed fed s a t → IsFed fed t b u
      → ((y : Symbol) (ys : List Symbol) → t ≡ fed s (y ∷ ys) → u ≡ fed s ((y ∷ ys) ++ b)) → IsFed fed s (a ++ b) u
  fed-then s t u [] b first second following = nothing_then s t u b first second
  fed-then s t u (y ∷ ys) b first second following = exactly-fed s ((y ∷ ys) ++ b) u (following y ys (first.exactly tt))

  -- ---- values in a row

  module _ {T : Type 0} (o : Observation S Symbol T) (laws : IsObservation fed o) where
    all-following : (s : S) (y : Symbol) (ys : List Symbol) (xs : List T)
        → observed_all o.observed (fed s (y ∷ ys)) xs ≡ fed s ((y ∷ ys) ++ flat_map o.symbols xs)
    all-following s y ys [] = ap (λ zs. fed s (y ∷ zs)) (sym (append-nil ys))
    all-following s y ys (x ∷ xs) =
        ap (λ t. observed_all o.observed t xs) (laws.observes_after s y ys x)
        ∙ all-following s y (ys ++ o.symbols x) xs
        ∙ ap (fed s) (append_assoc (y ∷ ys) (o.symbols x) (flat_map o.symbols xs))

    -- values in a row feed their symbols in a row
    pub all-fed : (s : S) (xs : List T) → IsFed fed s (flat_map o.symbols xs) (observed_all o.observed s xs)
    all-fed s [] = nothing-fed s s refl
    all-fed s (x ∷ xs) =
        fed-then s (o.observed s x) (observed_all o.observed (o.observed s x) xs) (o.symbols x) (flat_map o.symbols xs)
        (laws.observes s x)
        (all-fed (o.observed s x) xs)
        (λ y ys is. ap (λ t. observed_all o.observed t xs) is ∙ all-following s y ys xs)

    -- they are fed exactly if some value feeds a symbol, or there is no value
    pub all-fed_exactly : (s : S) (xs : List T) → (IsNonEmpty xs → IsNonEmpty (flat_map o.symbols xs))
        → observed_all o.observed s xs ≡ fed s (flat_map o.symbols xs)
    all-fed_exactly s [] some = sym (fed_nothing s)
    all-fed_exactly s (x ∷ xs) some = (all-fed s (x ∷ xs)).exactly (some tt)

    calls-following : (s : S) (y : Symbol) (ys : List Symbol) (xs : List T) (t : S)
        → LeavesInCalls o.observed o.may_leave (fed s (y ∷ ys)) xs t
        → LeavesAfter fed s (y ∷ ys) (flat_map o.symbols xs) t
    calls-following s y ys [] t h = absurd h
    calls-following s y ys (x ∷ xs) t (inl here) =
        let left = laws.leaves_after s y ys x t here in
        let front = front_append left.0 (o.symbols x) (flat_map o.symbols xs) in
        (front.0, left.1 ∙ ap (λ zs. fed s ((y ∷ ys) ++ zs)) (sym front.1))
    calls-following s y ys (x ∷ xs) t (inr later) =
        let moved = subst (λ u. LeavesInCalls o.observed o.may_leave u xs t) (laws.observes_after s y ys x) later in
        let left = calls-following s y (ys ++ o.symbols x) xs t moved in
        let front = after_append left.0 (o.symbols x) (flat_map o.symbols xs) in (
          front.0,
          left.1
              ∙ ap (fed s) (append_assoc (y ∷ ys) (o.symbols x) (take left.0 (flat_map o.symbols xs)))
              ∙ ap (λ zs. fed s ((y ∷ ys) ++ zs)) (sym front.1),
        )

    later-left : (s here t : S) (a : List Symbol) (xs : List T) → IsFed fed s a here
        → LeavesInCalls o.observed o.may_leave here xs t → LeavesFed fed here (flat_map o.symbols xs) t
        → LeavesFed fed s (a ++ flat_map o.symbols xs) t
    later-left s here t [] xs first h left =
        (left.0, nothing_then s here t (take left.0 (flat_map o.symbols xs)) first left.1)
    later-left s here t (y ∷ ys) xs first h left =
        let moved = subst (λ u. LeavesInCalls o.observed o.may_leave u xs t) (first.exactly tt) h in
        let exact = calls-following s y ys xs t moved in
        let front = after_append exact.0 (y ∷ ys) (flat_map o.symbols xs) in (
          front.0,
          exactly-fed s (take front.0 ((y ∷ ys) ++ flat_map o.symbols xs)) t
              (exact.1 ∙ ap (fed s) (sym front.1)),
        )

    -- if one of the values is refused, a prefix of their symbols was fed
    pub calls-leave : (s : S) (xs : List T) (t : S) → LeavesInCalls o.observed o.may_leave s xs t
        → LeavesFed fed s (flat_map o.symbols xs) t
    calls-leave s [] t h = absurd h
    calls-leave s (x ∷ xs) t (inl here) =
        let left = laws.leaves s x t here in
        let front = front_append left.0 (o.symbols x) (flat_map o.symbols xs) in
        (front.0, subst (λ a. IsFed fed s a t) (sym front.1) left.1)
    calls-leave s (x ∷ xs) t (inr later) =
        later-left s (o.observed s x) t (o.symbols x) xs (laws.observes s x) later
        (calls-leave (o.observed s x) xs t later)

    pub in_row-is_observation : IsObservation fed (in_row o)
    in_row-is_observation =
        record {
          observes = all-fed;
          observes_after = all-following;
          leaves = calls-leave;
          leaves_after = calls-following;
        }

    pub observed_as-is_observation : {U : Type 0} (f : U → T) → IsObservation fed (observed_as f o)
    observed_as-is_observation f =
        record {
          observes = λ s x. laws.observes s (f x);
          observes_after = λ s y ys x. laws.observes_after s y ys (f x);
          leaves = λ s x t h. laws.leaves s (f x) t h;
          leaves_after = λ s y ys x t h. laws.leaves_after s y ys (f x) t h;
        }

    pub in_slice-is_observation : (slice_may_leave : S → List T → S → Type 0)
        → ((s : S) (xs : List T) (t : S) → slice_may_leave s xs t → LeavesInCalls o.observed o.may_leave s xs t)
        → IsObservation fed (in_slice o slice_may_leave)
    in_slice-is_observation slice_may_leave slice_leaves =
        record {
          observes = all-fed;
          observes_after = all-following;
          leaves = λ s xs t h. calls-leave s xs t (slice_leaves s xs t h);
          leaves_after = λ s y ys xs t h. calls-following s y ys xs t (slice_leaves (fed s (y ∷ ys)) xs t h);
        }
