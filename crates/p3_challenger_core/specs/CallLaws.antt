-- Calls made one after another.
use Rattle.std.proofs.Common.{◌≡◌, ℕ, ◌+◌, ◌<◌, ◌≤◌, List, [], ◌∷◌, length, drop, get_or, sym, ap, ◌∙◌, inl, inr, subst}
use Rattle.std.proofs.{Common.add-one, Math.{ListN.drop_of_length-le, Seq.drop-cons}}
use Rattle.p3_challenger_core.specs.Observation.{observed_all, LeavesInCalls, RefusesObserve}
use Rattle.p3_challenger_core.specs.declared.error.ChallengerError.{ChallengerError, TheVariants.OutOfMemory}

-- from here the remaining calls lead where all calls lead from the start
pub record GoesOn {S T : Type 0} (step : S → T → S) (MayLeave : S → T → S → Type 0) (start : S) (values : List T)
    (here : S) (rest : List T) : Type 0 where
  pub whole : observed_all step here rest ≡ observed_all step start values
  pub refused : (t : S) → LeavesInCalls step MayLeave here rest t → LeavesInCalls step MayLeave start values t

module _ {S T : Type 0} (step : S → T → S) (MayLeave : S → T → S → Type 0) (start : S) (values : List T) where
  -- after the last call
  pub calls-done : (here : S) → GoesOn step MayLeave start values here [] → here ≡ observed_all step start values
  calls-done here on = on.whole

  -- one more call is made
  pub call-made : (here next : S) (x : T) (rest : List T) → next ≡ step here x
      → GoesOn step MayLeave start values here (x ∷ rest) → GoesOn step MayLeave start values next rest
  call-made here next x rest moved on =
      subst (λ (s : S). GoesOn step MayLeave start values s rest) (sym moved)
      (record { whole = on.whole; refused = λ t h. on.refused t (inr h) })

  -- a call is refused
  pub call-refused : (here t : S) (x : T) (rest : List T) (e : ChallengerError) → RefusesObserve (MayLeave here x) e t
      → GoesOn step MayLeave start values here (x ∷ rest)
      → RefusesObserve (LeavesInCalls step MayLeave start values) e t
  call-refused here t x rest OutOfMemory h on = on.refused t (inl h)
  call-refused here t x rest e h on = absurd h

  -- from here the calls after place i lead where all calls lead from the start
  module _ (here : S) (i : ℕ) where
    pub goes_on-end : length values ≤ i → GoesOn step MayLeave start values here (drop i values)
        → here ≡ observed_all step start values
    goes_on-end h on = sym (ap (observed_all step here) (drop_of_length-le values h)) ∙ on.whole

    module _ (x : T) (in_range : i < length values) (is : x ≡ get_or values i x)
        (on : GoesOn step MayLeave start values here (drop i values)) where
      rest-is : drop i values ≡ x ∷ drop (i + 1) values
      rest-is = drop-cons values i x in_range ∙ (λ j. sym is j ∷ drop (sym (add-one i) j) values)

      at_x : GoesOn step MayLeave start values here (x ∷ drop (i + 1) values)
      at_x = subst (λ (rest : List T). GoesOn step MayLeave start values here rest) rest-is on

      pub goes_on-next : (next : S) → next ≡ step here x → GoesOn step MayLeave start values next (drop (i + 1) values)
      goes_on-next next moved = call-made here next x (drop (i + 1) values) moved at_x

      pub goes_on-refused : (e : ChallengerError) (t : S) → RefusesObserve (MayLeave here x) e t
          → RefusesObserve (LeavesInCalls step MayLeave start values) e t
      goes_on-refused e t h = call-refused here t x (drop (i + 1) values) e h at_x
