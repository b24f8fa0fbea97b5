-- Calls made one after another, several of them at once.
use Rattle.std.proofs.Common.{◌≡◌, ◌<◌, ℕ, length, map, min, arith, ap, List, [], ◌∷◌, ◌++◌, refl, sym, ◌∙◌, inl, inr, subst}
use Rattle.p3_challenger_core.specs.Observation.{observed_all, LeavesInCalls, RefusesObserve}
use Rattle.p3_challenger_core.specs.{CallLaws.{GoesOn, call-made}, declared.error.ChallengerError.ChallengerError}
use Rattle.p3_challenger_core.specs.declared.error.ChallengerError.TheVariants.{OutOfMemory}
use Rattle.p3_field_core.specs.Residues.{Residues}
use Rattle.p3_fs_core.specs.{Packing.{packed_chunks, little_endian}, PackingLaws.chunks-step}

module _ {S T : Type 0} (step : S → T → S) (MayLeave : S → T → S → Type 0) where
  all-append : (s : S) (xs ys : List T) → observed_all step (observed_all step s xs) ys ≡ observed_all step s (xs ++ ys)
  all-append s [] ys = refl
  all-append s (x ∷ xs) ys = all-append (step s x) xs ys

  -- a call that is refused in a front of the calls is one of them, and so is one after that front
  calls-front : (s : S) (xs ys : List T) (t : S) → LeavesInCalls step MayLeave s xs t
      → LeavesInCalls step MayLeave s (xs ++ ys) t
  calls-front s [] ys t h = absurd h
  calls-front s (x ∷ xs) ys t (inl here) = inl here
  calls-front s (x ∷ xs) ys t (inr later) = inr (calls-front (step s x) xs ys t later)

  calls-after : (s : S) (xs ys : List T) (t : S) → LeavesInCalls step MayLeave (observed_all step s xs) ys t
      → LeavesInCalls step MayLeave s (xs ++ ys) t
  calls-after s [] ys t h = h
  calls-after s (x ∷ xs) ys t h = inr (calls-after (step s x) xs ys t h)

  -- the first call is made
  pub first-made : (start next : S) (x : T) (rest : List T) → next ≡ step start x
      → GoesOn step MayLeave start (x ∷ rest) next rest
  first-made start next x rest moved =
      call-made step MayLeave start (x ∷ rest) start next x rest moved (record { whole = refl; refused = λ t h. h })

  -- what goes on from where others stopped
  pub goes_on-then : (start here there : S) (values rest more : List T) → GoesOn step MayLeave start values here rest
      → GoesOn step MayLeave here rest there more → GoesOn step MayLeave start values there more
  goes_on-then start here there values rest more first second =
      record { whole = second.whole ∙ first.whole; refused = λ t h. first.refused t (second.refused t h) }

  -- a call that is refused in what goes on is one of all
  pub rest-refused : (start here : S) (values rest : List T) → GoesOn step MayLeave start values here rest
      → (e : ChallengerError) (t : S) → RefusesObserve (LeavesInCalls step MayLeave here rest) e t
      → RefusesObserve (LeavesInCalls step MayLeave start values) e t
  rest-refused start here values rest on OutOfMemory t h = on.refused t h
  rest-refused start here values rest on _ t h = absurd h

  module _ (start : S) (values : List T) (here : S) (xs rest : List T)
      (on : GoesOn step MayLeave start values here (xs ++ rest)) where
    -- some calls more are made
    pub slice-made : (next : S) → next ≡ observed_all step here xs → GoesOn step MayLeave start values next rest
    slice-made next moved =
        subst (λ (s : S). GoesOn step MayLeave start values s rest) (sym moved)
        (record {
          whole = all-append here xs rest ∙ on.whole;
          refused = λ t h. on.refused t (calls-after here xs rest t h);
        })

    -- one of them is refused
    pub slice-refused : (SliceMayLeave : S → List T → S → Type 0)
        → ((s : S) (ys : List T) (t : S) → SliceMayLeave s ys t → LeavesInCalls step MayLeave s ys t)
        → (e : ChallengerError) (t : S) → RefusesObserve (SliceMayLeave here xs) e t
        → RefusesObserve (LeavesInCalls step MayLeave start values) e t
    slice-refused SliceMayLeave leaves OutOfMemory t h =
        on.refused t (calls-front here xs rest t (leaves here xs t h))
    slice-refused SliceMayLeave leaves _ t h = absurd h

-- where chunks are left, the first of them is next
pub chunk-next : {F S : Type 0} (r : Residues F) (step : S → F → S) (MayLeave : S → F → S → Type 0) (start here : S)
    (values : List F) (k size : ℕ) (all chunk rest : List ℕ) → 0 < k → k ≡ size → 0 < length all → all ≡ chunk ++ rest
    → length chunk ≡ min k (length all) → GoesOn step MayLeave start values here (packed_chunks r size all)
    → GoesOn step MayLeave start values here (r.of (little_endian chunk) ∷ packed_chunks r size rest)
chunk-next r step MayLeave start here values k size all chunk rest positive same some parts short on =
    let split =
    chunks-step size all chunk rest (omega (arith, positive, same)) some parts
    (short ∙ ap (λ j. min j (length all)) same) in
    subst (λ chunks. GoesOn step MayLeave start values here (map (λ bytes. r.of (little_endian bytes)) chunks)) split on
