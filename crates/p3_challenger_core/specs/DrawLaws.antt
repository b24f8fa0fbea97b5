-- Draws in a row, one after another.
use Rattle.std.proofs.Common.{◌≡◌, ℕ, suc, ◌+◌, ◌-◌, ◌<◌, ◌≤◌, List, [], ◌∷◌, ◌++◌, Option, Some, None, is_some, refl}
use Rattle.std.{proofs.Common.{sym, ap, ◌∙◌, inl, inr, append_assoc, append-nil, arith}, specs.Option.option_map}
use Rattle.p3_challenger_core.specs.Sampling.{RefusesDraws, Sampling, draws, after_draws, RefusesDraw}
use Rattle.p3_challenger_core.specs.declared.error.ChallengerError.{ChallengerError}

module _ {S T : Type 0} (d : Sampling S T) where
  -- Of n draws from a start, these values were drawn; the remaining draws continue from here.
  pub record Drew (n : ℕ) (start : S) (xs : List T) (left : ℕ) (here : S) : Type 0 where
    pub drawn : draws d n start ≡ option_map (λ ys. xs ++ ys) (draws d left here)
    pub reached : after_draws d n start ≡ after_draws d left here
    pub refused : (e : ChallengerError) (t : S) → RefusesDraws d left e here t → RefusesDraws d n e start t

  after_nothing : (o : Option (List T)) → o ≡ option_map (λ ys. [] ++ ys) o
  after_nothing None = refl
  after_nothing (Some ys) = refl

  after_one_more : (xs : List T) (x : T) (o : Option (List T))
      → option_map (λ ys. xs ++ ys) (option_map (λ ys. x ∷ ys) o) ≡ option_map (λ ys. (xs ++ x ∷ []) ++ ys) o
  after_one_more xs x None = refl
  after_one_more xs x (Some ys) = ap Some (sym (append_assoc xs (x ∷ []) ys))

  -- one draw more
  next : {n : ℕ} {start : S} {xs : List T} {left : ℕ} {here : S} {x : T} → d.sampled here ≡ Some x
      → Drew n start xs (suc left) here → Drew n start (xs ++ x ∷ []) left (d.after here)
  unfolding draws after_draws RefusesDraws
  next {n} {start} {xs} {left} {here} {x} e so_far =
      record {
        drawn = so_far.drawn ∙ rw e (after_one_more xs x (draws d left (d.after here)));
        reached = so_far.reached ∙ rw e refl;
        refused = λ error t h. so_far.refused error t (inr (ap is_some e, h));
      }

  -- the same draws, with equal values or an equal state
  pub drew-as : (n : ℕ) (start : S) (xs ys : List T) (left : ℕ) (here there : S) → ys ≡ xs → there ≡ here
      → Drew n start xs left here → Drew n start ys left there
  drew-as n start xs ys left here there e f so_far = rw (e, f) so_far

  -- Of n draws from a start, i were made; the remaining draws continue from here.

  pub drew-none : (n : ℕ) (start : S) → Drew n start [] (n - 0) start
  drew-none n start =
      let all : n - 0 ≡ n = omega arith in
      rw all (record { drawn = after_nothing (draws d n start); reached = refl; refused = λ e t h. h })

  pub drew-one_more : (n : ℕ) (start : S) (xs : List T) (i : ℕ) (here : S) (x : T) → i < n → d.sampled here ≡ Some x
      → Drew n start xs (n - i) here → Drew n start (xs ++ x ∷ []) (n - (i + 1)) (d.after here)
  drew-one_more n start xs i here x h e so_far =
      let left : n - i ≡ suc (n - (i + 1)) = omega arith in next e (rw left at so_far)

  none_left : {n i : ℕ} {start here : S} {xs : List T} → n ≤ i → Drew n start xs (n - i) here → Drew n start xs 0 here
  none_left {n} {i} h so_far = let none : n - i ≡ 0 = omega arith in rw none at so_far

  pub drew-values : (n : ℕ) (start : S) (xs : List T) (i : ℕ) (here : S) → n ≤ i → Drew n start xs (n - i) here
      → draws d n start ≡ Some xs
  unfolding draws
  drew-values n start xs i here h so_far = (none_left h so_far).drawn ∙ ap Some (append-nil xs)

  pub drew-state : (n : ℕ) (start : S) (xs : List T) (i : ℕ) (here : S) → n ≤ i → Drew n start xs (n - i) here
      → here ≡ after_draws d n start
  unfolding after_draws
  drew-state n start xs i here h so_far = sym (none_left h so_far).reached

  pub drew-stops : (n : ℕ) (start : S) (xs : List T) (i : ℕ) (here : S) → i < n → Drew n start xs (n - i) here
      → (e : ChallengerError) (t : S) → RefusesDraw d e here t → RefusesDraws d n e start t
  unfolding RefusesDraws
  drew-stops n start xs i here h so_far e t refuses =
      let left : n - i ≡ suc (n - (i + 1)) = omega arith in (rw left at so_far).refused e t (inl refuses)
