-- The effect of observing a value on a challenger.
use Rattle.std.specs.{Prelude.{◌≡◌, ℕ, List, [], ◌∷◌, ◌++◌, ◌⊎◌, ◌↔◌, take, Result, MatchResult}, List.flat_map}
use Rattle.p3_challenger_core.specs.{Sponge.IsFed, declared.error.ChallengerError.ChallengerError}
use Rattle.p3_challenger_core.specs.declared.error.ChallengerError.TheVariants.{OutOfMemory}

-- the symbols of a value, the state after it, and the states that a refusal may leave
pub record Observation (S Symbol T : Type 0) : Type 1 where
  pub symbols : T → List Symbol
  pub observed : S → T → S
  pub may_leave : S → T → S → Type 0

-- the state that a refused value may leave: a prefix of its symbols was fed
abbrev pub LeavesFed : {S Symbol : Type 0} → (S → List Symbol → S) → S → List Symbol → S → Type 0
LeavesFed fed s symbols t = (n : ℕ) × IsFed fed s (take n symbols) t

-- the state that a refused value may leave, exactly, where other symbols were fed before
abbrev pub LeavesAfter : {S Symbol : Type 0} → (S → List Symbol → S) → S → List Symbol → List Symbol → S → Type 0
LeavesAfter fed s before symbols t = (n : ℕ) × (t ≡ fed s (before ++ take n symbols))

-- An observation feeds the value's symbols, and a refused value has fed a prefix of them. After a symbol there are no
-- outputs that could be dropped, so there both hold exactly.
pub record IsObservation {S Symbol T : Type 0} (fed : S → List Symbol → S) (o : Observation S Symbol T) : Type 0 where
  pub observes : (s : S) (x : T) → IsFed fed s (o.symbols x) (o.observed s x)
  pub observes_after : (s : S) (y : Symbol) (ys : List Symbol) (x : T) →
      o.observed (fed s (y ∷ ys)) x ≡ fed s ((y ∷ ys) ++ o.symbols x)
  pub leaves : (s : S) (x : T) (t : S) → o.may_leave s x t → LeavesFed fed s (o.symbols x) t
  pub leaves_after : (s : S) (y : Symbol) (ys : List Symbol) (x : T) (t : S) → o.may_leave (fed s (y ∷ ys)) x t →
      LeavesAfter fed s (y ∷ ys) (o.symbols x) t

-- an observation that is never refused
abbrev pub unrefused_observe : {S Symbol T : Type 0} → (T → List Symbol) → (S → T → S) → Observation S Symbol T
unrefused_observe symbols observed = record { symbols = symbols; observed = observed; may_leave = λ _ _ _. ⊥ }

-- ---- values in a row

-- the state after values are observed in order
abbrev pub observed_all : {S T : Type 0} → (S → T → S) → S → List T → S
observed_all observed s [] = s
observed_all observed s (x ∷ xs) = observed_all observed (observed s x) xs

-- the state that one refused call of several leaves: the calls before it are done, and the refused one leaves what it
-- may
abbrev pub LeavesInCalls : {S T : Type 0} → (S → T → S) → (S → T → S → Type 0) → S → List T → S → Type 0
LeavesInCalls step MayLeave s [] t = ⊥
LeavesInCalls step MayLeave s (x ∷ xs) t = MayLeave s x t ⊎ LeavesInCalls step MayLeave (step s x) xs t

-- the state that one refused value leaves: those before it were observed, and nothing of it
abbrev pub LeavesBeginning : {S T : Type 0} → (S → T → S) → S → List T → S → Type 0
LeavesBeginning observed s xs t = LeavesInCalls observed (λ u _ v. v ≡ u) s xs t

-- what an observation with this error leaves; the only error is out of memory
abbrev pub RefusesObserve : {S : Type 0} → (S → Type 0) → ChallengerError → S → Type 0
RefusesObserve MayLeave OutOfMemory t = MayLeave t
RefusesObserve MayLeave _ t = ⊥

-- what an observation of this value leaves with this error
abbrev pub RefusesValue : {S Symbol T : Type 0} → Observation S Symbol T → T → ChallengerError → S → S → Type 0
RefusesValue o x e s t = RefusesObserve (o.may_leave s x) e t

-- a call observes a value, or is refused and leaves the state of its error
abbrev pub ObservesOrRefuses : {S Symbol T : Type 0} → Observation S Symbol T → T → S →
    Result (Unit {0}) ChallengerError → S → Type 0
ObservesOrRefuses o x s result t = MatchResult result (λ _. t ≡ o.observed s x) (λ e. RefusesValue o x e s t)

-- the values of a list, observed one after another, as one observation
abbrev pub in_row : {S Symbol T : Type 0} → Observation S Symbol T → Observation S Symbol (List T)
in_row o = record {
  symbols = flat_map o.symbols;
  observed = observed_all o.observed;
  may_leave = LeavesInCalls o.observed o.may_leave;
}

-- a value observed as another value
abbrev pub observed_as : {S Symbol T U : Type 0} → (U → T) → Observation S Symbol T → Observation S Symbol U
observed_as f o = record {
  symbols = λ x. o.symbols (f x);
  observed = λ s x. o.observed s (f x);
  may_leave = λ s x t. o.may_leave s (f x) t;
}

-- the values of a list, observed as one slice
abbrev pub in_slice : {S Symbol T : Type 0} → Observation S Symbol T → (S → List T → S → Type 0) →
    Observation S Symbol (List T)
in_slice o slice_may_leave =
    record { symbols = flat_map o.symbols; observed = observed_all o.observed; may_leave = slice_may_leave }

-- the values of a list, observed one after another, each as another value
abbrev pub each_as : {S Symbol T U : Type 0} → (U → T) → Observation S Symbol T → Observation S Symbol (List U)
each_as f o = in_row (observed_as f o)

-- the effect of a value on each state is that of this step on a function of the value
abbrev pub ActsAs : {S T V : Type 0} → (S → T → S) → (S → V → S) → (T → V) → Type 0
ActsAs {S} {T} act step made = (s : S) (x : T) → act s x ≡ step s (made x)

-- A value is observed as another one that it stands for. It feeds the same symbols, leads to the same state, and may
-- leave the same states where it is refused.
pub record ObservesSame {S Symbol T U : Type 0} (o : Observation S Symbol U) (f : U → T) (p : Observation S Symbol T)
    : Type 0 where
  pub symbols : (x : U) → o.symbols x ≡ p.symbols (f x)
  pub observed : ActsAs o.observed p.observed f
  pub left : (s : S) (x : U) (t : S) → o.may_leave s x t ↔ p.may_leave s (f x) t
