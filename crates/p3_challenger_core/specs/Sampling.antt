-- Drawing values from a challenger.
use Rattle.std.specs.Prelude.{◌≡◌, ℕ, zero, suc, List, ◌∷◌, [], ◌⊎◌, Option, Some, None, option_and_then, IsSome}
use Rattle.std.specs.{Prelude.{is_some, if◌then◌else◌, Result, MatchResult, ◌^◌, nat_lt}, Option.option_map}
use Rattle.p3_challenger_core.specs.{Sponge.IsStepsOn, declared.error.ChallengerError.ChallengerError}
use Rattle.p3_challenger_core.specs.declared.error.ChallengerError.TheVariants.{OutOfMemory, DrawLimit}
use Rattle.p3_challenger_core.specs.Observation.{RefusesObserve}

-- A draw: its result, which is missing where it meets the draw limit, and the state after it. It also has the
-- states whose draw meets the limit, and those that a refusal for memory may leave.
pub record Sampling (S T : Type 0) : Type 1 where
  pub sampled : S → Option T
  pub after : S → S
  pub meets_limit : S → Type 0
  pub may_leave : S → S → Type 0

-- a draw that meets the limit gives nothing, and every draw, even a refused one, is a number of smallest draws
pub record IsSampling {S T : Type 0} (next : S → S) (d : Sampling S T) : Type 0 where
  pub limit_gives_none : (s : S) → d.meets_limit s → d.sampled s ≡ None
  pub steps : (s : S) → IsStepsOn next s (d.after s)
  pub leaves : (s t : S) → d.may_leave s t → IsStepsOn next s t

-- a draw that is never refused
abbrev pub unrefused_draw : {S T : Type 0} → (S → Option T) → (S → S) → Sampling S T
unrefused_draw sampled after = record { sampled = sampled; after = after; meets_limit = λ _. ⊥; may_leave = λ _ _. ⊥ }

-- what a draw with this error leaves: memory was refused, or the draw met its limit and its candidates are
-- consumed
abbrev pub RefusesDraw : {S T : Type 0} → Sampling S T → ChallengerError → S → S → Type 0
RefusesDraw d OutOfMemory s t = d.may_leave s t
RefusesDraw d DrawLimit s t = d.meets_limit s × (t ≡ d.after s)
RefusesDraw d _ s t = ⊥

-- a call returns the result of a draw and leaves the state after it, or is refused and leaves the state of its
-- error
abbrev pub DrawsOrRefuses : {S T : Type 0} → Sampling S T → S → Result T ChallengerError → S → Type 0
DrawsOrRefuses d s result t =
    MatchResult result (λ x. (d.sampled s ≡ Some x) × (t ≡ d.after s)) (λ e. RefusesDraw d e s t)

-- ---- draws in a row

-- the values of n draws in a row, in order, or nothing where one of them meets its limit
unfoldable pub draws : {S T : Type 0} → Sampling S T → ℕ → S → Option (List T)
draws d zero s = Some []
draws d (suc n) s = option_and_then (λ x. option_map (λ xs. x ∷ xs) (draws d n (d.after s))) (d.sampled s)

-- the state after n draws in a row, or after the first of them that meets its limit
unfoldable pub after_draws : {S T : Type 0} → Sampling S T → ℕ → S → S
after_draws d zero s = s
after_draws d (suc n) s = if is_some (d.sampled s) then after_draws d n (d.after s) else d.after s

-- P holds of the state before one of n draws in a row, after the earlier draws gave their values
unfoldable pub SomeDraw : {S T : Type 0} → Sampling S T → (S → Type 0) → ℕ → S → Type 0
SomeDraw d P zero s = ⊥
SomeDraw d P (suc n) s = P s ⊎ (IsSome (d.sampled s) × SomeDraw d P n (d.after s))

-- what n draws in a row with this error leave: the draws before the refused one gave their values
unfoldable pub RefusesDraws : {S T : Type 0} → Sampling S T → ℕ → ChallengerError → S → S → Type 0
RefusesDraws d zero e s t = ⊥
RefusesDraws d (suc n) e s t = RefusesDraw d e s t ⊎ (IsSome (d.sampled s) × RefusesDraws d n e (d.after s) t)

-- what n draws with this error leave, where memory for the values is allocated first; a refusal of that changes nothing
abbrev pub RefusesDrawVec : {S T : Type 0} → Sampling S T → ℕ → ChallengerError → S → S → Type 0
RefusesDrawVec d n e s t = RefusesObserve (λ u. u ≡ s) e t ⊎ RefusesDraws d n e s t

-- n draws in a row as one draw of their values
abbrev pub in_row : {S T : Type 0} → Sampling S T → ℕ → Sampling S (List T)
in_row d n = record {
  sampled = draws d n;
  after = after_draws d n;
  meets_limit = SomeDraw d d.meets_limit n;
  may_leave = λ s t. SomeDraw d (λ u. d.may_leave u t) n s;
}

-- a draw of a function of a value
abbrev pub made_of : {S T U : Type 0} → (T → U) → Sampling S T → Sampling S U
made_of f d = record {
  sampled = λ s. option_map f (d.sampled s);
  after = d.after;
  meets_limit = d.meets_limit;
  may_leave = d.may_leave;
}

-- ---- draws of bits

-- the greatest k up to a bound whose power of two is below a number
unfoldable pub greatest_below : ℕ → ℕ → ℕ
greatest_below order zero = 0
greatest_below order (suc k) = if nat_lt (2 ^ suc k) order then suc k else greatest_below order k

-- the greatest number of bits in a draw from a field of this order: below 64, and with its power of two below the
-- order
abbrev pub most_bits_of : ℕ → ℕ
most_bits_of order = greatest_below order 63
