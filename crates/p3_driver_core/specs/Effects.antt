-- The effect of a transcript's step on the challenger.
use Rattle.std.specs.Prelude.{◌≡◌, ℕ, ◌⊎◌, List, [], ◌++◌, length, flat_map, Option, Some, Result, MatchResult}
use Rattle.p3_challenger_core.specs.Sampling.{Sampling, RefusesDraw, RefusesDrawVec, draws, after_draws}
use Rattle.p3_challenger_core.specs.Observation.{Observation, RefusesObserve}
use Rattle.p3_challenger_core.specs.declared.error.ChallengerError.{ChallengerError}
use Rattle.p3_fs_core.specs.{Alphabet.{Alphabet, RefusesBytes, LeavesItems}, BigEndian.count_bytes}
use Rattle.p3_challenger_core.specs.Observation as observation

-- The effect of a step: its symbols, which are not too long for the alphabet, its result, the state after it, and
-- the state that a refusal leaves. The result is missing where a draw meets its limit.
pub record Effect (S Symbol A : Type 0) : Type 1 where
  pub symbols : List Symbol
  pub fits : Type 0
  pub gives : S → Option A
  pub after : S → S
  pub refuses : ChallengerError → S → S → Type 0

-- the effect that feeds these symbols, which fit any alphabet, with this result, state after it, and state after a
-- refusal
abbrev pub fitting : {S Symbol A : Type 0} → List Symbol → (S → Option A) → (S → S) →
    (ChallengerError → S → S → Type 0) → Effect S Symbol A
fitting symbols gives after refuses =
    record { symbols = symbols; fits = Unit {0}; gives = gives; after = after; refuses = refuses }

-- nothing is fed and nothing drawn
abbrev pub untouched : {S Symbol A : Type 0} → A → Effect S Symbol A
untouched x = fitting [] (λ _. Some x) (λ s. s) (λ _ _ _. ⊥)

-- a value is observed
abbrev pub observing : {S Symbol A : Type 0} → Observation S Symbol A → A → Effect S Symbol A
observing o x =
    fitting (o.symbols x) (λ _. Some x) (λ s. o.observed s x) (λ e s t. RefusesObserve (o.may_leave s x) e t)

-- the values of a list are observed one after another
abbrev pub observing_list : {S Symbol A : Type 0} → Observation S Symbol A → List A → Effect S Symbol (List A)
observing_list o xs = observing (observation.in_row o) xs

-- a byte string is observed
abbrev pub observing_bytes : {S Symbol I : Type 0} → Alphabet S Symbol I → List ℕ → Effect S Symbol (List ℕ)
observing_bytes a bytes = record {
  symbols = flat_map a.item.symbols (a.items bytes);
  fits = a.is_too_long (length bytes) → ⊥;
  gives = λ _. Some bytes;
  after = λ s. observation.observed_all a.item.observed s (a.items bytes);
  refuses = λ e s t. RefusesBytes (a.is_too_long (length bytes))
      (LeavesItems a.item a.slice_may_leave s (a.items bytes)) s e t;
}

-- a value is drawn
abbrev pub drawing : {S Symbol A : Type 0} → Sampling S A → Effect S Symbol A
drawing d = fitting [] d.sampled d.after (λ e s t. RefusesDraw d e s t)

-- n values are drawn one after another, after memory for them is allocated
abbrev pub drawing_list : {S Symbol A : Type 0} → Sampling S A → ℕ → Effect S Symbol (List A)
drawing_list d n = fitting [] (draws d n) (after_draws d n) (λ e s t. RefusesDrawVec d n e s t)

-- one effect after another, with the result of the second
abbrev pub in_sequence : {S Symbol A B : Type 0} → Effect S Symbol A → Effect S Symbol B → Effect S Symbol B
in_sequence first second = record {
  symbols = first.symbols ++ second.symbols;
  fits = first.fits × second.fits;
  gives = λ s. second.gives (first.after s);
  after = λ s. second.after (first.after s);
  refuses = λ e s t. first.refuses e s t ⊎ second.refuses e (first.after s) t;
}

-- the count of a list with a greatest length is observed, and then the other effect follows
abbrev pub after_count : {S Symbol I A : Type 0} → Alphabet S Symbol I → ℕ → ℕ → Effect S Symbol A → Effect S Symbol A
after_count alphabet max n effect = in_sequence (observing_bytes alphabet (count_bytes max n)) effect

-- a call has the effect, or an error refuses it
abbrev pub Does : {S Symbol A R : Type 0} → Effect S Symbol A → S → Result R ChallengerError → S → Type 0
Does effect s result t = MatchResult result (λ _. effect.fits × (t ≡ effect.after s)) (λ e. effect.refuses e s t)
