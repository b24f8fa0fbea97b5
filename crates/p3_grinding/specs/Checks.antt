-- Proof of work: the check of a witness, the state after it, and the least witness that passes.
use Rattle.std.specs.Prelude.{◌≡◌, ℕ, zero, suc, ◌==◌, ◌<◌, ◌⊎◌, Bool, true, false, List, Option, Some, None, IsSome}
use Rattle.std.specs.{Prelude.{Result, MatchResult, is_some, option_and_then, if◌then◌else◌}, Option.option_map}
use Rattle.p3_field_core.specs.Residues.{Residues}
use Rattle.p3_challenger_core.specs.{Observation.Observation, Sampling.{Sampling, unrefused_draw, made_of}}
use Rattle.p3_challenger_core.specs.declared.error.ChallengerError.{ChallengerError}
use Rattle.p3_challenger_core.specs.declared.error.ChallengerError.TheVariants.{OutOfMemory, NoWitness}
use Rattle.p3_grinding.specs.UniformDraws.{UniformDraw}

-- ---- a check

-- the drawn bits are all 0
abbrev pub all_zero : {S : Type 0} → Sampling S ℕ → Sampling S Bool
all_zero d = made_of (λ n. n == 0) d

-- the drawn uniform bits are all 0, and no value was rejected
abbrev pub zero_and_uniform : {S : Type 0} → UniformDraw S → Sampling S Bool
zero_and_uniform u = record {
  sampled = λ s. if is_some (u.rejects s) then Some false else option_map (λ n. n == 0) (u.draw.sampled s);
  after = u.draw.after;
  meets_limit = u.draw.meets_limit;
  may_leave = u.draw.may_leave;
}

-- nothing is drawn before the witness
abbrev pub draws_nothing : {S : Type 0} → Sampling S (Unit {0})
draws_nothing = unrefused_draw (λ _. Some tt) (λ s. s)

-- The result of a witness's check, which is missing where a draw meets its limit, and the state after it. The check
-- makes the draws before the witness, observes the witness, and tests the draw after it.
abbrev pub checked : {S Symbol W : Type 0} → Sampling S (Unit {0}) → Observation S Symbol W → Sampling S Bool → W →
    Sampling S Bool
checked before o test witness =
    let ready = before.after in
    record {
      sampled = λ s. option_and_then (λ _. test.sampled (o.observed (ready s) witness)) (before.sampled s);
      after = λ s. if is_some (before.sampled s) then test.after (o.observed (ready s) witness) else ready s;
      meets_limit = λ s. before.meets_limit s
          ⊎ (IsSome (before.sampled s) × test.meets_limit (o.observed (ready s) witness));
      may_leave = λ s t. before.may_leave s t ⊎ (IsSome (before.sampled s)
          × (o.may_leave (ready s) witness t ⊎ test.may_leave (o.observed (ready s) witness) t));
    }

-- with 0 bits each witness passes, and nothing changes
abbrev pub passed : {S : Type 0} → Sampling S Bool
passed = unrefused_draw (λ _. Some true) (λ s. s)

-- a check by a number of bits
abbrev pub check_of : {S Symbol W : Type 0} → Sampling S (Unit {0}) → Observation S Symbol W → Sampling S Bool → ℕ → W →
    Sampling S Bool
check_of before o test zero witness = passed
check_of before o test (suc more) witness = checked before o test witness

module _ {S Symbol W : Type 0} (o : Observation S Symbol W) where
  -- a check by a number of bits, given the draw of bits
  abbrev pub bits_check : Sampling S (Unit {0}) → (ℕ → Sampling S ℕ) → ℕ → W → Sampling S Bool
  bits_check before sampling bits = check_of before o (all_zero (sampling bits)) bits

  -- a check of at least one bit, after the draws before the witness are done
  abbrev pub ready_check : (ℕ → Sampling S ℕ) → ℕ → W → Sampling S Bool
  ready_check sampling bits = checked draws_nothing o (all_zero (sampling bits))

  -- both kinds of checks with uniform bits, where a rejected value is replaced by another draw or not
  abbrev pub uniform_check : Sampling S (Unit {0}) → (Bool → ℕ → UniformDraw S) → Bool → ℕ → W → Sampling S Bool
  uniform_check before uniform resample bits = check_of before o (zero_and_uniform (uniform resample bits)) bits

  abbrev pub ready_uniform_check : (Bool → ℕ → UniformDraw S) → Bool → ℕ → W → Sampling S Bool
  ready_uniform_check uniform resample bits = checked draws_nothing o (zero_and_uniform (uniform resample bits))

-- A check of a candidate of bytes: the bytes are observed as one slice, and the bytes drawn after them are tested.
abbrev pub byte_check : {S Symbol : Type 0} → Observation S Symbol (List ℕ) → Sampling S (List ℕ) → (ℕ → List ℕ) →
    (List ℕ → Bool) → ℕ → Sampling S Bool
byte_check o d encoded accepted n = checked draws_nothing o (made_of accepted d) (encoded n)

-- ---- a search

-- the candidate at this place passes its check
abbrev pub PassesAt : {S : Type 0} → (ℕ → Sampling S Bool) → S → ℕ → Type 0
PassesAt check s n = (check n).sampled s ≡ Some true

-- the first of n candidates that passes
pub record IsFirst {S : Type 0} (check : ℕ → Sampling S Bool) (s : S) (count n : ℕ) : Type 0 where
  pub below : n < count
  pub passes : PassesAt check s n
  pub first : (k : ℕ) → k < n → ¬ (PassesAt check s k)

-- none of n candidates passes
abbrev pub NoneOf : {S : Type 0} → (ℕ → Sampling S Bool) → S → ℕ → Type 0
NoneOf check s count = (n : ℕ) → n < count → ¬ (PassesAt check s n)

-- the result of a search for a candidate: the first one that passes, or none
abbrev pub Finds : {S : Type 0} → (ℕ → Sampling S Bool) → S → ℕ → Option ℕ → Type 0
Finds check s count None = NoneOf check s count
Finds check s count (Some n) = IsFirst check s count n

-- a check accepts the witness with this number
abbrev pub Passes : {S W : Type 0} → Residues W → (W → Sampling S Bool) → S → ℕ → Type 0
Passes r check s n = (check (r.of n)).sampled s ≡ Some true

-- the passing witness with the least number
pub record IsLeast {S W : Type 0} (r : Residues W) (check : W → Sampling S Bool) (s : S) (witness : W) : Type 0 where
  pub passes : (check witness).sampled s ≡ Some true
  pub least : (n : ℕ) → n < r.number witness → ¬ (Passes r check s n)

-- no witness passes
abbrev pub NonePasses : {S W : Type 0} → Residues W → (W → Sampling S Bool) → S → Type 0
NonePasses r check s = (n : ℕ) → n < r.order → ¬ (Passes r check s n)

-- a search for a witness may run out of memory where a copy or a check may
abbrev pub MayRunOut : {S W : Type 0} → Type 0 → (W → Sampling S Bool) → S → Type 0
MayRunOut {S} {W} copies_may_fail check s = copies_may_fail ⊎ ((witness : W) × (t : S) × (check witness).may_leave s t)

-- what a search with this error leaves: the challenger as it was, with no witness or with memory refused
abbrev pub RefusesSearch : {S W : Type 0} → Residues W → (S → Type 0) → (W → Sampling S Bool) → ChallengerError → S →
    S → Type 0
RefusesSearch r may_run_out check OutOfMemory s t = may_run_out s × (t ≡ s)
RefusesSearch r may_run_out check NoWitness s t = NonePasses r check s × (t ≡ s)
RefusesSearch r may_run_out check _ s t = ⊥

-- what a search by trials on copies of the challenger leaves with this error
abbrev pub RefusesTrials : {S W : Type 0} → Residues W → Type 0 → (W → Sampling S Bool) → ChallengerError → S → S → Type 0
RefusesTrials r copies_may_fail check = RefusesSearch r (MayRunOut copies_may_fail check) check

-- a search finds the least witness that passes and leaves the state after its check, or is refused
abbrev pub FindsOrRefuses : {S W : Type 0} → Residues W → (S → Type 0) → (W → Sampling S Bool) → S →
    Result W ChallengerError → S → Type 0
FindsOrRefuses r may_run_out check s result t =
    MatchResult result (λ witness. IsLeast r check s witness × (t ≡ (check witness).after s))
    (λ e. RefusesSearch r may_run_out check e s t)

-- a search by trials on copies of the challenger finds the least witness that passes, or is refused
abbrev pub TriesOrRefuses : {S W : Type 0} → Residues W → Type 0 → (W → Sampling S Bool) → S →
    Result W ChallengerError → S → Type 0
TriesOrRefuses r copies_may_fail check = FindsOrRefuses r (MayRunOut copies_may_fail check) check

-- why no copy of a challenger is made ready for witnesses: memory was refused, or a draw before the witness meets a
-- limit
abbrev pub RefusesReady : {S : Type 0} → Type 0 → Sampling S (Unit {0}) → ChallengerError → S → Type 0
RefusesReady {S} copies_may_fail before OutOfMemory s = copies_may_fail ⊎ ((t : S) × before.may_leave s t)
RefusesReady copies_may_fail before NoWitness s = before.sampled s ≡ None
RefusesReady copies_may_fail before _ s = ⊥
