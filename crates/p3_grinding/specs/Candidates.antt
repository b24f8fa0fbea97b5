-- Drawing candidates until one is accepted, with a limit on their number.
use Rattle.std.specs.Prelude.{◌≡◌, ◌↔◌, ◌<◌, ℕ, zero, suc, Bool, false, ◌⊎◌, Option, Some, None, option_and_then}
use Rattle.std.specs.Prelude.{if◌then◌else◌}
use Rattle.p3_challenger_core.specs.{Sampling.Sampling, Sponge.after_steps}

-- the state after a rejected candidate is the state after the candidates that follow it
abbrev pub after_refused : {S T : Type 0} → (T → Bool) → (S → S) → Option T → S → S
after_refused accepts more None t = t
after_refused accepts more (Some x) t = if accepts x then t else more t

module _ {S T : Type 0} (d : Sampling S T) (accepts : T → Bool) where
  -- the first accepted candidate within the limit; none if each is rejected, or if a draw meets its own limit
  unfoldable pub first_accepted : ℕ → S → Option T
  first_accepted zero s = None
  first_accepted (suc more) s =
      option_and_then (λ x. if accepts x then Some x else first_accepted more (d.after s)) (d.sampled s)

  -- the state after the accepted candidate; if there is none, after all of them, or after the draw that meets its own
  -- limit
  unfoldable pub after_first_accepted : ℕ → S → S
  after_first_accepted zero s = s
  after_first_accepted (suc more) s = after_refused accepts (after_first_accepted more) (d.sampled s) (d.after s)

  -- each candidate within the limit is rejected, or a draw meets its own limit after rejected candidates
  unfoldable pub MeetsLimit : ℕ → S → Type 0
  MeetsLimit zero s = Unit {0}
  MeetsLimit (suc more) s =
      d.meets_limit s ⊎ ((x : T) × (d.sampled s ≡ Some x) × (accepts x ≡ false) × MeetsLimit more (d.after s))

  -- memory is refused in a draw after rejected candidates
  unfoldable pub MayLeave : ℕ → S → S → Type 0
  MayLeave zero s t = ⊥
  MayLeave (suc more) s t =
      d.may_leave s t ⊎ ((x : T) × (d.sampled s ≡ Some x) × (accepts x ≡ false) × MayLeave more (d.after s) t)

  -- a draw of the first accepted candidate within the limit
  abbrev pub accepted_of : ℕ → Sampling S T
  accepted_of limit = record {
    sampled = first_accepted limit;
    after = after_first_accepted limit;
    meets_limit = MeetsLimit limit;
    may_leave = MayLeave limit;
  }

  -- a draw of the first accepted candidate, where the state limits their number
  abbrev pub accepted_within : (S → ℕ) → Sampling S T
  accepted_within limit = record {
    sampled = λ s. first_accepted (limit s) s;
    after = λ s. after_first_accepted (limit s) s;
    meets_limit = λ s. MeetsLimit (limit s) s;
    may_leave = λ s t. MayLeave (limit s) s t;
  }

  -- each candidate within the limit, drawn one after another, is rejected
  abbrev pub EachRefused : ℕ → S → Type 0
  EachRefused count s =
      (k : ℕ) → k < count → (x : T) × (d.sampled (after_steps d.after k s) ≡ Some x) × (accepts x ≡ false)

-- A draw has no result exactly where it draws as many candidates as the limit allows and rejects each. There, and
-- nowhere else, it meets its limit, and it leaves the state after just those draws.
pub record MeetsLimitExactly {S T U : Type 0} (d : Sampling S T) (accepts : T → Bool) (limit : S → ℕ)
    (draw : Sampling S U) : Type 0 where
  pub gives_none : (s : S) → (draw.sampled s ≡ None ↔ EachRefused d accepts (limit s) s)
  pub meets : (s : S) → (draw.meets_limit s ↔ EachRefused d accepts (limit s) s)
  pub consumed : (s : S) → EachRefused d accepts (limit s) s → draw.after s ≡ after_steps d.after (limit s) s
