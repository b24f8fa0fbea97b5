-- Draws of uniform bits.
use Rattle.std.specs.Prelude.{◌≡◌, ℕ, ◌+◌, ◌*◌, ◌^◌, ◌%◌, ◌≤◌, ◌⊎◌, Bool, true, false, Option, Some, None, IsSome}
use Rattle.std.specs.{Prelude.{Result, MatchResult, is_some, option_and_then, if◌then◌else◌, nat_lt}, Option.option_map}
use Rattle.p3_field_core.specs.Residues.{Residues}
use Rattle.p3_challenger_core.specs.Sampling.{Sampling, IsSampling, RefusesDraw, made_of, unrefused_draw}
use Rattle.p3_grinding.specs.{Candidates.accepted_within, declared.error.ResamplingError.ResamplingError}
use Rattle.p3_grinding.specs.declared.error.UniformBitsError.{UniformBitsError, TheVariants.{Resampling, Challenger}}

-- a draw of bits, and the rejected value where it is not replaced
pub record UniformDraw (S : Type 0) : Type 1 where
  pub draw : Sampling S ℕ
  pub rejects : S → Option ResamplingError

-- What a draw of uniform bits with this error leaves. Either a value was rejected and is consumed with those before
-- it, or the draw was refused as any other draw.
abbrev pub RefusesUniform : {S : Type 0} → UniformDraw S → UniformBitsError → S → S → Type 0
RefusesUniform u (Resampling error) s t = (u.rejects s ≡ Some error) × (t ≡ u.draw.after s)
RefusesUniform u (Challenger e) s t = RefusesDraw u.draw e s t

-- a call gives uniform bits and leaves the state after them, or is refused and leaves the state of its error
abbrev pub DrawsUniformly : {S : Type 0} → UniformDraw S → S → Result ℕ UniformBitsError → S → Type 0
DrawsUniformly u s result t =
    MatchResult result (λ x. (u.draw.sampled s ≡ Some x) × (t ≡ u.draw.after s)) (λ e. RefusesUniform u e s t)

-- A draw that rejects a value gives nothing and meets no limit, and the value is not below its bound. A draw that
-- replaces rejected values reports no rejection.
pub record IsUniformDraw {S : Type 0} (next : S → S) (resample : Bool) (u : UniformDraw S) : Type 0 where
  pub draws : IsSampling next u.draw
  pub rejected_gives_none : (s : S) → IsSome (u.rejects s) → u.draw.sampled s ≡ None
  pub rejected_or_limit : (s : S) → IsSome (u.rejects s) → ¬ (u.draw.meets_limit s)
  pub resampled : resample ≡ true → (s : S) → u.rejects s ≡ None
  pub above : (s : S) (e : ResamplingError) → u.rejects s ≡ Some e → e.m ≤ e.value

-- a draw that rejects nothing
abbrev pub never_rejects : {S : Type 0} → Sampling S ℕ → UniformDraw S
never_rejects d = record { draw = d; rejects = λ _. None }

-- 0 bits, for which nothing is drawn
abbrev pub no_bits : {S : Type 0} → UniformDraw S
no_bits = never_rejects (unrefused_draw (λ _. Some 0) (λ s. s))

-- ---- bits of one element

-- the element is below the bound
abbrev pub is_below : {F : Type 0} → Residues F → ℕ → F → Bool
is_below r bound x = nat_lt (r.number x) bound

-- the low bits of an element
abbrev pub low_bits : {F : Type 0} → Residues F → ℕ → F → ℕ
low_bits r bits x = r.number x % 2 ^ bits

-- an element that is not below the bound is rejected
abbrev pub rejected : {F : Type 0} → Residues F → ℕ → Option F → Option ResamplingError
rejected r bound None = None
rejected r bound (Some x) = if is_below r bound x then None else Some (record { value = r.number x; m = bound })

-- the bits of the next element, if it is below the bound; a rejected one is not replaced
abbrev pub bits_of_next : {S F : Type 0} → Residues F → Sampling S F → ℕ → ℕ → UniformDraw S
bits_of_next r d bound bits = record {
  draw = record {
    sampled = λ s.
        option_and_then (λ x. if is_below r bound x then Some (low_bits r bits x) else None) (d.sampled s);
    after = d.after;
    meets_limit = d.meets_limit;
    may_leave = d.may_leave;
  };
  rejects = λ s. rejected r bound (d.sampled s);
}

-- the bits of the first element below the bound, among as many as the state allows
abbrev pub bits_of_first : {S F : Type 0} → Residues F → Sampling S F → (S → ℕ) → ℕ → ℕ → UniformDraw S
bits_of_first r d limit bound bits =
    never_rejects (made_of (low_bits r bits) (accepted_within d (is_below r bound) limit))

abbrev pub bits_of_one : {S F : Type 0} → Residues F → Sampling S F → (S → ℕ) → Bool → ℕ → ℕ → UniformDraw S
bits_of_one r d limit true bound bits = bits_of_first r d limit bound bits
bits_of_one r d limit false bound bits = bits_of_next r d bound bits

-- ---- bits in two halves

-- one draw, followed by another for the bits above it
abbrev pub in_halves : {S : Type 0} → ℕ → UniformDraw S → UniformDraw S → UniformDraw S
in_halves low_count low high = record {
  draw = record {
    sampled = λ s. option_and_then
        (λ x. option_map (λ y. x + 2 ^ low_count * y) (high.draw.sampled (low.draw.after s)))
        (low.draw.sampled s);
    after = λ s. if is_some (low.draw.sampled s) then high.draw.after (low.draw.after s) else low.draw.after s;
    meets_limit = λ s. low.draw.meets_limit s
        ⊎ (IsSome (low.draw.sampled s) × high.draw.meets_limit (low.draw.after s));
    may_leave = λ s t. low.draw.may_leave s t
        ⊎ (IsSome (low.draw.sampled s) × high.draw.may_leave (low.draw.after s) t);
  };
  rejects = λ s. if is_some (low.draw.sampled s) then high.rejects (low.draw.after s) else low.rejects s;
}
