-- The first example: one scalar is sent and one is drawn.
use Rattle.std.specs.Prelude.{◌≡◌, ℕ, ◌==◌, List, length, codes, nat_lt, Option, Some, Result, Ok, Err, if◌then◌else◌}
use Rattle.p3_hash_challenger.specs.{HashCalls.HashFunction, HashState.{HashState, observed, sampled, after_sampled}}
use Rattle.p3_fs_core.specs.{Errors.IsBadShape, declared.error.TranscriptError.{TranscriptError, TheVariants.OutOfMemory}}
use Rattle.p3_small_primes.specs.BabyBearResidues.{BabyBear}
use Rattle.first_transcript.specs.Scalar.{width, read}
use Rattle.first_transcript.specs.Scalar as scalar

-- the scalar that is drawn, and the challenger after it
abbrev pub drawn_scalar : {H : Type 0} → (H → HashFunction ℕ) → HashState ℕ H → Option BabyBear
drawn_scalar function s = scalar.sampled (λ u. Some (sampled function u)) (after_sampled function) s

abbrev pub after_scalar : {H : Type 0} → (H → HashFunction ℕ) → HashState ℕ H → HashState ℕ H
after_scalar function s = scalar.after_sampled (λ u. Some (sampled function u)) (after_sampled function) s

-- The run of a scalar from a challenger: the scalar's bytes are observed, and the challenge is drawn,
-- which leaves this challenger.
pub record IsRun {H : Type 0} (function : H → HashFunction ℕ) (start : HashState ℕ H)
    (value challenge : BabyBear) (after : HashState ℕ H) : Type 0 where
  pub drawn : drawn_scalar function (scalar.observed observed start value) ≡ Some challenge
  pub left : after ≡ after_scalar function (scalar.observed observed start value)

-- the reason where bytes are not exactly the encoding of a scalar
abbrev pub too_short : List ℕ
too_short = codes "NARG ended before all expected bytes were read"

abbrev pub trailing_bytes : List ℕ
trailing_bytes = codes "trailing NARG bytes after final verifier step"

-- the scalar whose encoding the bytes are, or the reason why there is none
abbrev pub nothing_after : Result (BabyBear × List ℕ) (List ℕ) → Result BabyBear (List ℕ)
nothing_after (Ok found) = if length found.1 == 0 then Ok found.0 else Err trailing_bytes
nothing_after (Err reason) = Err reason

abbrev pub read_whole : List ℕ → Result BabyBear (List ℕ)
read_whole narg = if nat_lt (length narg) width then Err too_short else nothing_after (read narg)

-- The result of a verifier for a proof. It accepts exactly the encoding of a scalar, with that scalar's
-- run, and else returns the reason. Out of memory comes only in place of an acceptance.
abbrev pub Verifies : {R : Type 0} → Result BabyBear (List ℕ) → (BabyBear → R → Type 0) → Result R TranscriptError
    → Type 0
Verifies (Ok value) Accepts (Ok found) = Accepts value found
Verifies (Ok value) Accepts (Err e) = e ≡ OutOfMemory
Verifies (Err reason) Accepts (Ok found) = ⊥
Verifies (Err reason) Accepts (Err e) = IsBadShape reason e
