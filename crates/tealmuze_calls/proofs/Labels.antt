-- The length of an instance's label, by its chunks.
use Rattle.std.proofs.Common.{ℕ, ◌≡◌, ◌+◌, ◌<◌, ◌≤◌, ◌^◌, List, length, length-append, map, take, get_or, refl, ap, arith}
use Rattle.std.proofs.lemmas.List.Folds.{length-flat_map-take}
use Rattle.p3_challenger.specs.Seed.{counted, label_of, RefusesChunk}
use Rattle.p3_challenger.specs.{BigEndian.in_bytes, BigEndianLaws.length-in_bytes}
use Rattle.p3_challenger.specs.TranscriptError.{TranscriptError}
use Rattle.p3_challenger.specs.TranscriptError.TheVariants.{LabelTooLong, OutOfMemory}
use Rattle.tealmuze_calls.proofs.Lemmas.{flat_map_of}

-- a chunk is refused for its length, where memory did not run out
pub refused_long : (len : ℕ) (e : TranscriptError) → (e ≡ OutOfMemory → ⊥) → RefusesChunk len e → 2 ^ 32 ≤ len
refused_long len LabelTooLong other refused = refused
refused_long len OutOfMemory other refused = absurd (other refl)
refused_long len _ other refused = absurd refused

-- a label is no shorter than with its first chunks and the next one
pub label_longer : {A : Type 0} (seen : A → List ℕ) (xs : List A) (i : ℕ) (d : A) → i < length xs →
    length (label_of (map seen (take i xs))) + 4 + length (seen (get_or xs i d)) ≤ length (label_of (map seen xs))
label_longer seen xs i d less =
    let x = get_or xs i d in
    let count = length (seen x) in
    omega (
      arith,
      length-flat_map-take (λ x. counted (seen x)) xs i d less,
      length-append (in_bytes 4 count) (seen x),
      length-in_bytes 4 count,
      ap length (flat_map_of seen counted (take i xs)),
      ap length (flat_map_of seen counted xs),
    )
