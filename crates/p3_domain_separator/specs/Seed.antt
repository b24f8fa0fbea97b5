-- The seed, which binds a transcript to a protocol, its pattern and the instance.
use Rattle.std.specs.Prelude.{◌≡◌, ℕ, ◌-◌, ◌<◌, ◌≤◌, ◌^◌, ◌⊎◌, List, [], ◌∷◌, ◌++◌, length, replicate, flat_map}
use Rattle.p3_fs_core.specs.{declared.error.TranscriptError.TranscriptError, BigEndian.in_bytes}
use Rattle.p3_fs_core.specs.declared.error.TranscriptError.TheVariants.{Challenger, LabelTooLong, OutOfMemory}
use Rattle.p3_patterns.specs.{declared.sequence.InteractionPattern.InteractionPattern, PatternSteps.steps_of}
use Rattle.p3_patterns.specs.Rendering.{hashed_text}
use Rattle.p3_challenger_core.specs.declared.error.ChallengerError.TheVariants as challenger

-- a protocol's identifier, 64 bytes: version, name, zeros, and in the last byte the length of the name
abbrev pub identifier : ℕ → List ℕ → List ℕ
identifier version name = version ∷ (name ++ (replicate (62 - length name) 0 ++ (length name ∷ [])))

-- a byte string after its length in four bytes, highest first
abbrev pub counted : List ℕ → List ℕ
counted bytes = in_bytes 4 (length bytes) ++ bytes

-- the label of an instance: its chunks, each after its length
abbrev pub label_of : List (List ℕ) → List ℕ
label_of chunks = flat_map counted chunks

-- the length of a byte string fits in four bytes
abbrev pub FitsCount : List ℕ → Type 0
FitsCount bytes = length bytes < 2 ^ 32

-- a refused chunk would make a label of this length: the length does not fit in four bytes, or it does and
-- memory was refused
abbrev pub RefusesChunk : ℕ → TranscriptError → Type 0
RefusesChunk len LabelTooLong = 2 ^ 32 ≤ len
RefusesChunk len OutOfMemory = len < 2 ^ 32
RefusesChunk len _ = ⊥

-- ---- the seed of a separator

-- the parts of a seed
pub record SeedParts : Type 0 where
  pub protocol_id : List ℕ
  pub digest : List ℕ
  pub label : List ℕ

-- an identifier has 64 bytes, a digest 32, and a label's length fits in four bytes
abbrev pub AreSeedParts : SeedParts → Type 0
AreSeedParts parts = (length parts.protocol_id ≡ 64) × (length parts.digest ≡ 32) × FitsCount parts.label

-- the seed: the identifier, the digest of the pattern, the label after its length, and a last byte
abbrev pub seed_of_parts : SeedParts → List ℕ
seed_of_parts parts = parts.protocol_id ++ (parts.digest ++ (counted parts.label ++ (0x80 ∷ [])))

-- the parts of the seed for a protocol's identifier and pattern and an instance's label
abbrev pub parts_of : (List ℕ → List ℕ) → List ℕ → InteractionPattern → List ℕ → SeedParts
parts_of digest_of protocol_id pattern label =
    record { protocol_id = protocol_id; digest = digest_of (hashed_text (steps_of pattern)); label = label }

-- The state after a refused seed. Memory for its bytes was refused, or the seed was too long for the
-- alphabet, and nothing of it was observed. Or memory was refused while it was observed.
abbrev pub RefusesSeed : {S : Type 0} → Type 0 → (S → Type 0) → S → TranscriptError → S → Type 0
RefusesSeed IsTooLong MayLeave before OutOfMemory after = (after ≡ before) ⊎ ((IsTooLong → ⊥) × MayLeave after)
RefusesSeed IsTooLong MayLeave before (Challenger challenger.TooLong) after = IsTooLong × (after ≡ before)
RefusesSeed IsTooLong MayLeave before _ after = ⊥
