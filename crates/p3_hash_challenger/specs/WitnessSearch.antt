-- A search for a witness by batches of messages.
use Rattle.std.specs.Prelude.{◌≡◌, ℕ, ◌+◌, ◌*◌, ◌≤◌, Bool, List, ◌++◌, length, take, reverse, slice_get, slice_range}
use Rattle.std.specs.{Prelude.Some, Option.option_map}
use Rattle.p3_challenger_core.specs.Sponge.{IsNonEmpty}
use Rattle.p3_grinding.specs.Checks.{byte_check}
use Rattle.p3_hash_challenger.specs.HashState.{HashState, function_of, observation_of_value, sampled, after_sampled}
use Rattle.p3_challenger_core.specs.{Observation.in_slice, Sampling.{Sampling, unrefused_draw, in_row}}

-- the first outputs of a digest: its last places, the last of them first
abbrev pub first_outputs : {T : Type 0} → ℕ → List T → List T
first_outputs count digest = take count (reverse digest)

-- message j of a row of messages of one length
abbrev pub message_at : {T : Type 0} → ℕ → ℕ → List T → List T
message_at each j messages = slice_range messages (j * each) (j * each + each)

-- each message of a row begins with the prefix
abbrev pub BeginWith : {T : Type 0} → List T → ℕ → List T → Type 0
BeginWith prefix each messages =
    (j : ℕ) → j * each + each ≤ length messages → slice_range messages (j * each) (j * each + length prefix) ≡ prefix

-- the check of a candidate on a hash challenger
abbrev pub candidate_check : {H : Type 0} → (H → List ℕ → List ℕ) → ℕ → ℕ → ℕ → (ℕ → List ℕ) → (List ℕ → Bool) → ℕ →
    Sampling (HashState ℕ H) Bool
candidate_check hash out_len filler size encoded accepted =
    let function = function_of hash out_len filler in
    byte_check (in_slice observation_of_value (λ s xs t. IsNonEmpty xs × (t ≡ s)))
    (in_row (unrefused_draw (λ s. Some (sampled function s)) (after_sampled function)) size) encoded accepted

-- the check of a batch's digest: whether its first outputs are accepted
abbrev pub digest_check : ℕ → (List ℕ → Bool) → ℕ → Sampling (List (List ℕ)) Bool
digest_check size accepted j = unrefused_draw
    (λ digests. option_map (λ digest. accepted (first_outputs size digest)) (slice_get digests j)) (λ digests. digests)

-- digest j is that of candidate first + j: the digest of the pending values and the candidate's bytes
pub record IsDigestOf (hash : List ℕ → List ℕ) (pending : List ℕ) (encoded : ℕ → List ℕ) (bytes first : ℕ)
    (digests : List (List ℕ)) (j : ℕ) : Type 0 where
  pub is : slice_get digests j ≡ Some (hash (pending ++ encoded (first + j)))
  pub whole : length (encoded (first + j)) ≡ bytes

-- message j consists of the pending values and the bytes of candidate first + j
pub record IsMessageOf (pending : List ℕ) (encoded : ℕ → List ℕ) (bytes first : ℕ) (messages : List ℕ) (j : ℕ)
    : Type 0 where
  pub is : message_at (length pending + bytes) j messages ≡ pending ++ encoded (first + j)
  pub whole : length (encoded (first + j)) ≡ bytes
