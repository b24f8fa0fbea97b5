-- A hash challenger over segments of calls: its draws and its queries to the hash function, as functions of whole
-- segments.
use Rattle.std.specs.Prelude.{ℕ, List, [], ◌∷◌, ◌++◌, slice_index_or}
use Rattle.p3_challenger_core.specs.Segments.{stays, BySegments}
use Rattle.p3_sponge.specs.Outputs.{Outputs}
use Rattle.p3_hash_challenger.specs.HashCalls.{HashFunction, HashSponge, HashRun, with_pending}
use Rattle.p3_sponge.specs.Outputs as outputs

-- ---- what is observed

-- a segment's values are appended to the chain; without values nothing changes, and nothing is hashed
abbrev pub run_values : {T : Type 0} → HashSponge T → List T → HashRun T
run_values start [] = stays start
run_values start (x ∷ xs) = stays (with_pending (start.pending ++ x ∷ xs))

-- ---- what is drawn

-- the outputs of a chain, of its hash, of the hash of that, and so on
abbrev pub outputs_of : {T : Type 0} → HashFunction T → Outputs (List T) T
outputs_of h = record { next = h.digest; row_len = h.out_len; output = λ chain i. slice_index_or chain i h.filler }

-- h(n) of a chain is its hash, hashed again and again, n times in all. The outputs of a chain form one sequence: those
-- of each h(n), from its last place to its first. Draw k of a segment that begins anew is at place out_len + k of that
-- sequence. This is place out_len - 1 - k % out_len of h(1 + k / out_len).
abbrev pub output_at : {T : Type 0} → HashFunction T → List T → ℕ → T
output_at h chain place = outputs.output_at (outputs_of h) chain place

-- a chain is pending, and this many outputs of it are left
abbrev pub holding : {T : Type 0} → List T → ℕ → HashSponge T
holding chain outputs_left = record { pending = chain; outputs_left = outputs_left }

-- draws continue where earlier ones stopped if outputs are left, and else begin anew
abbrev pub run_draws : {T : Type 0} → HashFunction T → HashSponge T → ℕ → HashRun T
run_draws h start n = outputs.run_draws (outputs_of h) holding start.pending start.outputs_left n

-- ---- segments

abbrev pub HashSegments : Type 0 → Type 0
HashSegments T = BySegments T T (List T) (List T) (HashSponge T)

-- The chain of the next segment is what the one before left pending, and no output is left. The digest after the last
-- segment is the hash of the chain that a next one would have.
abbrev pub hash_by_segments : {T : Type 0} → HashFunction T → HashSegments T
hash_by_segments h = record {
  values = run_values;
  draws = run_draws h;
  ended = λ s. with_pending s.pending;
  digest = λ s. record { answers = []; queries = s.pending ∷ []; after = h.digest s.pending };
}
