-- A hash challenger call by call.
use Rattle.std.specs.Prelude.{ℕ, ◌==◌, ◌-◌, List, [], ◌∷◌, ◌++◌, take, slice_index_or, if◌then◌else◌}
use Rattle.p3_challenger_core.specs.Segments.{Call, observe, observe_empty_array, draw, Run, stays, ByCalls}

-- A hash function of lists: the digest of a list, the number of places of each digest, and a dummy for a
-- missing place. No draw takes the dummy.
pub record HashFunction (T : Type 0) : Type 0 where
  pub digest : List T → List T
  pub out_len : ℕ
  pub filler : T

-- The state of a hash challenger: the input of the next hash, and how many outputs of the last flush are left.
-- These are the first places of its digest.
pub record HashSponge (T : Type 0) : Type 0 where
  pub pending : List T
  pub outputs_left : ℕ

-- a challenger with these pending values and without outputs
abbrev pub with_pending : {T : Type 0} → List T → HashSponge T
with_pending values = record { pending = values; outputs_left = 0 }

-- feeding a list: it is appended to the pending values, and the outputs are dropped; an empty list changes
-- nothing
abbrev pub fed : {T : Type 0} → HashSponge T → List T → HashSponge T
fed s [] = s
fed s (x ∷ xs) = with_pending (s.pending ++ x ∷ xs)

-- the state after an observed value
abbrev pub observed : {T : Type 0} → HashSponge T → T → HashSponge T
observed s x = fed s (x ∷ [])

-- the state after an observed array: its values are appended to the pending ones, and the outputs are dropped,
-- even by an empty array
abbrev pub array_observed : {T : Type 0} → HashSponge T → List T → HashSponge T
array_observed s xs = with_pending (s.pending ++ xs)

-- the state after a flush: the digest of the pending values is pending, and each of its places is left
abbrev pub flushed : {T : Type 0} → HashFunction T → HashSponge T → HashSponge T
flushed h s = record { pending = h.digest s.pending; outputs_left = h.out_len }

-- the state from which a draw takes its output: a flush precedes it if no output is left
abbrev pub ready : {T : Type 0} → HashFunction T → HashSponge T → HashSponge T
ready h s = if s.outputs_left == 0 then flushed h s else s

-- the outputs left; the last one is drawn next
abbrev pub outputs : {T : Type 0} → HashSponge T → List T
outputs s = take s.outputs_left s.pending

-- the result of a draw: the last output left
abbrev pub last_output : {T : Type 0} → HashFunction T → HashSponge T → T
last_output h s = slice_index_or s.pending (s.outputs_left - 1) h.filler

-- the state without that output
abbrev pub one_taken : {T : Type 0} → HashSponge T → HashSponge T
one_taken s = record s { outputs_left = s.outputs_left - 1 }

abbrev pub sampled : {T : Type 0} → HashFunction T → HashSponge T → T
sampled h s = last_output h (ready h s)

abbrev pub after_sampled : {T : Type 0} → HashFunction T → HashSponge T → HashSponge T
after_sampled h s = one_taken (ready h s)

-- the digest: one more hash of the pending values, whatever outputs are left
abbrev pub digest : {T : Type 0} → HashFunction T → HashSponge T → List T
digest h s = h.digest s.pending

-- ---- the queries to the hash function

-- a draw without outputs queries the pending values
abbrev pub queries_by_draw : {T : Type 0} → HashSponge T → List (List T)
queries_by_draw s = if s.outputs_left == 0 then s.pending ∷ [] else []

-- a digest queries the pending values, whatever outputs are left
abbrev pub queries_by_digest : {T : Type 0} → HashSponge T → List (List T)
queries_by_digest s = s.pending ∷ []

-- ---- what a call does

abbrev pub HashRun : Type 0 → Type 0
HashRun T = Run T (List T) (HashSponge T)

abbrev pub run_call : {T : Type 0} → HashFunction T → HashSponge T → Call T → HashRun T
run_call h s (observe x) = stays (observed s x)
run_call h s observe_empty_array = stays (array_observed s [])
run_call h s draw = record {
  answers = sampled h s ∷ [];
  queries = queries_by_draw s;
  after = after_sampled h s;
}

abbrev pub run_digest : {T : Type 0} → HashFunction T → HashSponge T → Run T (List T) (List T)
run_digest h s = record { answers = []; queries = queries_by_digest s; after = digest h s }

-- a hash challenger call by call
abbrev pub HashCalls : Type 0 → Type 0
HashCalls T = ByCalls T T (List T) (List T) (HashSponge T)

abbrev pub hash_by_calls : {T : Type 0} → HashFunction T → HashCalls T
hash_by_calls h = record { call = run_call h; digest = run_digest h }
