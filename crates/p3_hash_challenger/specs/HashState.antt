-- A hash challenger as contracts see it.
use Rattle.std.specs.Prelude.{◌≡◌, ℕ, ◌<◌, ◌≤◌, List, [], ◌∷◌, length, map, Option, Some, None, IfSome}
use Rattle.std.specs.{Option.ForNone, List.flat_map}
use Rattle.p3_challenger_core.specs.Segments.{Call, observe, observe_empty_array, Run, run_calls, run_calls_to_digest}
use Rattle.p3_challenger_core.specs.Observation.{Observation, LeavesBeginning}
use Rattle.p3_hash_challenger.specs.HashCalls.{HashFunction, HashSponge, HashRun, hash_by_calls}
use Rattle.p3_hash_challenger.specs.HashCalls as calls

-- the bound on a challenger's outputs: its digest has out_len places, and no more outputs are left than that
pub record KeepsOutputs {T : Type 0} (out_len : ℕ) (digest : Option (List T)) (outputs_left : ℕ) : Type 0 where
  pub positive : 0 < out_len
  pub left : outputs_left ≤ out_len
  pub none_left : ForNone digest (outputs_left ≡ 0)
  pub whole : IfSome digest (λ places. length places ≡ out_len)

-- the pending values: the digest of the last flush, or the buffer
abbrev pub pending_of : {T : Type 0} → Option (List T) → List T → List T
pending_of None buffer = buffer
pending_of (Some digest) buffer = digest

-- the state that calls change, and the hasher, which never changes
pub record HashState (T H : Type 0) : Type 0 where
  pub sponge : HashSponge T
  pub hasher : H

abbrev pub fed : {T H : Type 0} → HashState T H → List T → HashState T H
fed s xs = record s { sponge = calls.fed s.sponge xs }

abbrev pub observed : {T H : Type 0} → HashState T H → T → HashState T H
observed s x = record s { sponge = calls.observed s.sponge x }

abbrev pub array_observed : {T H : Type 0} → HashState T H → List T → HashState T H
array_observed s xs = record s { sponge = calls.array_observed s.sponge xs }

-- the state after a refused part: the parts before it were fed
abbrev pub LeavesParts : {T H X : Type 0} → (X → List T) → HashState T H → List X → HashState T H → Type 0
LeavesParts items s parts t = LeavesBeginning (λ u part. fed u (items part)) s parts t

-- ---- observations of a value, an array, and a value fed as one list; a refused one changes nothing

abbrev pub observation_of_value : {T H : Type 0} → Observation (HashState T H) T T
observation_of_value = record { symbols = λ x. x ∷ []; observed = observed; may_leave = λ s _ t. t ≡ s }

abbrev pub observation_of_array : {T H : Type 0} → Observation (HashState T H) T (List T)
observation_of_array = record { symbols = λ xs. xs; observed = array_observed; may_leave = λ s _ t. t ≡ s }

abbrev pub observation_of_list : {T H X : Type 0} → (X → List T) → Observation (HashState T H) T X
observation_of_list values = record { symbols = values; observed = λ s x. fed s (values x); may_leave = λ s _ t. t ≡ s }

-- a value whose parts are fed one after another; a refused value has fed the parts before the refused one
abbrev pub observation_of_parts : {T H X U : Type 0} → (X → List U) → (U → List T) → Observation (HashState T H) T X
observation_of_parts parts items = record {
  symbols = λ x. flat_map items (parts x);
  observed = λ s x. fed s (flat_map items (parts x));
  may_leave = λ s x t. LeavesParts items s (parts x) t;
}

-- ---- given the function of each hasher

-- the hash function of a hasher
abbrev pub function_of : {T H : Type 0} → (H → List T → List T) → ℕ → T → H → HashFunction T
function_of hash out_len filler hasher = record { digest = hash hasher; out_len = out_len; filler = filler }

-- the result of a draw
abbrev pub sampled : {T H : Type 0} → (H → HashFunction T) → HashState T H → T
sampled function s = calls.sampled (function s.hasher) s.sponge

abbrev pub after_sampled : {T H : Type 0} → (H → HashFunction T) → HashState T H → HashState T H
after_sampled function s = record s { sponge = calls.after_sampled (function s.hasher) s.sponge }

abbrev pub flushed : {T H : Type 0} → (H → HashFunction T) → HashState T H → HashState T H
flushed function s = record s { sponge = calls.flushed (function s.hasher) s.sponge }

abbrev pub digest : {T H : Type 0} → (H → HashFunction T) → HashState T H → List T
digest function s = calls.digest (function s.hasher) s.sponge

-- the effect of calls from a challenger on
abbrev pub run : {T H : Type 0} → (H → HashFunction T) → HashState T H → List (Call T) → HashRun T
run function s calls = run_calls (hash_by_calls (function s.hasher)) s.sponge calls

-- the effect of calls that end in a digest
abbrev pub run_to_digest : {T H : Type 0} → (H → HashFunction T) → HashState T H → List (Call T) →
    Run T (List T) (List T)
run_to_digest function s calls = run_calls_to_digest (hash_by_calls (function s.hasher)) s.sponge calls

-- the challenger after calls
abbrev pub after_calls : {T H : Type 0} → (H → HashFunction T) → HashState T H → List (Call T) → HashState T H
after_calls function s calls = record s { sponge = (run function s calls).after }

-- the calls of an observed array: one for each of its values, and a call of its own for an empty array
abbrev pub calls_of_array : {T : Type 0} → List T → List (Call T)
calls_of_array [] = observe_empty_array ∷ []
calls_of_array (x ∷ xs) = map observe (x ∷ xs)
