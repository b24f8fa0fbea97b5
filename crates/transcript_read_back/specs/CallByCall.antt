-- A challenger call by call, with its whole state.
use Rattle.std.specs.Prelude.{◌≡◌, ℕ, ◌-◌, List, [], ◌++◌, length, map, replicate, slice_get}
use Rattle.p3_challenger.specs.{Sponge.after_steps, Segments.{Call, observe, draw, Run}, DuplexState.DuplexState}
use Rattle.p3_challenger.specs.{HashCalls.HashFunction, HashState.HashState}
use Rattle.p3_field.specs.Residues.{Residues}
use Rattle.p3_challenger.specs.DuplexState as duplex
use Rattle.p3_challenger.specs.HashState as hash

-- A challenger of states S and symbols T: what calls from a state on answer and query, and the
-- state that they leave.
module _ {S T M : Type 0} (run : S → List (Call T) → Run T M S) where
  -- the state that calls leave
  abbrev pub after_calls : S → List (Call T) → S
  after_calls s calls = (run s calls).after

  -- Symbols that are fed are observed one after another, the smallest draws in a row are draws, and
  -- calls are made one after another.
  pub record IsCallByCall (fed : S → List T → S) (next : S → S) : Type 0 where
    pub fed_is : (s : S) (symbols : List T) → fed s symbols ≡ after_calls s (map observe symbols)
    pub drawn_is : (n : ℕ) (s : S) → after_steps next n s ≡ after_calls s (replicate n draw)
    pub none : (s : S) → after_calls s [] ≡ s
    pub more : (s : S) (calls others : List (Call T)) →
        after_calls s (calls ++ others) ≡ after_calls (after_calls s calls) others

-- a duplex challenger, whose permutation each of its permutations is
abbrev pub duplex_run : {F P : Type 0} → Residues F → (P → List F → List F) → ℕ → DuplexState F P → List (Call F) →
    Run F (List F) (DuplexState F P)
duplex_run r permute rate c calls =
    let run = duplex.run r permute rate c calls in
    record { answers = run.answers; queries = run.queries; after = duplex.after_calls r permute rate c calls }

abbrev pub duplex_pending : {F P : Type 0} → DuplexState F P → List F
duplex_pending c = c.sponge.pending

-- a hash challenger, whose hash function each of its hashers is
abbrev pub hash_run : {T H : Type 0} → (H → HashFunction T) → HashState T H → List (Call T) →
    Run T (List T) (HashState T H)
hash_run function s calls =
    let run = hash.run function s calls in
    record { answers = run.answers; queries = run.queries; after = hash.after_calls function s calls }

abbrev pub hash_pending : {T H : Type 0} → HashState T H → List T
hash_pending s = s.sponge.pending

-- two lists end in the same, or neither has an element
abbrev pub EndInSame : {M : Type 0} → List M → List M → Type 0
EndInSame ms ns = slice_get ms (length ms - 1) ≡ slice_get ns (length ns - 1)
