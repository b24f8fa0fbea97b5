-- Worked rows on reading back, computed on the definitions: where two lists of calls observe other values and end
-- alike, a hash function, or a permutation, of no strength has a collision, and it is there.
use Rattle.std.proofs.Common.{◌≡◌, ℕ, List, [], ◌∷◌, ◌++◌, inl, refl, ap, lit≤, arith}
use Rattle.std.specs.List.{range_with_len}
use Rattle.p3_challenger_core.specs.Segments.{Call, observe, observe_empty_array, draw, run_calls}
use Rattle.p3_small_primes.specs.F257Residues.{F257, residues}
use Rattle.p3_read_back.specs.Queries.{observed_values, CollideAtSomePlace}
use Rattle.p3_hash_challenger.specs.HashCalls.{HashRun, with_pending, hash_by_calls}
use Rattle.p3_duplex.specs.DuplexCalls.{DuplexRun, fresh, duplex_by_calls}
use Rattle.p3_test_support.specs.ReadBackWorlds.{by_length, turn, element_of}
use Rattle.p3_hash_challenger.specs.HashReadBack as hash
use Rattle.p3_duplex.specs.DuplexReadBack as duplex

-- ---- a hash function of lengths, with 0, 1, 2, 3 pending at the start

abbrev hashing : List (Call ℕ) → HashRun ℕ
hashing calls = run_calls (hash_by_calls by_length) (with_pending (0 ∷ 1 ∷ 2 ∷ 3 ∷ [])) calls

abbrev observed_and_drawn : ℕ → List (Call ℕ)
observed_and_drawn n = observe n ∷ draw ∷ []

-- after 5 as after 6 a draw gives 36, and the same digest is pending
five_hashed : (hashing (observed_and_drawn 5)).answers ≡ 36 ∷ []
five_hashed = refl

six_hashed : (hashing (observed_and_drawn 6)).answers ≡ 36 ∷ []
six_hashed = refl

same_pending : (hashing (observed_and_drawn 5)).after ≡ (hashing (observed_and_drawn 6)).after
same_pending = refl

-- one string is hashed by each, and the two collide
hashed_strings_collide : CollideAtSomePlace (hash.Collide by_length) (hashing (observed_and_drawn 5)).queries
    (hashing (observed_and_drawn 6)).queries
hashed_strings_collide =
    record {
      place = 0;
      one = 0 ∷ 1 ∷ 2 ∷ 3 ∷ 5 ∷ [];
      other = 0 ∷ 1 ∷ 2 ∷ 3 ∷ 6 ∷ [];
      one_is = refl;
      other_is = refl;
      collision = record { different = λ e. cc; same_digest = refl };
    }

-- an array of no places and a slice of none both observe nothing; the array ends a segment, so that the next draw
-- hashes
abbrev array_between : List (Call ℕ)
array_between = draw ∷ observe_empty_array ∷ draw ∷ []

abbrev slice_between : List (Call ℕ)
slice_between = draw ∷ [] ++ draw ∷ []

nothing_observed : observed_values array_between ≡ observed_values slice_between
nothing_observed = refl

array_hashed : (hashing array_between).queries ≡ (0 ∷ 1 ∷ 2 ∷ 3 ∷ []) ∷ range_with_len 4 32 ∷ []
array_hashed = refl

slice_hashed : (hashing slice_between).queries ≡ (0 ∷ 1 ∷ 2 ∷ 3 ∷ []) ∷ []
slice_hashed = refl

-- ---- three cells of the field of order 257, of which two are the rate, under a turn by two places

abbrev permuting : List (Call F257) → DuplexRun F257
permuting calls = run_calls (duplex_by_calls residues turn 2) (fresh residues 3) calls

abbrev state : ℕ → ℕ → ℕ → List F257
state a b c = element_of a ∷ element_of b ∷ element_of c ∷ []

abbrev observed : ℕ → Call F257
observed n = observe (element_of n)

-- 1, 0, 7, 7 or 2, 0, 7, 7, and a draw
abbrev two_blocks : ℕ → List (Call F257)
two_blocks n = observed n ∷ observed 0 ∷ observed 7 ∷ observed 7 ∷ draw ∷ []

one_permuted : (permuting (two_blocks 1)).queries ≡ state 1 0 2 ∷ state 7 7 5 ∷ []
one_permuted = refl

two_permuted : (permuting (two_blocks 2)).queries ≡ state 2 0 2 ∷ state 7 7 5 ∷ []
two_permuted = refl

one_draw : (permuting (two_blocks 1)).answers ≡ element_of 9 ∷ []
one_draw = refl

two_draw : (permuting (two_blocks 2)).answers ≡ element_of 9 ∷ []
two_draw = refl

pub one_is_not_two : element_of 1 ≡ element_of 2 → ⊥
one_is_not_two e = let numbers : ◌≡◌ {A = ℕ} 1 2 = ap residues.number e in absurd (omega (arith, numbers))

-- the first states come to (3, 3, 3) and to (3, 4, 3): nothing stands past cell 2, and there they differ by 0
permuted_states_collide : CollideAtSomePlace (duplex.Collide residues turn 2) (permuting (two_blocks 1)).queries
    (permuting (two_blocks 2)).queries
permuted_states_collide =
    record {
      place = 0;
      one = state 1 0 2;
      other = state 2 0 2;
      one_is = refl;
      other_is = refl;
      collision = record { different = λ e. let first : element_of 1 ≡ element_of 2 = cc in one_is_not_two first; past = refl; near = (0, lit≤ tt, inl refl) };
    }

-- ---- nothing collides with itself

equal_strings-refused : (message : List ℕ) → hash.Collide by_length message message → ⊥
equal_strings-refused message collision = collision.different refl

equal_states-refused : (cells : List F257) → duplex.Collide residues turn 2 cells cells → ⊥
equal_states-refused cells collision = collision.different refl
