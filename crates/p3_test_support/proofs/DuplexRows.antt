-- Worked rows, computed on the definitions: three cells of the field of order 257, of which two are
-- the rate, under a turn by one place, which makes (b + 1, c + 2, a + 3) of the cells (a, b, c).
use Rattle.std.proofs.Common.{◌≡◌, ℕ, List, [], ◌∷◌, map, refl}
use Rattle.p3_small_primes.specs.F257Residues.{F257, residues}
use Rattle.p3_symmetric.specs.Turn.{turned}
use Rattle.p3_challenger_core.specs.Segments.{Call, observe, observe_empty_array, draw, ByCalls, BySegments, segments}
use Rattle.p3_challenger_core.specs.Segments.{run_calls, run_calls_to_digest, run_segments, run_segments_to_digest}
use Rattle.p3_sponge.specs.Outputs.{stepped, step_queries, outputs_from}
use Rattle.p3_sponge.specs.SpongeSegments.{absorbed_blocks, block_queries}
use Rattle.p3_duplex.specs.{DuplexCalls.{DuplexSponge, fresh, duplex_by_calls}, DuplexSegments.duplex_by_segments}

abbrev start : DuplexSponge F257
start = fresh residues 3

abbrev by_calls : ByCalls F257 F257 (List F257) (List F257) (DuplexSponge F257)
by_calls = duplex_by_calls residues (turned residues 1 3) 2

abbrev by_segments : BySegments F257 F257 (List F257) (List F257) (DuplexSponge F257)
by_segments = duplex_by_segments residues (turned residues 1 3) 2

abbrev numbers : List F257 → List ℕ
numbers xs = map residues.number xs

-- the numbers drawn from the start on, and the queries to the permutation, call by call
abbrev drawn : List (Call F257) → List ℕ
drawn calls = numbers (run_calls by_calls start calls).answers

abbrev queries : List (Call F257) → List (List ℕ)
queries calls = map numbers (run_calls by_calls start calls).queries

-- the same by the definition over segments
abbrev drawn_by_segments : List (Call F257) → List ℕ
drawn_by_segments calls = numbers (run_segments by_segments start (segments calls)).answers

abbrev queries_by_segments : List (Call F257) → List (List ℕ)
queries_by_segments calls = map numbers (run_segments by_segments start (segments calls)).queries

-- the numbers of the digest after calls, and the states queried up to it
abbrev digest_after : List (Call F257) → List ℕ
digest_after calls = numbers (run_calls_to_digest by_calls start calls).after

abbrev queries_to_digest : List (Call F257) → List (List ℕ)
queries_to_digest calls = map numbers (run_calls_to_digest by_calls start calls).queries

abbrev digest_after_segments : List (Call F257) → List ℕ
digest_after_segments calls = numbers (run_segments_to_digest by_segments start (segments calls)).after

abbrev queries_to_digest_by_segments : List (Call F257) → List (List ℕ)
queries_to_digest_by_segments calls = map numbers (run_segments_to_digest by_segments start (segments calls)).queries

abbrev state : ℕ → ℕ → ℕ → List ℕ
state a b c = a ∷ b ∷ c ∷ []

abbrev five : Call F257
five = observe (residues.of 5)

abbrev nought : Call F257
nought = observe (residues.of 0)

fresh_draws : drawn (draw ∷ draw ∷ draw ∷ draw ∷ []) ≡ 2 ∷ 1 ∷ 5 ∷ 3 ∷ []
fresh_draws = refl

fresh_digest : digest_after [] ≡ 1 ∷ 2 ∷ []
fresh_digest = refl

one_draw : drawn (five ∷ draw ∷ []) ≡ 3 ∷ []
one_draw = refl

digest_after_one_draw : digest_after (five ∷ draw ∷ []) ≡ 4 ∷ 10 ∷ []
digest_after_one_draw = refl

full_block_digest : digest_after (five ∷ nought ∷ []) ≡ 5 ∷ 10 ∷ []
full_block_digest = refl

three_draws : drawn (five ∷ draw ∷ draw ∷ draw ∷ []) ≡ 3 ∷ 1 ∷ 10 ∷ []
three_draws = refl

full_block_draw : drawn (five ∷ nought ∷ draw ∷ []) ≡ 4 ∷ []
full_block_draw = refl

short_block_digest : digest_after (five ∷ []) ≡ 1 ∷ 3 ∷ []
short_block_digest = refl

-- the same by segments
fresh_draws_by_segments : drawn_by_segments (draw ∷ draw ∷ draw ∷ draw ∷ []) ≡ 2 ∷ 1 ∷ 5 ∷ 3 ∷ []
unfolding absorbed_blocks block_queries stepped step_queries outputs_from
fresh_draws_by_segments = refl

digest_after_one_draw_by_segments : digest_after_segments (five ∷ draw ∷ []) ≡ 4 ∷ 10 ∷ []
unfolding absorbed_blocks block_queries stepped step_queries outputs_from
digest_after_one_draw_by_segments = refl

full_block_digest_by_segments : digest_after_segments (five ∷ nought ∷ []) ≡ 5 ∷ 10 ∷ []
unfolding absorbed_blocks block_queries stepped step_queries outputs_from
full_block_digest_by_segments = refl

three_draws_by_segments : drawn_by_segments (five ∷ draw ∷ draw ∷ draw ∷ []) ≡ 3 ∷ 1 ∷ 10 ∷ []
unfolding absorbed_blocks block_queries stepped step_queries outputs_from
three_draws_by_segments = refl

full_block_draw_by_segments : drawn_by_segments (five ∷ nought ∷ draw ∷ []) ≡ 4 ∷ []
unfolding absorbed_blocks block_queries stepped step_queries outputs_from
full_block_draw_by_segments = refl

two_segments : drawn_by_segments (five ∷ draw ∷ draw ∷ five ∷ draw ∷ draw ∷ []) ≡ drawn
    (five ∷ draw ∷ draw ∷ five ∷ draw ∷ draw ∷ [])
unfolding absorbed_blocks block_queries stepped step_queries outputs_from
two_segments = refl

-- ---- the queries to the permutation

-- four draws from the start permute twice
fresh_draws_queries : queries (draw ∷ draw ∷ draw ∷ draw ∷ []) ≡ state 0 0 0 ∷ state 1 2 3 ∷ []
fresh_draws_queries = refl

-- and a digest after them once more
fresh_draws_digest_queries : queries_to_digest (draw ∷ draw ∷ draw ∷ draw ∷ []) ≡ state 0 0 0 ∷ state 1 2 3 ∷ state 3 5 4
    ∷ []
fresh_draws_digest_queries = refl

-- a digest of a fresh sponge permutes the zeros
fresh_digest_queries : queries_to_digest [] ≡ state 0 0 0 ∷ []
fresh_digest_queries = refl

-- a draw absorbs a block of one value
short_block_queries : queries (five ∷ draw ∷ []) ≡ state 5 0 1 ∷ []
short_block_queries = refl

-- which alone is only pending
pending_queries : queries (five ∷ []) ≡ []
pending_queries = refl

-- so does a digest
short_block_digest_queries : queries_to_digest (five ∷ []) ≡ state 5 0 1 ∷ []
short_block_digest_queries = refl

-- a full block is absorbed at once, and the draw after it finds an output
full_block_queries : queries (five ∷ nought ∷ draw ∷ []) ≡ state 5 0 2 ∷ []
full_block_queries = refl

-- a digest permutes once more all the same
full_block_digest_queries : queries_to_digest (five ∷ nought ∷ []) ≡ state 5 0 2 ∷ state 1 4 8 ∷ []
full_block_digest_queries = refl

-- the second block is written over (1, 3, 8)
two_segments_queries : queries (five ∷ draw ∷ draw ∷ five ∷ draw ∷ []) ≡ state 5 0 1 ∷ state 5 0 9 ∷ []
two_segments_queries = refl

-- a full block, and a short one that the digest absorbs over (1, 4, 8)
three_values_digest_queries : queries_to_digest (five ∷ nought ∷ five ∷ []) ≡ state 5 0 2 ∷ state 5 0 9 ∷ []
three_values_digest_queries = refl

-- an array of no places keeps the outputs
array_queries : queries (draw ∷ observe_empty_array ∷ draw ∷ []) ≡ state 0 0 0 ∷ []
array_queries = refl

-- the same by segments
fresh_draws_queries_by_segments : queries_by_segments (draw ∷ draw ∷ draw ∷ draw ∷ []) ≡ state 0 0 0 ∷ state 1 2 3 ∷ []
unfolding absorbed_blocks block_queries stepped step_queries outputs_from
fresh_draws_queries_by_segments = refl

fresh_draws_digest_queries_by_segments : queries_to_digest_by_segments (draw ∷ draw ∷ draw ∷ draw ∷ []) ≡ state 0 0 0 ∷
    state 1 2 3 ∷ state 3 5 4 ∷ []
unfolding absorbed_blocks block_queries stepped step_queries outputs_from
fresh_draws_digest_queries_by_segments = refl

fresh_digest_queries_by_segments : queries_to_digest_by_segments [] ≡ state 0 0 0 ∷ []
unfolding absorbed_blocks block_queries stepped step_queries outputs_from
fresh_digest_queries_by_segments = refl

short_block_queries_by_segments : queries_by_segments (five ∷ draw ∷ []) ≡ state 5 0 1 ∷ []
unfolding absorbed_blocks block_queries stepped step_queries outputs_from
short_block_queries_by_segments = refl

pending_queries_by_segments : queries_by_segments (five ∷ []) ≡ []
unfolding absorbed_blocks block_queries stepped step_queries outputs_from
pending_queries_by_segments = refl

short_block_digest_queries_by_segments : queries_to_digest_by_segments (five ∷ []) ≡ state 5 0 1 ∷ []
unfolding absorbed_blocks block_queries stepped step_queries outputs_from
short_block_digest_queries_by_segments = refl

full_block_queries_by_segments : queries_by_segments (five ∷ nought ∷ draw ∷ []) ≡ state 5 0 2 ∷ []
unfolding absorbed_blocks block_queries stepped step_queries outputs_from
full_block_queries_by_segments = refl

full_block_digest_queries_by_segments : queries_to_digest_by_segments (five ∷ nought ∷ []) ≡ state 5 0 2 ∷ state 1 4 8 ∷
    []
unfolding absorbed_blocks block_queries stepped step_queries outputs_from
full_block_digest_queries_by_segments = refl

two_segments_queries_by_segments : queries_by_segments (five ∷ draw ∷ draw ∷ five ∷ draw ∷ []) ≡ state 5 0 1 ∷ state 5 0 9
    ∷ []
unfolding absorbed_blocks block_queries stepped step_queries outputs_from
two_segments_queries_by_segments = refl

three_values_digest_queries_by_segments : queries_to_digest_by_segments (five ∷ nought ∷ five ∷ []) ≡ state 5 0 2 ∷ state
    5 0 9 ∷ []
unfolding absorbed_blocks block_queries stepped step_queries outputs_from
three_values_digest_queries_by_segments = refl

array_queries_by_segments : queries_by_segments (draw ∷ observe_empty_array ∷ draw ∷ []) ≡ state 0 0 0 ∷ []
unfolding absorbed_blocks block_queries stepped step_queries outputs_from
array_queries_by_segments = refl

-- the digests after those calls
four_draws_digest : digest_after (draw ∷ draw ∷ draw ∷ draw ∷ []) ≡ 6 ∷ 6 ∷ []
four_draws_digest = refl

three_values_digest : digest_after (five ∷ nought ∷ five ∷ []) ≡ 1 ∷ 11 ∷ []
three_values_digest = refl

four_draws_digest_by_segments : digest_after_segments (draw ∷ draw ∷ draw ∷ draw ∷ []) ≡ 6 ∷ 6 ∷ []
unfolding absorbed_blocks block_queries stepped step_queries outputs_from
four_draws_digest_by_segments = refl

three_values_digest_by_segments : digest_after_segments (five ∷ nought ∷ five ∷ []) ≡ 1 ∷ 11 ∷ []
unfolding absorbed_blocks block_queries stepped step_queries outputs_from
three_values_digest_by_segments = refl

-- ---- what is read back

-- the count tells one value from the same with a zero after it
five_is_not_five_nought : queries (five ∷ draw ∷ []) ≡ queries (five ∷ nought ∷ draw ∷ []) → ⊥
five_is_not_five_nought h = cc
