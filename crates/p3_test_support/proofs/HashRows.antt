-- Worked rows, computed on the definitions: the places of a digest are the length of the message plus 0, 1, ..
use Rattle.std.{proofs.Common.{◌≡◌, ℕ, List, [], ◌∷◌, replicate, refl, ap}, specs.List.range_with_len}
use Rattle.p3_challenger_core.specs.Segments.{Call, observe, observe_empty_array, draw, Run, Segment, IsCutOf}
use Rattle.p3_challenger_core.specs.Segments.{segments, run_calls, run_calls_to_digest, run_segments}
use Rattle.p3_challenger_core.specs.{Segments.run_segments_to_digest, SegmentLaws.cut-only}
use Rattle.p3_sponge.specs.Outputs.{stepped, step_queries, outputs_from}
use Rattle.p3_hash_challenger.specs.HashCalls.{HashFunction, HashSponge, with_pending, hash_by_calls}
use Rattle.p3_hash_challenger.specs.HashSegments.{hash_by_segments}
use Rattle.p3_test_support.specs.LengthHasher.{length_digest}

-- what is pending at the start: its hash is 4, 5, .. 35, and the hash of that is 32, 33, .. 63
abbrev start : List ℕ
start = 0 ∷ 1 ∷ 2 ∷ 3 ∷ []

abbrev by_length : HashFunction ℕ
by_length = record { digest = length_digest; out_len = 32; filler = 0 }

abbrev run : List (Call ℕ) → Run ℕ (List ℕ) (HashSponge ℕ)
run calls = run_calls (hash_by_calls by_length) (with_pending start) calls

abbrev run_to_digest : List (Call ℕ) → Run ℕ (List ℕ) (List ℕ)
run_to_digest calls = run_calls_to_digest (hash_by_calls by_length) (with_pending start) calls

-- the same by the definition over segments
abbrev run_by_segments : List (Call ℕ) → Run ℕ (List ℕ) (HashSponge ℕ)
run_by_segments calls = run_segments (hash_by_segments by_length) (with_pending start) (segments calls)

abbrev run_to_digest_by_segments : List (Call ℕ) → Run ℕ (List ℕ) (List ℕ)
run_to_digest_by_segments calls =
    run_segments_to_digest (hash_by_segments by_length) (with_pending start) (segments calls)

-- the outputs are 35, 34, 33, and after an array of no places in place of the third draw 63
three_draws : (run (draw ∷ draw ∷ draw ∷ [])).answers ≡ 35 ∷ 34 ∷ 33 ∷ []
three_draws = refl

empty_array : (run (draw ∷ draw ∷ observe_empty_array ∷ draw ∷ [])).answers ≡ 35 ∷ 34 ∷ 63 ∷ []
empty_array = refl

three_draws_by_segments : (run_by_segments (draw ∷ draw ∷ draw ∷ [])).answers ≡ 35 ∷ 34 ∷ 33 ∷ []
unfolding stepped step_queries outputs_from
three_draws_by_segments = refl

empty_array_by_segments : (run_by_segments (draw ∷ draw ∷ observe_empty_array ∷ draw ∷ [])).answers ≡ 35 ∷ 34 ∷ 63 ∷ []
unfolding stepped step_queries outputs_from
empty_array_by_segments = refl

-- ---- the queries to the hash function

-- three draws hash one string
three_draws_queries : (run (draw ∷ draw ∷ draw ∷ [])).queries ≡ start ∷ []
three_draws_queries = refl

-- after an array of no places the next draw hashes the digest
empty_array_queries : (run (draw ∷ draw ∷ observe_empty_array ∷ draw ∷ [])).queries ≡ start ∷ range_with_len 4 32 ∷ []
empty_array_queries = refl

-- as does a draw after all 32 places
places_queries : (run (replicate 32 draw)).queries ≡ start ∷ []
places_queries = refl

more_places_queries : (run (replicate 33 draw)).queries ≡ start ∷ range_with_len 4 32 ∷ []
more_places_queries = refl

-- what was observed stands after what is pending
observed_queries : (run (observe 9 ∷ observe 8 ∷ draw ∷ [])).queries ≡ (0 ∷ 1 ∷ 2 ∷ 3 ∷ 9 ∷ 8 ∷ []) ∷ []
observed_queries = refl

-- a digest hashes all that is pending, whatever outputs are left
digest_queries : (run_to_digest []).queries ≡ start ∷ []
digest_queries = refl

three_draws_digest_queries : (run_to_digest (draw ∷ draw ∷ draw ∷ [])).queries ≡ start ∷ range_with_len 4 32 ∷ []
three_draws_digest_queries = refl

three_draws_digest : (run_to_digest (draw ∷ draw ∷ draw ∷ [])).after ≡ range_with_len 32 32
three_draws_digest = refl

-- the same by segments
three_draws_queries_by_segments : (run_by_segments (draw ∷ draw ∷ draw ∷ [])).queries ≡ start ∷ []
unfolding stepped step_queries outputs_from
three_draws_queries_by_segments = refl

empty_array_queries_by_segments : (run_by_segments (draw ∷ draw ∷ observe_empty_array ∷ draw ∷ [])).queries ≡ start ∷
    range_with_len 4 32 ∷ []
unfolding stepped step_queries outputs_from
empty_array_queries_by_segments = refl

places_queries_by_segments : (run_by_segments (replicate 32 draw)).queries ≡ start ∷ []
unfolding stepped step_queries outputs_from
places_queries_by_segments = refl

more_places_queries_by_segments : (run_by_segments (replicate 33 draw)).queries ≡ start ∷ range_with_len 4 32 ∷ []
unfolding stepped step_queries outputs_from
more_places_queries_by_segments = refl

observed_queries_by_segments : (run_by_segments (observe 9 ∷ observe 8 ∷ draw ∷ [])).queries ≡
    (0 ∷ 1 ∷ 2 ∷ 3 ∷ 9 ∷ 8 ∷ []) ∷ []
unfolding stepped step_queries outputs_from
observed_queries_by_segments = refl

digest_queries_by_segments : (run_to_digest_by_segments []).queries ≡ start ∷ []
unfolding stepped step_queries outputs_from
digest_queries_by_segments = refl

three_draws_digest_queries_by_segments : (run_to_digest_by_segments (draw ∷ draw ∷ draw ∷ [])).queries ≡ start ∷
    range_with_len 4 32 ∷ []
unfolding stepped step_queries outputs_from
three_draws_digest_queries_by_segments = refl

three_draws_digest_by_segments : (run_to_digest_by_segments (draw ∷ draw ∷ draw ∷ [])).after ≡ range_with_len 32 32
unfolding stepped step_queries outputs_from
three_draws_digest_by_segments = refl

-- ---- the cut

abbrev segment : List ℕ → ℕ → Segment ℕ
segment values draws = record { values = values; draws = draws }

cut_at_values : segments (draw ∷ observe 1 ∷ observe 2 ∷ draw ∷ draw ∷ observe 3 ∷ []) ≡ record
    { first = segment [] 1; others = segment (1 ∷ 2 ∷ []) 2 ∷ segment (3 ∷ []) 0 ∷ [] }
cut_at_values = refl

cut_at_arrays : segments
    (observe 1 ∷ draw ∷ observe_empty_array ∷ draw ∷ observe_empty_array ∷ observe_empty_array ∷ observe 2 ∷ []) ≡
    record { first = segment (1 ∷ []) 1; others = segment [] 1 ∷ segment [] 0 ∷ segment (2 ∷ []) 0 ∷ [] }
cut_at_arrays = refl

-- values in a row are not cut apart, nor are draws from the values before them
not_between_values : IsCutOf (observe 1 ∷ observe 2 ∷ [])
    (record { first = segment (1 ∷ []) 0; others = segment (2 ∷ []) 0 ∷ [] }) → ⊥
not_between_values h =
    let others : segment (2 ∷ []) 0 ∷ [] ≡ [] =
    ap (λ cut. cut.others) (cut-only (observe 1 ∷ observe 2 ∷ []) (segment (1 ∷ []) 0) (segment (2 ∷ []) 0 ∷ []) h) in
    cc

not_before_draws : IsCutOf (observe 1 ∷ draw ∷ []) (record { first = segment (1 ∷ []) 0; others = segment [] 1 ∷ [] })
    → ⊥
not_before_draws h =
    let others : segment [] 1 ∷ [] ≡ [] =
    ap (λ cut. cut.others) (cut-only (observe 1 ∷ draw ∷ []) (segment (1 ∷ []) 0) (segment [] 1 ∷ []) h) in
    cc
