-- Worked rows, computed on the definitions: scalars of the field of order 257 in three cells of that of order
-- 2013265921, of which two are the rate, under a turn by two places, which makes (c + 1, a + 2, b + 3) of the
-- cells (a, b, c).
use Rattle.std.proofs.Common.{◌≡◌, ℕ, zero, suc, ◌%◌, ◌^◌, ◌==◌, Bool, true, if◌then◌else◌, List, [], ◌∷◌, map, refl}
use Rattle.std.proofs.Common.{slice_index}
use Rattle.p3_small_primes.specs.BabyBearResidues.{BabyBear, residues as baby_bear}
use Rattle.p3_small_primes.specs.F257Residues.{F257, residues as f257}
use Rattle.p3_symmetric.specs.Turn.{turned}
use Rattle.p3_challenger_core.specs.Segments.{Call, observe, draw, ByCalls, BySegments, segments}
use Rattle.p3_challenger_core.specs.Segments.{run_calls, run_calls_to_digest, run_segments, run_segments_to_digest}
use Rattle.p3_sponge.specs.Outputs.{stepped, step_queries, outputs_from}
use Rattle.p3_sponge.specs.SpongeSegments.{absorbed_blocks, block_queries}
use Rattle.p3_multi_field.specs.MultiFieldCalls.{FieldPair, Symbol, scalar, digest, MultiFieldSponge, fresh}
use Rattle.p3_multi_field.specs.MultiFieldCalls.{packed_cells, multi_field_by_calls}
use Rattle.p3_multi_field.specs.MultiFieldSegments.{multi_field_by_segments, absorbed_words, word_queries}

abbrev pair : FieldPair F257 BabyBear
pair = record { inner = f257; outer = baby_bear; bits = 9; absorb = 3; squeeze = 2 }

abbrev start : MultiFieldSponge F257 BabyBear
start = fresh pair 3

abbrev by_calls : ByCalls (Symbol F257 BabyBear) F257 (List BabyBear) (List BabyBear) (MultiFieldSponge F257 BabyBear)
by_calls = multi_field_by_calls pair (turned baby_bear 2 3) 2

abbrev by_segments : BySegments (Symbol F257 BabyBear) F257 (List BabyBear) (List BabyBear)
    (MultiFieldSponge F257 BabyBear)
by_segments = multi_field_by_segments pair (turned baby_bear 2 3) 2

abbrev observed : ℕ → Call (Symbol F257 BabyBear)
observed n = observe (scalar (f257.of n))

abbrev digest_observed : List ℕ → Call (Symbol F257 BabyBear)
digest_observed words = observe (digest (map baby_bear.of words))

-- the numbers drawn from the start on, and the queries to the permutation, call by call and by the
-- definition over segments
abbrev drawn : List (Call (Symbol F257 BabyBear)) → List ℕ
drawn calls = map f257.number (run_calls by_calls start calls).answers

abbrev drawn_by_segments : List (Call (Symbol F257 BabyBear)) → List ℕ
drawn_by_segments calls = map f257.number (run_segments by_segments start (segments calls)).answers

abbrev numbers : List BabyBear → List ℕ
numbers cells = map baby_bear.number cells

abbrev queries : List (Call (Symbol F257 BabyBear)) → List (List ℕ)
queries calls = map numbers (run_calls by_calls start calls).queries

abbrev queries_by_segments : List (Call (Symbol F257 BabyBear)) → List (List ℕ)
queries_by_segments calls = map numbers (run_segments by_segments start (segments calls)).queries

-- the numbers of the digest after calls
abbrev digest_after : List (Call (Symbol F257 BabyBear)) → List ℕ
digest_after calls = numbers (run_calls_to_digest by_calls start calls).after

abbrev digest_after_segments : List (Call (Symbol F257 BabyBear)) → List ℕ
digest_after_segments calls = numbers (run_segments_to_digest by_segments start (segments calls)).after

abbrev state : ℕ → ℕ → ℕ → List ℕ
state a b c = a ∷ b ∷ c ∷ []

-- three scalars fill one cell: 1 + 2 * 2 ^ 9 + 3 * 2 ^ 18, and their number is the tag
abbrev one_two_three : List (Call (Symbol F257 BabyBear)) → List (Call (Symbol F257 BabyBear))
one_two_three calls = observed 1 ∷ observed 2 ∷ observed 3 ∷ calls

abbrev six_draws : List (Call (Symbol F257 BabyBear))
six_draws = draw ∷ draw ∷ draw ∷ draw ∷ draw ∷ draw ∷ []

packed_scalars : numbers (packed_cells pair 2 (map f257.of (1 ∷ 2 ∷ 3 ∷ []))) ≡ 787457 ∷ 0 ∷ []
packed_scalars = refl

three_scalars : drawn (one_two_three six_draws) ≡ 237 ∷ 11 ∷ 0 ∷ 4 ∷ 0 ∷ 6 ∷ []
three_scalars = refl

three_scalars_by_segments : drawn_by_segments (one_two_three six_draws) ≡ 237 ∷ 11 ∷ 0 ∷ 4 ∷ 0 ∷ 6 ∷ []
unfolding absorbed_blocks block_queries stepped step_queries outputs_from
three_scalars_by_segments = refl

three_scalars_queries : queries (one_two_three six_draws) ≡ state 787457 0 3 ∷ state 4 787459 3 ∷ []
three_scalars_queries = refl

three_scalars_queries_by_segments :
    queries_by_segments (one_two_three six_draws) ≡ state 787457 0 3 ∷ state 4 787459 3 ∷ []
unfolding absorbed_blocks block_queries stepped step_queries outputs_from
three_scalars_queries_by_segments = refl

three_scalars_to_digest : digest_after (one_two_three []) ≡ 4 ∷ 787459 ∷ []
three_scalars_to_digest = refl

three_scalars_to_digest_by_segments : digest_after_segments (one_two_three []) ≡ 4 ∷ 787459 ∷ []
unfolding absorbed_blocks block_queries stepped step_queries outputs_from
three_scalars_to_digest_by_segments = refl

-- a scalar, and a digest of one word of the same number, are not told apart
abbrev four_draws : List (Call (Symbol F257 BabyBear))
four_draws = draw ∷ draw ∷ draw ∷ draw ∷ []

one_scalar : drawn (observed 5 ∷ four_draws) ≡ 0 ∷ 7 ∷ 0 ∷ 2 ∷ []
one_scalar = refl

one_word : drawn (digest_observed (5 ∷ []) ∷ four_draws) ≡ 0 ∷ 7 ∷ 0 ∷ 2 ∷ []
one_word = refl

one_word_by_segments : drawn_by_segments (digest_observed (5 ∷ []) ∷ four_draws) ≡ 0 ∷ 7 ∷ 0 ∷ 2 ∷ []
unfolding absorbed_words word_queries absorbed_blocks block_queries stepped step_queries outputs_from
one_word_by_segments = refl

-- nor are they by what is permuted
one_scalar_and_one_word_queries : queries (observed 5 ∷ four_draws) ≡ queries (digest_observed (5 ∷ []) ∷ four_draws)
one_scalar_and_one_word_queries = refl

-- ---- proof of work, after the scalars 1 and 2

-- whether a candidate passes a check of so many bits: the bits that are drawn after it are 0
abbrev passes : ℕ → ℕ → Bool
passes bits candidate =
    slice_index (drawn (observed 1 ∷ observed 2 ∷ observed candidate ∷ draw ∷ [])) 0 % 2 ^ bits == 0

-- how many of the first candidates pass
abbrev count_passing : ℕ → ℕ → ℕ
count_passing bits zero = 0
count_passing bits (suc n) = if passes bits n then suc (count_passing bits n) else count_passing bits n

one_bit : (count_passing 1 33 ≡ 0) × (passes 1 33 ≡ true)
one_bit = (refl, refl)

two_bits : (count_passing 2 65 ≡ 0) × (passes 2 65 ≡ true)
two_bits = (refl, refl)

eight_bits : (count_passing 8 65 ≡ 0) × (passes 8 65 ≡ true)
eight_bits = (refl, refl)

-- the check takes the first of these digits
draws_after_work : drawn (observed 1 ∷ observed 2 ∷ observed 65 ∷ four_draws) ≡ 256 ∷ 2 ∷ 0 ∷ 4 ∷ []
draws_after_work = refl
