-- Worked rows of proof of work, computed on the definitions.
use Rattle.std.proofs.Common.{◌≡◌, ℕ, ◌+◌, ◌%◌, Bool, true, false, [], ◌∷◌, map, sum, Some, refl}
use Rattle.std.specs.List.{range_with_len}
use Rattle.p3_hash_challenger.specs.{HashCalls.HashFunction, HashState.HashState}
use Rattle.p3_grinding.specs.{Candidates.first_accepted, Checks.NonePasses}
use Rattle.p3_serializing.specs.{SerializingGrinding.serializing_check, SerializingState.element_drawn}
use Rattle.p3_serializing.{proofs.WorkedRows.{State, over, numbers, observed, drawn}, specs.Bytes.{bytes_of, number_of}}
use Rattle.p3_challenger_core.specs.Sampling.{greatest_below, Sampling, unrefused_draw, draws, after_draws}
use Rattle.p3_hash_challenger.specs.HashState as hash_state

-- ---- digests of the length

abbrev by_length : ℕ → ℕ → Sampling State Bool
by_length bits witness = serializing_check observed (λ _ _ _. ⊥) drawn (numbers 257) 4 bits witness

abbrev five_bytes : State
five_bytes = over (0 ∷ 1 ∷ 2 ∷ 3 ∷ 4 ∷ []) 1

-- Once a byte is dropped, 32 bytes are pending and 4 come from the witness: the first byte of the group is 67, whose
-- lowest bit is not 0.
witness_0 : (by_length 1 0).sampled five_bytes ≡ Some false
unfolding bytes_of number_of draws
witness_0 = refl

-- and so whatever the witness is
no_witness : NonePasses (numbers 257) (by_length 1) five_bytes
unfolding bytes_of number_of draws
no_witness n below passes = let same : Some false ≡ Some true = passes in cc

-- with 0 bits nothing is drawn
no_bits : ((by_length 0 7).sampled five_bytes ≡ Some true) × ((by_length 0 7).after five_bytes ≡ five_bytes)
no_bits = (refl, refl)

-- ---- digests of the sum

-- each place is the sum of the message plus 0, 1, .. 31
abbrev sums : HashFunction ℕ
sums =
    record {
      digest = λ message. map (λ i. (sum message + i) % 256) (range_with_len 0 32);
      out_len = 32;
      filler = 0;
    }

abbrev drawn_by_sum : Sampling (HashState ℕ (Unit {0})) ℕ
drawn_by_sum =
    unrefused_draw (λ s. Some (hash_state.sampled (λ _. sums) s)) (hash_state.after_sampled (λ _. sums))

abbrev by_sum : ℕ → ℕ → Sampling State Bool
by_sum bits witness = serializing_check observed (λ _ _ _. ⊥) drawn_by_sum (numbers 257) 4 bits witness

-- the first byte after a witness w is 15 + w, so 1 is the least whose three lowest bits are 0
first_fails : (by_sum 3 0).sampled (over [] 1) ≡ Some false
unfolding bytes_of number_of draws
first_fails = refl

second_passes : (by_sum 3 1).sampled (over [] 1) ≡ Some true
unfolding bytes_of number_of draws
second_passes = refl

-- and the next draw goes on after its group: 268 is refused, and 264, and 260
after_second : (element_drawn drawn_by_sum 4 (numbers 257)).sampled ((by_sum 3 1).after (over [] 4)) ≡ Some 256
unfolding bytes_of number_of draws after_draws first_accepted greatest_below
after_second = refl
