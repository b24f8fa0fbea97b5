-- Worked rows, computed on the definitions: over a hash challenger whose digests have the length of the message plus
-- 0, 1, .. 31 in their places.
use Rattle.std.proofs.Common.{◌≡◌, ℕ, ◌%◌, List, [], ◌∷◌, length, replicate, Some, None, refl}
use Rattle.std.specs.List.{range_with_len}
use Rattle.p3_field_core.specs.Residues.{Residues}
use Rattle.p3_challenger_core.specs.Sampling.{greatest_below, Sampling, unrefused_draw, draws, after_draws}
use Rattle.p3_challenger_core.specs.Observation.{Observation}
use Rattle.p3_grinding.specs.Candidates.{first_accepted, after_first_accepted}
use Rattle.p3_serializing.specs.SerializingGroups.{observe, draw, draw_bits, drop_byte, feed, read, skip, bits}
use Rattle.p3_serializing.specs.{SerializingGroups.{answers_off, byte_calls, taken}, SerializingState.SerializingState}
use Rattle.p3_serializing.specs.SerializingState.{element_observed, words_observed, element_drawn, bits_drawn}
use Rattle.p3_serializing.specs.Bytes.{bytes_of, number_of}
use Rattle.p3_hash_challenger.specs.{HashCalls.{HashFunction, with_pending}, HashState.HashState}
use Rattle.p3_hash_challenger.specs.HashState as hash_state

abbrev pub by_length : HashFunction ℕ
by_length =
    record { digest = λ message. range_with_len (length message) 32; out_len = 32; filler = 0 }

-- the bytes of that challenger
abbrev pub observed : Observation (HashState ℕ (Unit {0})) ℕ ℕ
observed = record { symbols = λ x. x ∷ []; observed = hash_state.observed; may_leave = λ s _ t. t ≡ s }

abbrev pub drawn : Sampling (HashState ℕ (Unit {0})) ℕ
drawn =
    unrefused_draw (λ s. Some (hash_state.sampled (λ _. by_length) s)) (hash_state.after_sampled (λ _. by_length))

abbrev pub State : Type 0
State = SerializingState (HashState ℕ (Unit {0}))

-- bytes are pending, and so many groups may be tried
abbrev pub over : List ℕ → ℕ → State
over pending limit = record { inner = record { sponge = with_pending pending; hasher = tt }; draw_limit = limit }

abbrev start : State
start = over (0 ∷ 1 ∷ 2 ∷ 3 ∷ []) 1

abbrev pub numbers : ℕ → Residues ℕ
numbers order = record { order = order; number = λ x. x; of = λ n. n % order }

-- BabyBear, F257 in groups of 4 bytes, and Goldilocks in groups of 8
abbrev baby_bear : Sampling State ℕ
baby_bear = element_drawn drawn 4 (numbers 2013265921)

abbrev f257 : Sampling State ℕ
f257 = element_drawn drawn 4 (numbers 257)

abbrev goldilocks : Sampling State ℕ
goldilocks = element_drawn drawn 8 (numbers 18446744069414584321)

-- the bytes 35, 34, 33, 32
baby_bear_drawn : baby_bear.sampled start ≡ Some 539042339
unfolding first_accepted number_of draws greatest_below
baby_bear_drawn = refl

-- five bits of the same group
five_bits : (bits_drawn drawn 4 5).sampled start ≡ Some 3
unfolding number_of draws
five_bits = refl

goldilocks_drawn : goldilocks.sampled start ≡ Some 2025808526418453027
unfolding first_accepted number_of draws greatest_below
goldilocks_drawn = refl

-- Of 92 bytes the first group is 123, 122, 121, 120, which is above the order: the second one is drawn, where two may
-- be tried, and else the limit is met.
second_group : baby_bear.sampled (over (replicate 92 0) 2) ≡ Some 1953855095
unfolding first_accepted number_of draws after_draws greatest_below
second_group = refl

limit_met : baby_bear.sampled (over (replicate 92 0) 1) ≡ None
unfolding first_accepted number_of draws after_draws greatest_below
limit_met = refl

-- and then the group is consumed
after_limit : (baby_bear.after (over (replicate 92 0) 1)).inner.sponge.outputs_left ≡ 28
unfolding after_first_accepted number_of draws after_draws greatest_below
after_limit = refl

-- nine bits are kept for the order 257
nine_bits : f257.sampled (over (replicate 92 0) 1) ≡ Some 123
unfolding first_accepted number_of draws after_draws greatest_below
nine_bits = refl

-- the element 258 is the bytes 2, 1, 0, 0, and so is the word 258, of 8 bytes
element_bytes : let o = element_observed observed (λ _ _ _. ⊥) (numbers 2013265921) 4 in
    (o.observed start 258).inner.sponge.pending ≡ 0 ∷ 1 ∷ 2 ∷ 3 ∷ 2 ∷ 1 ∷ 0 ∷ 0 ∷ []
unfolding bytes_of
element_bytes = refl

word_bytes : ((words_observed observed (λ _ _ _. ⊥)).observed start (258 ∷ [])).inner.sponge.pending
    ≡ 0 ∷ 1 ∷ 2 ∷ 3 ∷ 2 ∷ 1 ∷ 0 ∷ 0 ∷ 0 ∷ 0 ∷ 0 ∷ 0 ∷ []
unfolding bytes_of
word_bytes = refl

-- ---- lists of calls, on the inner challenger

-- a check of one bit: a byte is dropped, the witness 5 is observed as its 4 bytes, and one group is read
check_on_bytes : byte_calls (numbers 257) 4 10 (drop_byte ∷ observe 5 ∷ draw_bits 1 ∷ []) (67 ∷ [])
    ≡ skip ∷ feed (5 ∷ 0 ∷ 0 ∷ 0 ∷ []) ∷ read ∷ []
unfolding bytes_of
check_on_bytes = refl

-- its answer is the low bit of the group
answer_of_check : answers_off (numbers 257) 10 (drop_byte ∷ observe 5 ∷ draw_bits 1 ∷ []) (67 ∷ []) ≡ bits (Some 1) ∷ []
answer_of_check = refl

-- a draw of F257 under a limit of 2 takes two groups where the first one, cut to 9 bits, is 300
two_groups : byte_calls (numbers 257) 4 2 (draw ∷ []) (300 ∷ 5 ∷ []) ≡ read ∷ read ∷ []
unfolding taken greatest_below
two_groups = refl
