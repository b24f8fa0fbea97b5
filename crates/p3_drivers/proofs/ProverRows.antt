-- Worked rows, computed on the definitions: numbers below 257, and a challenger that keeps the numbers that it is fed,
-- the last one first.
use Rattle.std.proofs.Common.{◌≡◌, ◌≤◌, ◌<◌, ℕ, zero, suc, ◌+◌, ◌%◌, ◌^◌, List, [], ◌∷◌, Some, true, false, codes}
use Rattle.std.proofs.Common.{replicate, refl, inl, inr, arith, rules, le_refl, lit<}
use Rattle.p3_field_core.specs.Residues.{Residues}
use Rattle.p3_challenger_core.specs.{Observation.{Observation, unrefused_observe}, Sampling.{Sampling, unrefused_draw}}
use Rattle.p3_challenger_core.specs.declared.error.ChallengerError.TheVariants.{NoWitness, TooLong}
use Rattle.p3_fs_core.specs.{Encoding.Encoding, Interactions.step_of, Packing.{packed, first_chunks}}
use Rattle.p3_fs_core.specs.declared.error.PatternError.TheVariants.{Finished, WrongStep, OverCap}
use Rattle.p3_fs_core.specs.declared.error.TranscriptError.TheVariants.{Pattern, Challenger, OutOfMemory}
use Rattle.p3_fs_core.specs.declared.{interaction.Interaction.Interaction, step.Kind.TheVariants.{Message, Pow}}
use Rattle.p3_fs_core.specs.{declared.step.Length.TheVariants.{Bounded, Fixed}, BigEndian.count_width}
use Rattle.p3_fs_core.specs.{Alphabet.{Alphabet, alphabet_of}, Steps.{algebra_of, algebra_step}}
use Rattle.p3_grinding.specs.Checks.{draws_nothing, IsLeast}
use Rattle.p3_patterns.specs.Playing.{Playing, next_step}
use Rattle.p3_driver_core.specs.{Meanings.{sent_bounded, sent_bytes_bounded, hinted}, Driving.Driving}
use Rattle.p3_driver_core.specs.{Transcripts.{Meaning, IsNext, step_on}, Working.{Work, work_of, sent_work}}
use Rattle.p3_driver_core.specs.{Working.RefusesToGrind, Proving.{Writes, RefusesToWrite, RefusesLongList, Unwritten}}
use Rattle.p3_fs_core.specs.Scalar as scalar

-- in two bytes each
abbrev numbers : Residues ℕ
numbers = record { order = 257; number = λ x. x; of = λ n. n % 257 }

abbrev encoded : Encoding ℕ
encoded = scalar.encoding numbers 9

abbrev kept : Observation (List ℕ) ℕ ℕ
kept = unrefused_observe (λ x. x ∷ []) (λ s x. x ∷ s)

-- bytes as numbers: their length, and then each by itself
abbrev in_field : Alphabet (List ℕ) ℕ ℕ
in_field = alphabet_of (packed numbers 1) (λ len. 257 ≤ len) kept (λ _ _ _. ⊥)

-- 5 and 256, in a list of at most three
abbrev two_numbers : Meaning (List ℕ) ℕ (List ℕ)
two_numbers =
    sent_bounded (algebra_step Message (codes "xs") (algebra_of 257 1 (replicate 32 0) (codes "F257")) (Bounded 3)) in_field 3 kept
    encoded (5 ∷ 256 ∷ [])

-- a prover whose challenger was fed 9, and which has written the byte aa; and one later
abbrev proving : Playing → List ℕ → List ℕ → Driving (List ℕ)
proving playing challenger narg =
    record { transcript = record { challenger = challenger; playing = playing }; bytes = narg }

abbrev before : Playing → Driving (List ℕ)
before playing = proving playing (9 ∷ []) (0xaa ∷ [])

-- where a step was refused, nothing may follow
abbrev closed : Playing → Playing
closed playing = record { pattern = playing.pattern; position = playing.position; finished = true }

-- ---- steps that are played

-- a count of one byte is not too long
one_fits : 257 ≤ 1 → ⊥
one_fits long = absurd (omega (arith, long))

-- the count and the two numbers, written and fed
written : (playing : Playing) → IsNext playing two_numbers.interaction → Writes two_numbers (before playing)
    (5 ∷ 256 ∷ []) (proving (step_on playing) (256 ∷ 5 ∷ 2 ∷ 1 ∷ 9 ∷ []) (0xaa ∷ 2 ∷ 0 ∷ 5 ∷ 1 ∷ 0 ∷ []))
unfolding count_width first_chunks
written playing next = record {
  plays = record { is_next = next; fits = (one_fits, tt); gives = refl; challenger = refl; playing = refl };
  wire = refl;
}

-- a hint is written and not fed
abbrev hint : Meaning (List ℕ) ℕ (List ℕ)
hint = hinted (codes "h") (255 ∷ [])

hint_written : (playing : Playing) → IsNext playing hint.interaction →
    Writes hint (before playing) (255 ∷ []) (proving (step_on playing) (9 ∷ []) (0xaa ∷ 255 ∷ []))
hint_written playing next = record {
  plays = record { is_next = next; fits = tt; gives = refl; challenger = refl; playing = refl };
  wire = refl;
}

-- ---- steps that are refused

-- another step is next: nothing is fed and nothing written
wrong_step : (playing : Playing) (received expected : Interaction) → playing.finished ≡ false →
    step_of received ≡ two_numbers.interaction → next_step playing ≡ Some (step_of expected) →
    (step_of expected ≡ two_numbers.interaction → ⊥) →
    RefusesToWrite two_numbers (before playing) (Pattern (WrongStep received expected)) (before (closed playing))
wrong_step playing received expected going is next other = record {
  refuses = record {
    playing = record { fault = inr (going, (is, next, other)); finished = refl };
    challenger = refl;
  };
  wire = refl;
  order = inl refl;
}

-- and from then on no step is played, the right one neither
then_finished : (playing : Playing) →
    RefusesToWrite two_numbers (before (closed playing)) (Pattern Finished) (before (closed playing))
then_finished playing = record {
  refuses = record { playing = record { fault = inl (refl, refl); finished = refl }; challenger = refl };
  wire = refl;
  order = inl refl;
}

-- a list of four, where three are the most
four_of_three : (playing : Playing) → playing.finished ≡ false →
    RefusesLongList 4 3 (before playing) (Pattern (OverCap 4 3)) (before (closed playing))
four_of_three playing going = record {
  playing = record { fault = inr (going, lit< tt, refl); finished = refl };
  challenger = refl;
  bytes = refl;
}

-- memory is refused where all was fed and three bytes were written
three_bytes_written : (playing : Playing) → IsNext playing two_numbers.interaction → RefusesToWrite two_numbers
    (before playing) OutOfMemory (proving (closed playing) (256 ∷ 5 ∷ 2 ∷ 1 ∷ 9 ∷ []) (0xaa ∷ 2 ∷ 0 ∷ 5 ∷ []))
unfolding count_width first_chunks
three_bytes_written playing next = record {
  refuses = record { is_next = next; leaves = inr (inl refl); finished = refl };
  wire = (3, refl);
  order = inr refl;
}

-- 257 bytes are too long for the alphabet: their count is fed, and nothing is written
abbrev too_long : Meaning (List ℕ) ℕ (List ℕ)
too_long = sent_bytes_bounded Message (codes "b") in_field 300 (replicate 257 0)

count_fed : (playing : Playing) → IsNext playing too_long.interaction → RefusesToWrite too_long
    (before playing) (Challenger TooLong) (proving (closed playing) (1 ∷ 1 ∷ 2 ∷ 9 ∷ []) (0xaa ∷ []))
unfolding count_width first_chunks
count_fed playing next = record {
  refuses = record { is_next = next; leaves = inr (le_refl 257, refl); finished = refl };
  wire = refl;
  order = inl refl;
}

-- ---- proof of work

-- bits are drawn of the sum of all that was fed, and a draw leaves a 0
abbrev total : List ℕ → ℕ
total [] = 0
total (x ∷ xs) = x + total xs

abbrev next_bits : ℕ → Sampling (List ℕ) ℕ
next_bits bits = unrefused_draw (λ s. Some (total s % 2 ^ bits)) (λ s. 0 ∷ s)

abbrev work : ℕ → Work (List ℕ) ℕ ℕ
work bits = work_of (algebra_step Pow (codes "w") (algebra_of 257 1 (replicate 32 0) (codes "F257")) (Fixed bits))
    numbers draws_nothing kept next_bits bits

differs : Some false ≡ Some true → ⊥
differs e = search (rules, e)

-- of three bits: 9 and 7 are 16, and no smaller number does
below_seven : (n : ℕ) → n < 7 → ((work 3).check (n % 257)).sampled (9 ∷ []) ≡ Some true → ⊥
below_seven zero h e = differs e
below_seven (suc zero) h e = differs e
below_seven (suc (suc zero)) h e = differs e
below_seven (suc (suc (suc zero))) h e = differs e
below_seven (suc (suc (suc (suc zero)))) h e = differs e
below_seven (suc (suc (suc (suc (suc zero))))) h e = differs e
below_seven (suc (suc (suc (suc (suc (suc zero)))))) h e = differs e
below_seven (suc (suc (suc (suc (suc (suc (suc n))))))) h e = absurd (omega (arith, h))

seven_is_least : IsLeast numbers (work 3).check (9 ∷ []) 7
seven_is_least = record { passes = refl; least = below_seven }

seven_written : (playing : Playing) → IsNext playing (work 3).interaction → Writes (sent_work (work 3) encoded 7)
    (before playing) 7 (proving (step_on playing) (0 ∷ 7 ∷ 9 ∷ []) (0xaa ∷ 0 ∷ 7 ∷ []))
seven_written playing next = record {
  plays = record { is_next = next; fits = tt; gives = refl; challenger = refl; playing = refl };
  wire = refl;
}

-- memory is refused where one byte of it was written
seven_cut : (playing : Playing) → IsNext playing (work 3).interaction →
    Unwritten (work 3) encoded (before playing) OutOfMemory (proving (closed playing) (0 ∷ 7 ∷ 9 ∷ []) (0xaa ∷ 0 ∷ []))
seven_cut playing next = record {
  memory = refl;
  witness = 7;
  least = seven_is_least;
  abandons = record { is_next = next; leaves = refl; finished = refl };
  wire = (1, refl);
}

-- of no bits: 0 is written, and the challenger is as it was
zero_written : (playing : Playing) → IsNext playing (work 0).interaction →
    Writes (sent_work (work 0) encoded 0) (before playing) 0 (proving (step_on playing) (9 ∷ []) (0xaa ∷ 0 ∷ 0 ∷ []))
zero_written playing next = record {
  plays = record { is_next = next; fits = tt; gives = refl; challenger = refl; playing = refl };
  wire = refl;
}

-- where each draw gives 1, no witness passes
abbrev hopeless : Work (List ℕ) ℕ ℕ
hopeless = work_of (algebra_step Pow (codes "w") (algebra_of 257 1 (replicate 32 0) (codes "F257")) (Fixed 1))
    numbers draws_nothing kept (λ _. unrefused_draw (λ s. Some 1) (λ s. 0 ∷ s)) 1

none_found : (playing : Playing) → IsNext playing hopeless.interaction → RefusesToGrind hopeless
    (λ _. ⊥) (before playing).transcript (Challenger NoWitness) (before (closed playing)).transcript
none_found playing next = record { is_next = next; leaves = (λ n h e. differs e, refl); finished = refl }
