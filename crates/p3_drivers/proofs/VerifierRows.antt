-- Worked rows, computed on the definitions: elements of the field of 31 bits, and a challenger that keeps the numbers
-- that it is fed, the last one first.
use Rattle.std.proofs.Common.{◌≡◌, ℕ, ◌+◌, ◌%◌, ◌^◌, true, List, [], ◌∷◌, Ok, Err, Some, codes, replicate, refl}
use Rattle.p3_field_core.specs.Residues.{Residues}
use Rattle.p3_challenger_core.specs.{Observation.{Observation, unrefused_observe}, Sampling.{Sampling, unrefused_draw}}
use Rattle.p3_grinding.specs.Checks.{draws_nothing}
use Rattle.p3_fs_core.specs.{Encoding.Encoding, Steps.{Step, algebra_of, algebra_step}}
use Rattle.p3_fs_core.specs.declared.{error.TranscriptError.TheVariants.BadProofShape, step.Kind.TheVariants.Message}
use Rattle.p3_fs_core.specs.declared.step.{Kind.TheVariants.Pow, Length.{Length, TheVariants.{Scalar, Fixed, Bounded}}}
use Rattle.p3_fs_core.specs.{BigEndian.count_width, Alphabet.{Alphabet, alphabet_of}}
use Rattle.p3_patterns.specs.Playing.{Playing, IsPlayed}
use Rattle.p3_driver_core.specs.{Transcripts.{step_on, IsNext}, Working.{work_of, Work}, Driving.Driving}
use Rattle.p3_driver_core.specs.Reads.{received_bytes_bounded, hint_received_bounded, received_bounded, received_bytes}
use Rattle.p3_driver_core.specs.Reads.{received_list, received_work, read_each, received, Reading, Read}
use Rattle.p3_driver_core.specs.Verifying.{ReadsNothing, EndsReading, RefusesEnd, FailsWork, Receives}
use Rattle.p3_fs_core.specs.Scalar as scalar
use denote.Ref.{Bor}

-- the numbers below the order, in four bytes each
abbrev numbers : Residues ℕ
numbers = record { order = 2013265921; number = λ x. x; of = λ n. n % 2013265921 }

abbrev encoded : Encoding ℕ
encoded = scalar.encoding numbers 31

abbrev kept : Observation (List ℕ) ℕ ℕ
kept = unrefused_observe (λ x. x ∷ []) (λ s x. x ∷ s)

-- bytes as they are
abbrev as_they_are : Alphabet (List ℕ) ℕ ℕ
as_they_are = alphabet_of (λ bytes. bytes) (λ _. ⊥) kept (λ _ _ _. ⊥)

-- a step of elements, whose label and digest show nowhere
abbrev step_of : Length → Step
step_of length = algebra_step Message (codes "xs") (algebra_of 2013265921 1 (replicate 32 0) (codes "BabyBear")) length

-- nothing is read for this reason; this is left, and this was absorbed
abbrev nothing_read : {A : Type 0} → List ℕ → List ℕ → (List ℕ → List ℕ) → Read (List ℕ) A
nothing_read reason left absorbed = Err (record { reason = reason; left = left; absorbed = absorbed })

-- ---- one value

abbrev read_one : List ℕ → Read (List ℕ) ℕ
read_one = (received (step_of Scalar) kept encoded).read

greatest : read_one (0x78 ∷ 0 ∷ 0 ∷ 0 ∷ 9 ∷ []) ≡ Ok (2013265920, 9 ∷ [])
greatest = refl

-- four bytes that are no element are passed, and three bytes are not
outside : read_one (0x78 ∷ 0 ∷ 0 ∷ 1 ∷ 9 ∷ [])
    ≡ nothing_read (codes "field encoding outside canonical range") (9 ∷ []) (λ s. s)
outside = refl

short : read_one (0x78 ∷ 0 ∷ 0 ∷ [])
    ≡ nothing_read (codes "NARG ended before all expected bytes were read") (0x78 ∷ 0 ∷ 0 ∷ []) (λ s. s)
short = refl

-- ---- lists

abbrev read_two : List ℕ → Read (List ℕ) (List ℕ)
read_two = (received_list (step_of (Fixed 2)) kept encoded 2).read

two_read : read_two (0 ∷ 0 ∷ 0 ∷ 7 ∷ 0x78 ∷ 0 ∷ 0 ∷ 0 ∷ []) ≡ Ok (7 ∷ 2013265920 ∷ [], [])
unfolding read_each
two_read = refl

-- of seven bytes none is passed
seven_bytes : read_two (0 ∷ 0 ∷ 0 ∷ 7 ∷ 0x78 ∷ 0 ∷ 0 ∷ [])
    ≡ nothing_read (codes "step declares more values than the wire holds") (0 ∷ 0 ∷ 0 ∷ 7 ∷ 0x78 ∷ 0 ∷ 0 ∷ []) (λ s. s)
seven_bytes = refl

-- a value before one that is none is absorbed
second_outside : read_two (0 ∷ 0 ∷ 0 ∷ 7 ∷ 0x78 ∷ 0 ∷ 0 ∷ 1 ∷ 9 ∷ [])
    ≡ nothing_read (codes "field encoding outside canonical range") (9 ∷ []) (λ s. 7 ∷ s)
unfolding read_each
second_outside = refl

-- ---- lists after their count

-- at most so many
abbrev read_at_most : ℕ → List ℕ → Read (List ℕ) (List ℕ)
read_at_most max = (received_bounded (step_of (Bounded max)) as_they_are max kept encoded).read

-- a count of four, where three are the most, is passed, and nothing is absorbed
count_over : read_at_most 3 (4 ∷ 9 ∷ [])
    ≡ nothing_read (codes "message length exceeds declared maximum") (9 ∷ []) (λ s. s)
unfolding count_width
count_over = refl

-- a count of two and seven bytes: the count is absorbed, and none of the bytes is passed
counted_seven_bytes : read_at_most 3 (2 ∷ 0 ∷ 0 ∷ 0 ∷ 7 ∷ 0x78 ∷ 0 ∷ 0 ∷ []) ≡ nothing_read
    (codes "step declares more values than the wire holds") (0 ∷ 0 ∷ 0 ∷ 7 ∷ 0x78 ∷ 0 ∷ 0 ∷ []) (λ s. 2 ∷ s)
unfolding count_width
counted_seven_bytes = refl

counted_two : read_at_most 3 (2 ∷ 0 ∷ 0 ∷ 0 ∷ 7 ∷ 0x78 ∷ 0 ∷ 0 ∷ 0 ∷ []) ≡ Ok (7 ∷ 2013265920 ∷ [], [])
unfolding count_width read_each
counted_two = refl

-- what follows them is left
counted_two_and_more : read_at_most 3 (2 ∷ 0 ∷ 0 ∷ 0 ∷ 7 ∷ 0x78 ∷ 0 ∷ 0 ∷ 0 ∷ 9 ∷ []) ≡ Ok (7 ∷ 2013265920 ∷ [], 9 ∷ [])
unfolding count_width read_each
counted_two_and_more = refl

counted_second_outside : read_at_most 3 (2 ∷ 0 ∷ 0 ∷ 0 ∷ 7 ∷ 0x78 ∷ 0 ∷ 0 ∷ 1 ∷ 9 ∷ [])
    ≡ nothing_read (codes "field encoding outside canonical range") (9 ∷ []) (λ s. 7 ∷ 2 ∷ s)
unfolding count_width read_each
counted_second_outside = refl

counted_none : read_at_most 3 (0 ∷ 9 ∷ []) ≡ Ok ([], 9 ∷ [])
unfolding count_width read_each
counted_none = refl

no_count : read_at_most 3 [] ≡ nothing_read (codes "NARG ended before all expected bytes were read") [] (λ s. s)
unfolding count_width
no_count = refl

-- a count of at most none takes no bytes
none_at_most : read_at_most 0 (9 ∷ []) ≡ Ok ([], 9 ∷ [])
unfolding count_width read_each
none_at_most = refl

-- the greatest count of eight bytes: no list is as long
greatest_count : read_at_most 18446744073709551615 (replicate 8 255) ≡ nothing_read
    (codes "step declares more values than the wire holds") [] (λ s. 255 ∷ 255 ∷ 255 ∷ 255 ∷ 255 ∷ 255 ∷ 255 ∷ 255 ∷ s)
unfolding count_width
greatest_count = refl

-- ---- bytes

abbrev read_message : ℕ → List ℕ → Read (List ℕ) (List ℕ)
read_message max = (received_bytes_bounded (codes "b") as_they_are max).read

abbrev read_hint : ℕ → List ℕ → Read (List ℕ) (List ℕ)
read_hint max = let reading : Reading (List ℕ) ℕ (List ℕ) = hint_received_bounded (codes "h") max in reading.read

message_read : read_message 3 (1 ∷ 10 ∷ 11 ∷ []) ≡ Ok (10 ∷ [], 11 ∷ [])
unfolding count_width
message_read = refl

message_over : read_message 3 (4 ∷ 10 ∷ [])
    ≡ nothing_read (codes "message length exceeds declared maximum") (10 ∷ []) (λ s. s)
unfolding count_width
message_over = refl

-- the count is passed, is not absorbed, and the byte is left
message_short : read_message 3 (2 ∷ 10 ∷ [])
    ≡ nothing_read (codes "NARG ended before all expected bytes were read") (10 ∷ []) (λ s. s)
unfolding count_width
message_short = refl

greatest_message : read_message 18446744073709551615 (replicate 8 255)
    ≡ nothing_read (codes "NARG ended before all expected bytes were read") [] (λ s. s)
unfolding count_width
greatest_message = refl

hint_read : read_hint 2 (1 ∷ 11 ∷ []) ≡ Ok (11 ∷ [], [])
unfolding count_width
hint_read = refl

hint_over : read_hint 2 (3 ∷ 11 ∷ []) ≡ nothing_read (codes "hint length exceeds declared maximum") (11 ∷ []) (λ s. s)
unfolding count_width
hint_over = refl

-- three bytes are asked for, and two are left: none is passed
salt_short : (received_bytes Message (codes "b") as_they_are 3).read (1 ∷ 2 ∷ [])
    ≡ nothing_read (codes "NARG ended before all expected bytes were read") (1 ∷ 2 ∷ []) (λ s. s)
salt_short = refl

-- ---- a verifier's steps

-- a verifier whose challenger was fed 9, and what it has left to read
abbrev verifying : Playing → List ℕ → List ℕ → Driving (List ℕ)
verifying playing challenger unread =
    record { transcript = record { challenger = challenger; playing = playing }; bytes = unread }

abbrev before : Playing → List ℕ → Driving (List ℕ)
before playing unread = verifying playing (9 ∷ []) unread

-- where a step was refused, nothing may follow
abbrev closed : Playing → Playing
closed playing = record { pattern = playing.pattern; position = playing.position; finished = true }

abbrev at_most_three : Reading (List ℕ) ℕ (List ℕ)
at_most_three = received_bounded (step_of (Bounded 3)) as_they_are 3 kept encoded

list_received : (playing : Playing) → IsNext playing at_most_three.interaction →
    Receives at_most_three (before playing (2 ∷ 0 ∷ 0 ∷ 0 ∷ 7 ∷ 0x78 ∷ 0 ∷ 0 ∷ 0 ∷ 1 ∷ [])) (7 ∷ 2013265920 ∷ [])
    (verifying (step_on playing) (2013265920 ∷ 7 ∷ 2 ∷ 9 ∷ []) (1 ∷ []))
unfolding count_width read_each
list_received playing next = record {
  is_next = next;
  read = refl;
  fits = (λ long. long, tt);
  gives = refl;
  challenger = refl;
  playing = refl;
}

-- a count of two and seven bytes
list_unread : (playing : Playing) → IsNext playing at_most_three.interaction → ReadsNothing at_most_three
    (before playing (2 ∷ 0 ∷ 0 ∷ 0 ∷ 7 ∷ 0x78 ∷ 0 ∷ 0 ∷ [])) (codes "step declares more values than the wire holds")
    (verifying (closed playing) (2 ∷ 9 ∷ []) (0 ∷ 0 ∷ 0 ∷ 7 ∷ 0x78 ∷ 0 ∷ 0 ∷ []))
unfolding count_width
list_unread playing next = record {
  failure = record {
    reason = codes "step declares more values than the wire holds";
    left = 0 ∷ 0 ∷ 0 ∷ 7 ∷ 0x78 ∷ 0 ∷ 0 ∷ [];
    absorbed = λ s. 2 ∷ s;
  };
  is_next = next;
  read = refl;
  reason_is = refl;
  unread = refl;
  challenger = refl;
  finished = refl;
}

-- a byte is left once all steps are played
byte_left : (playing : Playing) (reason : Bor (List ℕ)) → IsPlayed playing → reason.now ≡ codes
    "trailing NARG bytes after final verifier step" → RefusesEnd (before playing (1 ∷ [])) (BadProofShape reason)
byte_left playing reason played is = (played, (λ none. cc), is)

none_left : (playing : Playing) → IsPlayed playing → EndsReading (before playing [])
none_left playing played = record { played = played; whole = refl }

-- ---- proof of work

-- bits are drawn of the sum of all that was fed, and a draw leaves a 0
abbrev total : List ℕ → ℕ
total [] = 0
total (x ∷ xs) = x + total xs

abbrev next_bits : ℕ → Sampling (List ℕ) ℕ
next_bits bits = unrefused_draw (λ s. Some (total s % 2 ^ bits)) (λ s. 0 ∷ s)

abbrev work : ℕ → Work (List ℕ) ℕ ℕ
work bits =
    work_of (algebra_step Pow (codes "w") (algebra_of 2013265921 1 (replicate 32 0) (codes "BabyBear")) (Fixed bits)) numbers
    draws_nothing kept next_bits bits

-- of three bits: 9 and 15 are 24, though 9 and 7 would do
fifteen_passes : (playing : Playing) → IsNext playing (work 3).interaction → Receives (received_work (work 3) encoded)
    (before playing (0 ∷ 0 ∷ 0 ∷ 15 ∷ 1 ∷ [])) 15 (verifying (step_on playing) (0 ∷ 15 ∷ 9 ∷ []) (1 ∷ []))
fifteen_passes playing next =
    record { is_next = next; read = refl; fits = tt; gives = refl; challenger = refl; playing = refl }

-- 9 and 8 are not: the witness is read and checked
eight_fails : (playing : Playing) (reason : Bor (List ℕ)) → IsNext playing (work 3).interaction →
    reason.now ≡ codes "pow witness does not produce enough zero bits" →
    FailsWork (work 3) encoded (before playing (0 ∷ 0 ∷ 0 ∷ 8 ∷ 1 ∷ [])) (BadProofShape reason)
    (verifying (closed playing) (0 ∷ 8 ∷ 9 ∷ []) (1 ∷ []))
eight_fails playing reason next is = record {
  witness = 8;
  read = refl;
  fails = record {
    reason_is = is;
    abandons = record { is_next = next; leaves = (refl, refl); finished = refl };
  };
}

-- of no bits: a witness is read all the same, and the challenger is as it was
any_passes : (playing : Playing) → IsNext playing (work 0).interaction → Receives (received_work (work 0) encoded)
    (before playing (0 ∷ 0 ∷ 0 ∷ 5 ∷ [])) 5 (verifying (step_on playing) (9 ∷ []) [])
any_passes playing next =
    record { is_next = next; read = refl; fits = tt; gives = refl; challenger = refl; playing = refl }

-- and bytes that are none are passed and refused
none_passes : (received_work (work 0) encoded).read (0x78 ∷ 0 ∷ 0 ∷ 1 ∷ [])
    ≡ nothing_read (codes "field encoding outside canonical range") [] (λ s. s)
none_passes = refl
