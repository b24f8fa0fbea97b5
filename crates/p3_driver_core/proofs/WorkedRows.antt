-- Worked rows, computed on the definitions: a challenger that keeps the numbers that it is fed, or whose state is the
-- numbers that are still to be drawn.
use Rattle.std.proofs.Common.{◌≡◌, ℕ, ◌%◌, ◌==◌, ◌||◌, Bool, false, not, List, [], ◌∷◌, ◌++◌, Option, Some, None, arith}
use Rattle.std.proofs.Common.{codes, refl}
use Rattle.p3_field_core.specs.Residues.{Residues}
use Rattle.p3_challenger_core.specs.{Observation.{Observation, unrefused_observe}, Sampling.{Sampling, draws}}
use Rattle.p3_challenger_core.specs.Sampling.{after_draws}
use Rattle.p3_fs_core.specs.declared.step.{Kind.TheVariants.{Message, Salt}, Length.TheVariants.{Fixed, Bounded}}
use Rattle.p3_fs_core.specs.{Encoding.Encoding, Packing.{packed, first_chunks}, Alphabet.{Alphabet, alphabet_of}}
use Rattle.p3_fs_core.specs.{Steps.{Step, algebra_of, algebra_step}, BigEndian.{count_width, count_bytes}}
use Rattle.p3_driver_core.specs.{Effects.{drawing_list, drawing, Effect}, Meanings.sent_bytes_bounded}
use Rattle.p3_driver_core.specs.Meanings.{observed_bounded, hinted_bounded, sent_bounded, sent_bytes, hinted, sent}
use Rattle.p3_driver_core.specs.{Rejecting.{drawing_rejecting, taken, keeps, Rule}, Transcripts.IsOtherLength}
use Rattle.p3_driver_core.specs.Transcripts.{bytes_step, Meaning}
use Rattle.p3_fs_core.specs.Scalar as scalar

-- ---- counts

widths : (count_width 0 ≡ 0) × (count_width 1 ≡ 1) × (count_width 255 ≡ 1) × (count_width 256 ≡ 2)
    × (count_width 65535 ≡ 2) × (count_width 65536 ≡ 3) × (count_width 16777215 ≡ 3) × (count_width 16777216 ≡ 4)
unfolding count_width
widths = (refl, refl, refl, refl, refl, refl, refl, refl)

-- a count of two of at most three, none of none, and five of at most 256
counts : (count_bytes 3 2 ≡ 2 ∷ []) × (count_bytes 0 0 ≡ []) × (count_bytes 256 5 ≡ 0 ∷ 5 ∷ [])
unfolding count_width
counts = (refl, refl, refl)

-- ---- steps that feed

-- the numbers below 257, in two bytes each
abbrev numbers : Residues ℕ
numbers = record { order = 257; number = λ x. x; of = λ n. n % 257 }

abbrev encoded : Encoding ℕ
encoded = scalar.encoding numbers 9

-- each number is kept as it is
abbrev kept : Observation (List ℕ) ℕ ℕ
kept = unrefused_observe (λ x. x ∷ []) (λ s x. s ++ (x ∷ []))

-- bytes as numbers below 257: their length, and then each by itself; and bytes as they are
abbrev in_field : Alphabet (List ℕ) ℕ ℕ
in_field = alphabet_of (packed numbers 1) (λ _. ⊥) kept (λ _ _ _. ⊥)

abbrev as_they_are : Alphabet (List ℕ) ℕ ℕ
as_they_are = alphabet_of (λ bytes. bytes) (λ _. ⊥) kept (λ _ _ _. ⊥)

abbrev list_step : Step
list_step = algebra_step Message (codes "xs") (algebra_of 257 1 (codes "prime:257") (codes "F257")) (Bounded 3)

-- what a step feeds a challenger that was fed 9 before, and its bytes in the proof
abbrev after_nine : {A : Type 0} → Meaning (List ℕ) ℕ A → List ℕ
after_nine m = m.effect.after (9 ∷ [])

five_sent : let m = sent list_step kept encoded 5 in
    (m.wire ≡ 0 ∷ 5 ∷ []) × (m.effect.symbols ≡ 5 ∷ []) × (after_nine m ≡ 9 ∷ 5 ∷ [])
five_sent = (refl, refl, refl)

greatest_sent : (sent list_step kept encoded 256).wire ≡ 1 ∷ 0 ∷ []
greatest_sent = refl

-- 5 and 256 after their count, of at most three
two_sent : let m = sent_bounded list_step in_field 3 kept encoded (5 ∷ 256 ∷ []) in
    (m.wire ≡ 2 ∷ 0 ∷ 5 ∷ 1 ∷ 0 ∷ []) × (m.effect.symbols ≡ 1 ∷ 2 ∷ 5 ∷ 256 ∷ [])
    × (after_nine m ≡ 9 ∷ 1 ∷ 2 ∷ 5 ∷ 256 ∷ []) × (m.effect.gives [] ≡ Some (5 ∷ 256 ∷ []))
unfolding count_width first_chunks
two_sent = (refl, refl, refl, refl)

-- a list that the proof does not carry feeds the same
two_observed : let m = observed_bounded list_step in_field 3 kept (5 ∷ 256 ∷ []) in
    (m.wire ≡ []) × (m.effect.symbols ≡ 1 ∷ 2 ∷ 5 ∷ 256 ∷ [])
unfolding count_width first_chunks
two_observed = (refl, refl)

-- no values, of at most three and of at most none
none_of_three : let m = sent_bounded list_step in_field 3 kept encoded [] in
    (m.wire ≡ 0 ∷ []) × (m.effect.symbols ≡ 1 ∷ 0 ∷ [])
unfolding count_width first_chunks
none_of_three = (refl, refl)

none_of_none : let m = sent_bounded list_step in_field 0 kept encoded [] in
    (m.wire ≡ []) × (m.effect.symbols ≡ 0 ∷ [])
unfolding count_width first_chunks
none_of_none = (refl, refl)

-- bytes as they are have no symbol for a count of none
none_as_they_are : (sent_bounded list_step as_they_are 0 kept encoded []).effect.symbols ≡ []
unfolding count_width
none_as_they_are = refl

-- a byte string, after its count
byte_sent : let m = sent_bytes_bounded Message (codes "b") as_they_are 3 (10 ∷ []) in
    (m.wire ≡ 1 ∷ 10 ∷ []) × (m.effect.symbols ≡ 1 ∷ 10 ∷ [])
unfolding count_width
byte_sent = (refl, refl)

salt_sent : let m = sent_bytes Salt (codes "salt") in_field (1 ∷ 2 ∷ []) in
    (m.wire ≡ 1 ∷ 2 ∷ []) × (m.effect.symbols ≡ 2 ∷ 1 ∷ 2 ∷ [])
unfolding first_chunks
salt_sent = (refl, refl)

-- hints are written and not fed
hint_sent : let m : Meaning (List ℕ) ℕ (List ℕ) = hinted (codes "h") (255 ∷ []) in
    (m.wire ≡ 255 ∷ []) × (m.effect.symbols ≡ []) × (after_nine m ≡ 9 ∷ [])
hint_sent = (refl, refl, refl)

bounded_hint_sent : let m : Meaning (List ℕ) ℕ (List ℕ) = hinted_bounded (codes "h") 16 [] in
    (m.wire ≡ 0 ∷ []) × (after_nine m ≡ 9 ∷ [])
unfolding count_width
bounded_hint_sent = (refl, refl)

-- ---- steps that draw

-- the first number that is left; where none is, the limit is met
abbrev first_left : List ℕ → Option ℕ
first_left [] = None
first_left (x ∷ xs) = Some x

abbrev without_first : List ℕ → List ℕ
without_first [] = []
without_first (x ∷ xs) = xs

abbrev supply : Sampling (List ℕ) ℕ
supply = record { sampled = first_left; after = without_first; meets_limit = λ s. s ≡ []; may_leave = λ _ _. ⊥ }

-- what comes of draws, and what is left
abbrev comes : {A : Type 0} → Effect (List ℕ) ℕ A → List ℕ → Option A × List ℕ
comes effect s = (effect.gives s, effect.after s)

one_drawn : comes (drawing supply) (7 ∷ 8 ∷ []) ≡ (Some 7, 8 ∷ [])
one_drawn = refl

two_drawn : comes (drawing_list supply 2) (7 ∷ 8 ∷ 9 ∷ []) ≡ (Some (7 ∷ 8 ∷ []), 9 ∷ [])
unfolding draws after_draws
two_drawn = refl

limit_met : comes (drawing_list supply 3) (7 ∷ 8 ∷ []) ≡ (None, [])
unfolding draws after_draws
limit_met = refl

-- ---- draws that a rule may refuse

abbrev is_among : ℕ → List ℕ → Bool
is_among x [] = false
is_among x (y ∷ ys) = x == y || is_among x ys

-- numbers that differ
abbrev distinct : Rule ℕ
distinct x kept_so_far = not (is_among x kept_so_far)

-- so many of them, where at most so many in a row may be refused
abbrev distinct_of : ℕ → ℕ → List ℕ → Option (List ℕ) × List ℕ
distinct_of limit n s = comes (drawing_rejecting supply distinct limit n) s

one_refused : distinct_of 2 2 (4 ∷ 4 ∷ 7 ∷ 9 ∷ []) ≡ (Some (4 ∷ 7 ∷ []), 9 ∷ [])
unfolding taken keeps
one_refused = refl

-- the count of the refused begins anew with each that is kept
two_refused : distinct_of 2 3 (4 ∷ 4 ∷ 7 ∷ 7 ∷ 9 ∷ []) ≡ (Some (4 ∷ 7 ∷ 9 ∷ []), [])
unfolding taken keeps
two_refused = refl

-- two refused in a row meet a limit of two, with no further draw
two_in_a_row : distinct_of 2 2 (4 ∷ 4 ∷ 4 ∷ 7 ∷ []) ≡ (None, 7 ∷ [])
unfolding taken keeps
two_in_a_row = refl

-- none are kept of none that may be drawn, and nothing is drawn where none are asked for
limit_of_none : distinct_of 0 1 (4 ∷ []) ≡ (None, 4 ∷ [])
unfolding taken keeps
limit_of_none = refl

none_asked_for : distinct_of 2 0 (4 ∷ []) ≡ (Some [], 4 ∷ [])
unfolding keeps
none_asked_for = refl

-- a rule that takes nothing meets its limit after so many draws
none_taken : comes (drawing_rejecting supply (λ _ _. false) 3 1) (4 ∷ 5 ∷ 6 ∷ 7 ∷ []) ≡ (None, 7 ∷ [])
unfolding taken keeps
none_taken = refl

-- ---- lists that a caller carries

-- the next step has three bytes: four values are another number, and three are not
abbrev three_bytes : Option Step
three_bytes = Some (bytes_step Salt (codes "salt") (Fixed 3))

four_for_three : IsOtherLength 4 three_bytes
four_for_three same = absurd (omega (arith, same))

three_for_three : IsOtherLength 3 three_bytes → ⊥
three_for_three other = other refl

-- where the next step says no number, or there is none, no number is another one
four_at_most_three : IsOtherLength 4 (Some list_step) → ⊥
four_at_most_three other = other

four_for_none : IsOtherLength 4 None → ⊥
four_for_none other = other
