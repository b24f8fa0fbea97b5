-- Worked rows of steps over a duplex challenger, computed on the definitions: three cells of the field of order 257, of
-- which two are the rate, under a turn by two places, which makes (c + 1, a + 2, b + 3) of the cells (a, b, c). The
-- cells are (6, 2, 131), and both outputs are left: so a separator with no chunk leaves them, of any name and pattern.
use Rattle.std.proofs.Common.{◌≡◌, ◌≤◌, ◌==◌, ◌||◌, ℕ, Bool, false, not, List, [], ◌∷◌, map, replicate, codes, Option}
use Rattle.std.{proofs.Common.{Some, None, refl}, specs.Option.option_map}
use Rattle.p3_small_primes.specs.F257Residues.{F257, residues}
use Rattle.p3_symmetric.specs.Turn.{turned}
use Rattle.p3_challenger_core.specs.Sampling.{unrefused_draw, after_draws, Sampling, draws}
use Rattle.p3_challenger_core.specs.Observation.{unrefused_observe, Observation}
use Rattle.p3_fs_core.specs.{Encoding.Encoding, Packing.{packed, first_chunks}, Steps.{Step, algebra_of, algebra_step}}
use Rattle.p3_fs_core.specs.declared.step.{Kind.{Kind, TheVariants.{Message, Salt, Challenge}}, Length.Length}
use Rattle.p3_fs_core.specs.{declared.step.Length.TheVariants.{Scalar, Fixed, Bounded}, BigEndian.count_width}
use Rattle.p3_fs_core.specs.Alphabet.{Alphabet, alphabet_of}
use Rattle.p3_duplex.specs.DuplexCalls.{DuplexSponge, duplex}
use Rattle.p3_driver_core.specs.Meanings.{observed_bounded, observed_list, sent_bounded, sent_bytes, drawn_list, hinted}
use Rattle.p3_driver_core.specs.{Meanings.sent, Rejecting.{drawn_rejecting, taken, keeps, Rule}, Transcripts.Meaning}
use Rattle.p3_fs_core.specs.Scalar as scalar
use Rattle.p3_sponge.specs.SpongeCalls as sponge

abbrev Sponge : Type 0
Sponge = DuplexSponge F257

abbrev start : Sponge
start =
    record { cells = residues.of 6 ∷ residues.of 2 ∷ residues.of 131 ∷ []; pending = []; outputs_left = 2 }

abbrev value : Observation Sponge F257 F257
value = unrefused_observe (λ x. x ∷ []) (sponge.observed (duplex residues (turned residues 2 3) 2))

abbrev draw : Sampling Sponge F257
draw =
    unrefused_draw (λ s. Some (sponge.sampled (duplex residues (turned residues 2 3) 2) s))
    (sponge.after_sampled (duplex residues (turned residues 2 3) 2))

abbrev in_field : Alphabet Sponge F257 F257
in_field = alphabet_of (packed residues 1) (λ len. 257 ≤ len) value (λ _ _ _. ⊥)

abbrev encoded : Encoding F257
encoded = scalar.encoding residues 9

-- a step of elements, whose label and digest show nowhere
abbrev step_of : Kind → Length → Step
step_of kind length = algebra_step kind (codes "x") (algebra_of 257 1 (replicate 32 0) (codes "F257")) length

-- the numbers of a list of elements
abbrev numbers : List ℕ → List F257
numbers ns = map residues.of ns

-- the bytes of a step, and the numbers of the two draws after it
abbrev goes : {A : Type 0} → Meaning Sponge F257 A → List ℕ × ℕ × ℕ
goes m =
    let s = m.effect.after start in
    let next = sponge.after_sampled (duplex residues (turned residues 2 3) 2) s in (
      m.wire,
      residues.number (sponge.sampled (duplex residues (turned residues 2 3) 2) s),
      residues.number (sponge.sampled (duplex residues (turned residues 2 3) 2) next),
    )

-- ---- steps that feed

five : goes (sent (step_of Message Scalar) value encoded (residues.of 5)) ≡ (0 ∷ 5 ∷ [], 7, 133)
five = refl

greatest : goes (sent (step_of Message Scalar) value encoded (residues.of 256)) ≡ (1 ∷ 0 ∷ [], 1, 133)
greatest = refl

-- 5 and 256, of at most three
two_of_three : goes (sent_bounded (step_of Message (Bounded 3)) in_field 3 value encoded (numbers (5 ∷ 256 ∷ [])))
    ≡ (2 ∷ 0 ∷ 5 ∷ 1 ∷ 0 ∷ [], 7, 8)
unfolding count_width first_chunks
two_of_three = refl

-- the same where the proof does not carry them
two_carried : goes (observed_bounded (step_of Message (Bounded 3)) in_field 3 value (numbers (5 ∷ 256 ∷ []))) ≡
    ([], 7, 8)
unfolding count_width first_chunks
two_carried = refl

-- without their count the first draw is the same, and the second one is not
two_with_no_count : goes (observed_list (step_of Message (Fixed 2)) value (numbers (5 ∷ 256 ∷ []))) ≡ ([], 7, 134)
two_with_no_count = refl

none_of_three : goes (sent_bounded (step_of Message (Bounded 3)) in_field 3 value encoded []) ≡ (0 ∷ [], 3, 134)
unfolding count_width first_chunks
none_of_three = refl

none_of_none : goes (sent_bounded (step_of Message (Bounded 0)) in_field 0 value encoded []) ≡ ([], 2, 133)
unfolding count_width first_chunks
none_of_none = refl

salt_of_two : goes (sent_bytes Salt (codes "salt") in_field (1 ∷ 2 ∷ [])) ≡ (1 ∷ 2 ∷ [], 4, 6)
unfolding first_chunks
salt_of_two = refl

-- a hint leaves the draws as they are
hint_of_one : goes {A = List ℕ} (hinted (codes "h") (255 ∷ [])) ≡ (255 ∷ [], 2, 6)
hint_of_one = refl

-- ---- steps that draw

-- the numbers that a step draws, and those of the two draws after it
abbrev draws_then : Meaning Sponge F257 (List F257) → Option (List ℕ) × ℕ × ℕ
draws_then m = let rest = goes m in (option_map (map residues.number) (m.effect.gives start), rest.1, rest.2)

six_drawn : draws_then (drawn_list (step_of Challenge (Fixed 6)) draw 6)
    ≡ (Some (2 ∷ 6 ∷ 8 ∷ 132 ∷ 134 ∷ 6 ∷ []), 8, 12)
unfolding draws after_draws
six_drawn = refl

-- a rule that takes nothing
none_taken : draws_then (drawn_rejecting (step_of Challenge (Fixed 2)) draw (λ _ _. false) 5 2) ≡ (None, 6, 8)
unfolding taken keeps
none_taken = refl

-- elements that differ
abbrev is_among : F257 → List F257 → Bool
is_among x [] = false
is_among x (y ∷ ys) = residues.number x == residues.number y || is_among x ys

abbrev distinct : Rule F257
distinct x kept = not (is_among x kept)

abbrev distinct_of : ℕ → ℕ → Option (List ℕ) × ℕ × ℕ
distinct_of limit n = draws_then (drawn_rejecting (step_of Challenge (Fixed n)) draw distinct limit n)

five_distinct : distinct_of 1 5 ≡ (Some (2 ∷ 6 ∷ 8 ∷ 132 ∷ 134 ∷ []), 6, 8)
unfolding taken keeps
five_distinct = refl

-- the sixth and the seventh element are 6 and 8 again
sixth_refused : distinct_of 1 6 ≡ (None, 8, 12)
unfolding taken keeps
sixth_refused = refl

six_distinct : (distinct_of 3 6).0 ≡ Some (2 ∷ 6 ∷ 8 ∷ 132 ∷ 134 ∷ 12 ∷ [])
unfolding taken keeps
six_distinct = refl
