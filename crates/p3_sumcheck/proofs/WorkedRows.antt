-- Worked rows, computed on the definitions: the table 1, 2, 3, 4 over the field of order 257, whose challenges are drawn
-- of three cells, of which two are the rate, under a turn by two places.
use Rattle.std.{proofs.Common.{◌≡◌, ℕ, List, [], ◌∷◌, inl, map, refl, ap}, specs.List.flat_map}
use Rattle.p3_challenger.specs.{DuplexCalls.{DuplexSponge, duplex_by_calls}, Turn.turned, Rounds.AreRounds}
use Rattle.p3_challenger.specs.Segments.{Call, draw, observe, run_calls}
use Rattle.p3_field.specs.F257Residues.{F257, residues}
use Rattle.p3_sumcheck.specs.{Claims.{HasLuckyRound, Reduces, claim_after, true_rounds}, Sumchecks.pair_of}
use Rattle.p3_sumcheck.specs.{Tables.{folded_at, total}, declared.round.Round.Round}
use Rattle.p3_challenger.specs.Scalar as scalar

abbrev elements : List ℕ → List F257
elements numbers = map residues.of numbers

abbrev table : List F257
table = elements (1 ∷ 2 ∷ 3 ∷ 4 ∷ [])

abbrev point : List F257
point = elements (5 ∷ 13 ∷ [])

abbrev round : ℕ → ℕ → ℕ → Round F257
round first second challenge =
    record { first = residues.of first; second = residues.of second; challenge = residues.of challenge }

abbrev saw : ℕ → Call F257
saw n = observe (residues.of n)

-- the rounds of the table, its sum, and its value at the point
rounds_of_four : true_rounds residues table point ≡ round 3 7 5 ∷ round 11 12 13 ∷ []
rounds_of_four = refl

sum_of_four : total residues table ≡ residues.of 10
sum_of_four = refl

value_of_four : folded_at residues point table ≡ elements (24 ∷ [])
value_of_four = refl

-- a table of one value is its own value, with no rounds
value_of_one : folded_at residues [] (elements (9 ∷ [])) ≡ elements (9 ∷ [])
value_of_one = refl

-- these rounds bring 10 to 24, over 23
reduced : AreRounds (Reduces residues) (residues.of 10) (round 3 7 5 ∷ round 11 12 13 ∷ []) (residues.of 24)
reduced = (residues.of 23, (refl, refl), (residues.of 24, (refl, refl), refl))

-- their bytes
bytes_of_four : flat_map (λ r. flat_map (scalar.wire residues 2) (pair_of r)) (true_rounds residues table point)
    ≡ 0 ∷ 3 ∷ 0 ∷ 7 ∷ 0 ∷ 11 ∷ 0 ∷ 12 ∷ []
bytes_of_four = refl

-- from the cells that the seed leaves, 5 is drawn after 3 and 7, and 13 after 11 and 12
abbrev seeded : DuplexSponge F257
seeded = record { cells = elements (6 ∷ 2 ∷ 131 ∷ []); pending = []; outputs_left = 0 }

drawn_of_four : map residues.number (run_calls (duplex_by_calls residues (turned residues 2 3) 2) seeded
    (saw 3 ∷ saw 7 ∷ draw ∷ saw 11 ∷ saw 12 ∷ draw ∷ [])).answers ≡ 5 ∷ 13 ∷ []
drawn_of_four = refl

-- The pair 8, 11 is not the true one, and is that of the claim 19; where 5 is drawn, it leaves the same claim as the
-- true one, and so the first round is lucky.
same_claim : claim_after residues (round 8 11 5) ≡ claim_after residues (round 3 7 5)
same_claim = refl

lucky : HasLuckyRound residues table (round 8 11 5 ∷ round 11 12 13 ∷ [])
lucky = inl (λ same. let no : 8 ≡ 3 = ap (λ (r : Round F257). residues.number r.first) same in absurd (cc), refl)
