-- Worked rows of uniform bits and of searches, computed on the definitions: three cells, of which two are the rate,
-- under turns by one place and by two, which make (b + 1, c + 2, a + 3) and (c + 1, a + 2, b + 3) of the cells (a, b,
-- c).
use Rattle.std.proofs.Common.{◌≡◌, ℕ, Bool, true, false, List, [], ◌∷◌, Option, Some, None, refl}
use Rattle.p3_field_core.specs.Residues.{Residues}
use Rattle.p3_small_primes.specs.BabyBearResidues.{BabyBear}
use Rattle.p3_symmetric.specs.Turn.{turned}
use Rattle.p3_challenger_core.specs.Observation.{observed_all}
use Rattle.p3_grinding.specs.{Candidates.{first_accepted, after_first_accepted}, UniformDraws.UniformDraw}
use Rattle.p3_grinding.specs.declared.error.ResamplingError.{ResamplingError}
use Rattle.p3_duplex.specs.{DuplexCalls.fresh, DuplexState.{DuplexState, observed, sampled}, DuplexUniform.uniform_bits}
use Rattle.p3_small_primes.specs.BabyBearResidues as baby_bear
use Rattle.p3_small_primes.specs.F257Residues as f257

-- a challenger, by the number of places that its permutation turns
abbrev Challenger : Type 0 → Type 0
Challenger F = DuplexState F ℕ

abbrev new : {F : Type 0} → Residues F → ℕ → ℕ → Challenger F
new r places draw_limit = record { sponge = fresh r 3; permutation = places; draw_limit = draw_limit }

abbrev turn : {F : Type 0} → Residues F → ℕ → List F → List F
turn r places cells = turned r places 3 cells

abbrev after_observing : List ℕ → Challenger BabyBear → Challenger BabyBear
after_observing numbers c =
    observed_all (λ s n. observed baby_bear.residues (turn baby_bear.residues) 2 s (baby_bear.residues.of n)) c numbers

abbrev next_draw : Challenger BabyBear → ℕ
next_draw c = baby_bear.residues.number (sampled baby_bear.residues (turn baby_bear.residues) 2 c)

abbrev bits_of : Bool → ℕ → UniformDraw (Challenger BabyBear)
bits_of resample bits = uniform_bits baby_bear.residues (turn baby_bear.residues) 2 resample 27 bits

abbrev rejects : ℕ → Option ResamplingError
rejects number = Some (record { value = number; m = 2013265920 })

-- ---- the largest element is drawn first

abbrev before_largest : ℕ → Challenger BabyBear
before_largest draw_limit = after_observing (2013265918 ∷ []) (new baby_bear.residues 2 draw_limit)

rejected_alone : (bits_of false 4).rejects (before_largest 1) ≡ rejects 2013265920
rejected_alone = refl

limit_of_one : (bits_of true 4).draw.sampled (before_largest 1) ≡ None
unfolding first_accepted after_first_accepted
limit_of_one = refl

drawn_after_limit : next_draw ((bits_of true 4).draw.after (before_largest 1)) ≡ 2
unfolding first_accepted after_first_accepted
drawn_after_limit = refl

limit_of_two : (bits_of true 4).draw.sampled (before_largest 2) ≡ Some 2
unfolding first_accepted after_first_accepted
limit_of_two = refl

-- ---- and second, for the high half of 28 bits

abbrev before_other_and_largest : ℕ → Challenger BabyBear
before_other_and_largest draw_limit = after_observing (7 ∷ 2013265919 ∷ []) (new baby_bear.residues 1 draw_limit)

high_half_rejected : (bits_of false 28).rejects (before_other_and_largest 1) ≡ rejects 2013265920
high_half_rejected = refl

drawn_after_rejected : next_draw ((bits_of false 28).draw.after (before_other_and_largest 1)) ≡ 12
drawn_after_rejected = refl

high_half_limit : (bits_of true 28).draw.sampled (before_other_and_largest 1) ≡ None
unfolding first_accepted after_first_accepted
high_half_limit = refl

drawn_after_high_limit : next_draw ((bits_of true 28).draw.after (before_other_and_largest 1)) ≡ 12
unfolding first_accepted after_first_accepted
drawn_after_high_limit = refl

both_halves : (bits_of true 28).draw.sampled (before_other_and_largest 2) ≡ Some 196612
unfolding first_accepted after_first_accepted
both_halves = refl

drawn_after_both : next_draw ((bits_of true 28).draw.after (before_other_and_largest 2)) ≡ 5
unfolding first_accepted after_first_accepted
drawn_after_both = refl
