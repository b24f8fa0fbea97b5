-- The effect of a sumcheck's rounds on its claim, and the true rounds of a table.
use Rattle.std.specs.Prelude.{◌≡◌, List, [], ◌∷◌, ◌⊎◌}
use Rattle.p3_field.specs.Residues.{Residues, sum_of}
use Rattle.p3_sumcheck.specs.{declared.round.Round.Round, Tables.{folded, high_half, low_half, total, value_at}}

-- the claim after a round: the value at the challenge of the line through the pair at 0 and 1
abbrev pub claim_after : {F : Type 0} → Residues F → Round F → F
claim_after r round = value_at r round.challenge round.first round.second

-- a round leads from one claim to the next: its pair adds up to the first claim, and the second is
-- the claim after it
abbrev pub Reduces : {F : Type 0} → Residues F → F → Round F → F → Type 0
Reduces r x round y = (sum_of r round.first round.second ≡ x) × (y ≡ claim_after r round)

-- the true pair of a table: the sums of its two halves
abbrev pub true_pair : {F : Type 0} → Residues F → List F → List F
true_pair r table = total r (low_half table) ∷ total r (high_half table) ∷ []

-- the true round at a challenge
abbrev pub true_round : {F : Type 0} → Residues F → List F → F → Round F
true_round r table x = record { first = total r (low_half table); second = total r (high_half table); challenge = x }

-- the true rounds of a table at a point, each of the table folded so far
abbrev pub true_rounds : {F : Type 0} → Residues F → List F → List F → List (Round F)
true_rounds r table [] = []
true_rounds r table (x ∷ point) = true_round r table x ∷ true_rounds r (folded r x table) point

-- The pair of some round differs from the true pair of the table folded so far, and yet the round's
-- challenge gives both the same claim.
abbrev pub HasLuckyRound : {F : Type 0} → Residues F → List F → List (Round F) → Type 0
HasLuckyRound r table [] = ⊥
HasLuckyRound r table (round ∷ rounds) = let truth = true_round r table round.challenge in ((round ≡ truth → ⊥)
    × (claim_after r round ≡ claim_after r truth)) ⊎ HasLuckyRound r (folded r round.challenge table) rounds
