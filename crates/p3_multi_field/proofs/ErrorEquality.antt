-- Errors compare equal exactly where they say the same.
use Rattle.std.proofs.{Common.{◌≡◌, ◌↔◌, ℕ, true, List, Bor}, lemmas.Bool.Decides.{Decides-and, Decides-eqb}}
use Rattle.std.specs.Cmp.Lexicographic.{bytes_decides}
use Rattle.p3_multi_field.specs.declared.error.MultiField32ChallengerError.{MultiField32ChallengerError}
use Rattle.p3_multi_field.specs.declared.error.MultiField32ChallengerError.TheVariants.{FieldOrderNotIncreasing}
use Rattle.p3_multi_field.specs.declared.error.MultiField32ChallengerError.TheVariants.{AbsorbLengthTagOverflow}
use Rattle.p3_multi_field.specs.Refusals.{SaySame}
use Rattle.std.specs.contracts.prelude.RefStrPartialEq.TheImpl as texts
use Rattle.std.specs.contracts.prelude.UsizePartialEq.TheImpl as numbers
use Rattle.p3_multi_field.specs.contracts.error.MultiField32ChallengerErrorPartialEq.TheImpl as errors

equal_texts : (a b : Bor (List ℕ)) → (texts.ghosts.eq a b ≡ true ↔ a.now ≡ b.now)
equal_texts a b = bytes_decides a.now b.now

equal_numbers : (m n : ℕ) → (numbers.ghosts.eq m n ≡ true ↔ m ≡ n)
equal_numbers = Decides-eqb

pub equal_errors : (a b : MultiField32ChallengerError) → (errors.ghosts.eq a b ≡ true ↔ SaySame a b)
equal_errors (FieldOrderNotIncreasing i s) (FieldOrderNotIncreasing j t) =
    Decides-and _ _ (equal_texts i j) (equal_texts s t)
equal_errors (AbsorbLengthTagOverflow m n) (AbsorbLengthTagOverflow o p) =
    Decides-and _ _ (equal_numbers m o) (equal_numbers n p)
equal_errors (FieldOrderNotIncreasing i s) (AbsorbLengthTagOverflow o p) = (λ e. cc, λ e. absurd e)
equal_errors (AbsorbLengthTagOverflow m n) (FieldOrderNotIncreasing j t) = (λ e. cc, λ e. absurd e)
