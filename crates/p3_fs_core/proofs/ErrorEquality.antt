-- Errors compare equal exactly where they say one thing.
use Rattle.std.proofs.Common.{◌≡◌, ◌↔◌, ℕ, true, false, true≢false, ◌==◌, refl, sym, ap, arith, rules}
use Rattle.std.proofs.lemmas.Bool.Decides.{Decides-and, Decides-like, Decides-eqb, nat_tests}
use Rattle.p3_challenger_core.specs.declared.error.ChallengerError.{ChallengerError}
use Rattle.p3_fs_core.specs.declared.error.{PatternError.PatternError, PatternError.TheVariants.OverCap}
use Rattle.p3_fs_core.specs.declared.error.PatternError.TheVariants.{Finished, NoMoreSteps, WrongStep, Unplayed}
use Rattle.p3_fs_core.specs.declared.{error.TranscriptError.TranscriptError, interaction.Interaction.Interaction}
use Rattle.p3_fs_core.specs.declared.error.TranscriptError.TheVariants.{MissingBegin, InvalidKind, MismatchedBeginEnd}
use Rattle.p3_fs_core.specs.declared.error.TranscriptError.TheVariants.{MissingEnd, BadProofShape, Pattern}
use Rattle.p3_fs_core.specs.declared.error.TranscriptError.TheVariants.{Challenger, LabelTooLong, OutOfMemory}
use Rattle.p3_fs_core.specs.Errors.{missing_begin, invalid_kind, mismatched_begin_end, missing_end, Refusal, fault}
use Rattle.p3_fs_core.specs.Errors.{bad_proof_shape, pattern_error, challenger_refused, label_too_long, out_of_memory}
use Rattle.p3_fs_core.specs.{Errors.{pattern_error_of, refusal_of}, Steps.Step}
use Rattle.p3_fs_core.proofs.StepEquality.{equal_steps, equal_texts}
use Rattle.std.specs.contracts.prelude.UsizePartialEq.TheImpl as numbers
use Rattle.p3_challenger_core.specs.contracts.error.ChallengerErrorPartialEq.TheImpl as challengers
use Rattle.p3_fs_core.specs.contracts.interaction.Interaction as interaction_type
use Rattle.p3_fs_core.specs.contracts.interaction.InteractionPartialEq.TheImpl as interactions
use Rattle.p3_fs_core.specs.contracts.error.PatternErrorPartialEq.TheImpl as pattern_errors_compared
use Rattle.p3_fs_core.specs.contracts.error.TranscriptErrorPartialEq.TheImpl as transcript_errors_compared

numbers-equal : (m n : ℕ) → (numbers.ghosts.eq m n ≡ true ↔ m ≡ n)
numbers-equal = Decides-eqb

different : (m n : ℕ) → m ≡ n → (m == n) ≡ false → ⊥
different m n same test = grind (arith, nat_tests)

abbrev pattern_error_place : PatternError Step → ℕ
pattern_error_place Finished = 0
pattern_error_place (NoMoreSteps received) = 1
pattern_error_place (WrongStep received expected) = 2
pattern_error_place (Unplayed expected) = 3
pattern_error_place (OverCap len max) = 4

pub equal_pattern_errors : (a b : PatternError Interaction) →
    ((pattern_errors_compared.ghosts interaction_type.the_row interactions.ghosts interactions.dict).eq a b ≡ true
    ↔ pattern_error_of a ≡ pattern_error_of b)
equal_pattern_errors Finished Finished = (λ e. refl, λ e. refl)
equal_pattern_errors (NoMoreSteps x) (NoMoreSteps y) =
    Decides-like _ (λ e. ap NoMoreSteps e) (λ e. cc) (equal_steps x y)
equal_pattern_errors (WrongStep x r) (WrongStep y s) =
    Decides-like _ (λ e. cc) (λ e. (cc, cc)) (Decides-and _ _ (equal_steps x y) (equal_steps r s))
equal_pattern_errors (Unplayed x) (Unplayed y) = Decides-like _ (λ e. ap Unplayed e) (λ e. cc) (equal_steps x y)
equal_pattern_errors (OverCap m j) (OverCap n k) =
    Decides-like _ (λ e. cc) (λ e. (cc, cc)) (Decides-and _ _ (numbers-equal m n) (numbers-equal j k))
equal_pattern_errors _ _ =
    (λ e. absurd (true≢false (sym e)), λ e. absurd (different _ _ (ap pattern_error_place e) refl))

challenger-equal : (a b : ChallengerError) → (challengers.ghosts.eq a b ≡ true ↔ a ≡ b)
challenger-equal a b = search rules

abbrev place : Refusal → ℕ
place (fault (missing_begin position closer)) = 0
place (fault (invalid_kind begin_position opener position s)) = 1
place (fault (mismatched_begin_end begin_position opener position closer)) = 2
place (fault (missing_end position opener)) = 3
place (bad_proof_shape reason) = 4
place (pattern_error m) = 5
place (challenger_refused e) = 6
place label_too_long = 7
place out_of_memory = 8

pub equal_refusals : (a b : TranscriptError) →
    (transcript_errors_compared.ghosts.eq a b ≡ true ↔ refusal_of a ≡ refusal_of b)
equal_refusals (MissingBegin x) (MissingBegin y) =
    Decides-like _ (λ e. cc) (λ e. (cc, cc))
    (Decides-and _ _ (numbers-equal x.position y.position) (equal_steps x.end y.end))
equal_refusals (InvalidKind x) (InvalidKind y) =
    Decides-like _ (λ e. let p = e.0 in let q = e.1.0 in let r = e.1.1.0 in let s = e.1.1.1 in cc)
    (λ e. (cc, (cc, (cc, cc))))
    (Decides-and _ _ (numbers-equal x.begin_position y.begin_position)
    (Decides-and _ _ (equal_steps x.begin y.begin)
    (Decides-and _ _ (numbers-equal x.interaction_position y.interaction_position)
    (equal_steps x.interaction y.interaction))))
equal_refusals (MismatchedBeginEnd x) (MismatchedBeginEnd y) =
    Decides-like _ (λ e. let p = e.0 in let q = e.1.0 in let r = e.1.1.0 in let s = e.1.1.1 in cc)
    (λ e. (cc, (cc, (cc, cc))))
    (Decides-and _ _ (numbers-equal x.begin_position y.begin_position)
    (Decides-and _ _ (equal_steps x.begin y.begin)
    (Decides-and _ _ (numbers-equal x.end_position y.end_position) (equal_steps x.end y.end))))
equal_refusals (MissingEnd x) (MissingEnd y) =
    Decides-like _ (λ e. cc) (λ e. (cc, cc))
    (Decides-and _ _ (numbers-equal x.position y.position) (equal_steps x.begin y.begin))
equal_refusals (BadProofShape x) (BadProofShape y) =
    Decides-like _ (λ e. ap bad_proof_shape e) (λ e. cc) (equal_texts x y)
equal_refusals (Pattern x) (Pattern y) =
    Decides-like _ (λ e. ap pattern_error e) (λ e. cc) (equal_pattern_errors x y)
equal_refusals (Challenger x) (Challenger y) =
    Decides-like _ (λ e. ap challenger_refused e) (λ e. cc) (challenger-equal x y)
equal_refusals LabelTooLong LabelTooLong = (λ e. refl, λ e. refl)
equal_refusals OutOfMemory OutOfMemory = (λ e. refl, λ e. refl)
equal_refusals _ _ = (λ e. absurd (true≢false (sym e)), λ e. absurd (different _ _ (ap place e) refl))
