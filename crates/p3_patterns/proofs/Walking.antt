-- What open containers say of whole patterns.
use Rattle.std.proofs.Common.{◌≡◌, ◌⊎◌, ℕ, ◌≤◌, List, [], ◌∷◌, map, length, take, refl, subst, ⊎_elim}
use Rattle.std.{proofs.lemmas.List.take_all, specs.Prelude.{Result, Ok, Err, IfErr}}
use Rattle.p3_fs_core.specs.declared.error.TranscriptError.{TranscriptError, TheVariants.OutOfMemory}
use Rattle.p3_fs_core.specs.declared.{step.Kind.TheVariants.Protocol, interaction.Interaction.Interaction}
use Rattle.p3_fs_core.specs.{Interactions.step_of, Steps.Step}
use Rattle.p3_patterns.{specs.{Walks.WalksTo, OpenContainers.{OpensAt, AreOpen}}, proofs.FirstFaults.names-no_pattern}
use Rattle.p3_patterns.{proofs.OpenPositions.open-pattern, specs.PatternGrammar.{IsPattern, NamesFirstFault}}
use Rattle.p3_patterns.proofs.PatternGrammarLaws.{innermost-of, pattern-none_open}

-- steps that leave none open are a pattern
pub closed-pattern : (steps : List Step) (positions : List ℕ) → AreOpen steps positions → positions ≡ []
    → IsPattern Protocol steps
closed-pattern steps positions h none = open-pattern steps positions h (rw none refl)

unclosed : (openers steps : List Step) (positions : List ℕ) → OpensAt openers positions steps → (positions ≡ [] → ⊥)
    → IsPattern Protocol steps → ⊥
unclosed [] steps positions h some pattern = some h.0
unclosed (opener ∷ below) steps positions h some pattern =
    pattern-none_open steps pattern (length h.0) opener (innermost-of opener below steps positions h)

-- steps that leave one open are none
pub open-no_pattern : (steps : List Step) (positions : List ℕ) → AreOpen steps positions → (positions ≡ [] → ⊥)
    → IsPattern Protocol steps → ⊥
open-no_pattern steps positions h some pattern = unclosed h.0 steps positions h.1 some pattern

-- a first fault or the refusal of memory, of steps that are a pattern, is the refusal of memory
pub refused-pattern : {T : Type 0} (steps : List Step) (result : Result T TranscriptError)
    → IfErr result (λ e. NamesFirstFault steps e ⊎ (e ≡ OutOfMemory)) → IsPattern Protocol steps
    → IfErr result (λ e. e ≡ OutOfMemory)
refused-pattern steps (Ok x) h pattern = tt
refused-pattern steps (Err e) h pattern =
    ⊎_elim (λ fault. absurd (names-no_pattern steps e fault pattern)) (λ refused. refused) h

-- steps that were all walked over, and leave none open, are a pattern
pub walked-pattern : (steps : List Interaction) (walked : ℕ) (positions : List ℕ) → WalksTo steps walked positions
    → length steps ≤ walked → positions ≡ [] → IsPattern Protocol (map step_of steps)
walked-pattern steps walked positions walks all none =
    subst (λ (xs : List Interaction). IsPattern Protocol (map step_of xs)) (take_all walked steps all)
    (closed-pattern (map step_of (take walked steps)) positions walks.opens none)
