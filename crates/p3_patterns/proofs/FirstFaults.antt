-- Laws of the first fault of steps.
use Rattle.std.proofs.Common.{slice_index_or, append_assoc, add-one, length, subst, List, ◌++◌, take, drop, refl, ◌≡◌}
use Rattle.std.proofs.{Common.{◌+◌, ◌<◌, ◌∷◌, map, sym, ◌∙◌, [], ap, ℕ}, Math.Seq.drop-cons}
use Rattle.std.proofs.lemmas.List.{take-append-drop, map-append}
use Rattle.p3_fs_core.specs.declared.error.TranscriptError.{TranscriptError, TheVariants.{MissingEnd, MissingBegin}}
use Rattle.p3_fs_core.specs.declared.error.TranscriptError.TheVariants.{InvalidKind, MismatchedBeginEnd}
use Rattle.p3_fs_core.specs.{declared.{step.Kind.TheVariants.Protocol, interaction.Interaction.Interaction}, Steps.Step}
use Rattle.p3_fs_core.specs.{Interactions.step_of, Errors.missing_end}
use Rattle.p3_patterns.specs.PatternGrammar.{NamesFirstFault, IsFirstFault, IsInnermost, IsPattern, MayFollow, IsViable}
use Rattle.p3_patterns.{specs.PatternGrammar.StopsAt, proofs.PatternGrammarLaws.{pattern-none_open, opens-viable}}

abbrev pub stops : (before rest : List Step) (s : Step) (position : ℕ) → length before ≡ position → IsViable before
    → (MayFollow s before → ⊥) → StopsAt (before ++ (s ∷ rest)) position s
stops before rest s position place viable stuck =
    record { before = before; rest = rest; split = refl; place = place; viable = viable; stuck = stuck }

pub first-missing_end : (steps : List Step) (position : ℕ) (opener : Step) → IsViable steps
    → IsInnermost steps position opener → IsFirstFault steps (missing_end position opener)
first-missing_end steps position opener viable is =
    (viable, (λ pattern. pattern-none_open steps pattern position opener is), is)

-- steps that begin a pattern begin one up to each of them
pub viable-front : (before rest : List Step) (s : Step) → IsViable (before ++ (s ∷ rest)) → MayFollow s before
viable-front before rest s viable =
    (rest ++ viable.0, simp append_assoc (simp append_assoc at viable.1))

-- viable steps have no stop
pub no-stop : (steps : List Step) (position : ℕ) (s : Step) → StopsAt steps position s → IsViable steps → ⊥
no-stop steps position s stop viable =
    stop.stuck (viable-front stop.before stop.rest s (subst IsViable stop.split viable))

pattern-viable : (steps : List Step) → IsPattern Protocol steps → IsViable steps
pattern-viable steps pattern = opens-viable [] steps [] (refl, pattern)

-- steps with a first fault are no pattern
pub names-no_pattern : (steps : List Step) (e : TranscriptError) → NamesFirstFault steps e → IsPattern Protocol steps
    → ⊥
names-no_pattern steps (MissingBegin info) h pattern = no-stop steps _ _ h.0 (pattern-viable steps pattern)
names-no_pattern steps (InvalidKind info) h pattern = no-stop steps _ _ h.0 (pattern-viable steps pattern)
names-no_pattern steps (MismatchedBeginEnd info) h pattern = no-stop steps _ _ h.0 (pattern-viable steps pattern)
names-no_pattern steps (MissingEnd info) h pattern = h.1 pattern
names-no_pattern steps _ h pattern = h

-- the steps before a position, the step there and the steps after it
split_at : (steps : List Interaction) (i : ℕ) (d : Interaction) → i < length steps
    → map step_of steps ≡ map step_of (take i steps) ++
    (step_of (slice_index_or steps i d) ∷ map step_of (drop (i + 1) steps))
split_at steps i d within =
    ap (map step_of) (sym (take-append-drop i steps))
    ∙ map-append step_of (take i steps) (drop i steps)
    ∙ ap (λ xs. map step_of (take i steps) ++ map step_of xs) (drop-cons steps i d within)
    ∙ ap (λ k. map step_of (take i steps) ++ (step_of (slice_index_or steps i d) ∷ map step_of (drop k steps)))
    (sym (add-one i))

-- a fault that is named alike whatever follows is that of all the steps
pub names-whole : (steps : List Interaction) (i : ℕ) (d : Interaction) (e : TranscriptError) → i < length steps
    → ((rest : List Step) → NamesFirstFault (map step_of (take i steps) ++ (step_of (slice_index_or steps i d) ∷ rest))
    e) → NamesFirstFault (map step_of steps) e
names-whole steps i d e within named =
    subst (λ (w : List Step). NamesFirstFault w e) (sym (split_at steps i d within))
    (named (map step_of (drop (i + 1) steps)))
