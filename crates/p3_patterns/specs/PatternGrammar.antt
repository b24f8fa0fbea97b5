-- Patterns of steps: the lists of steps that are patterns, and the first fault of a list that is not.
use Rattle.std.specs.Prelude.{◌≡◌, ℕ, ◌⊎◌, List, [], ◌∷◌, ◌++◌, length}
use Rattle.p3_fs_core.specs.declared.step.{Hierarchy.TheVariants.{Atomic, Begin, End}, Kind.Kind}
use Rattle.p3_fs_core.specs.declared.{step.Kind.TheVariants.Protocol, error.TranscriptError.TranscriptError}
use Rattle.p3_fs_core.specs.{Steps.{Step, Closes}, Errors.{Fault, missing_begin, invalid_kind, mismatched_begin_end}}
use Rattle.p3_fs_core.specs.Errors.{missing_end, IsFault, refusal_of}

-- the step may stand directly in a container of the kind: a protocol allows any, another kind only its own
abbrev pub Allows : Kind → Step → Type 0
Allows kind s = (kind ≡ Protocol) ⊎ (s.kind ≡ kind)

-- The steps may stand in a container of the kind. Each is an allowed leaf, or an allowed opener followed
-- by a pattern of the opener's own kind and a matching closer.
pub data IsPattern : Kind → List Step → Type 0 where
  nothing : (kind : Kind) → IsPattern kind []
  leaf : (kind : Kind) (s : Step) (rest : List Step) → s.hierarchy ≡ Atomic → Allows kind s → IsPattern kind rest →
      IsPattern kind (s ∷ rest)
  container : (kind : Kind) (opener closer : Step) (inside rest : List Step) → Allows kind opener →
      IsPattern opener.kind inside → Closes closer opener → IsPattern kind rest →
      IsPattern kind (opener ∷ (inside ++ (closer ∷ rest)))

-- some pattern begins with the steps
abbrev pub IsViable : List Step → Type 0
IsViable steps = (more : List Step) × IsPattern Protocol (steps ++ more)

-- the step may come next after these: some pattern begins with them and the step
abbrev pub MayFollow : Step → List Step → Type 0
MayFollow s steps = IsViable (steps ++ (s ∷ []))

-- The opener at the position is the innermost one still open: the steps after it form a pattern of its
-- kind. A list has at most one such opener, the last one that is open.
pub record IsInnermost (steps : List Step) (position : ℕ) (opener : Step) : Type 0 where
  pub before : List Step
  pub inside : List Step
  pub split : steps ≡ before ++ (opener ∷ inside)
  pub place : length before ≡ position
  pub begins : opener.hierarchy ≡ Begin
  pub pattern : IsPattern opener.kind inside

-- no opener is still open
abbrev pub IsNoneOpen : List Step → Type 0
IsNoneOpen steps = (position : ℕ) (opener : Step) → IsInnermost steps position opener → ⊥

-- Some pattern begins with the steps before the position, and none with those and the step there. So it is
-- the least such position.
pub record StopsAt (steps : List Step) (position : ℕ) (s : Step) : Type 0 where
  pub before : List Step
  pub rest : List Step
  pub split : steps ≡ before ++ (s ∷ rest)
  pub place : length before ≡ position
  pub viable : IsViable before
  pub stuck : MayFollow s before → ⊥

-- the fault is the first one of the steps
abbrev pub IsFirstFault : List Step → Fault → Type 0
IsFirstFault steps (missing_begin position closer) =
    (stop : StopsAt steps position closer) × (closer.hierarchy ≡ End) × IsNoneOpen stop.before
IsFirstFault steps (invalid_kind begin_position opener position s) =
    (stop : StopsAt steps position s) × (s.hierarchy ≡ End → ⊥) × IsInnermost stop.before begin_position opener
IsFirstFault steps (mismatched_begin_end begin_position opener position closer) =
    (stop : StopsAt steps position closer) × (closer.hierarchy ≡ End) × IsInnermost stop.before begin_position opener
IsFirstFault steps (missing_end position opener) =
    IsViable steps × (IsPattern Protocol steps → ⊥) × IsInnermost steps position opener

-- the error names the first fault of the steps, with its positions and steps
abbrev pub NamesFirstFault : List Step → TranscriptError → Type 0
NamesFirstFault steps e = IsFault (IsFirstFault steps) (refusal_of e)
