-- Laws of the order of steps.
use Rattle.std.proofs.Common.{◌≡◌, ℕ, Bool, true, false, List, [], ◌∷◌, ◌++◌, length, Option, Some, inl, inr, refl}
use Rattle.std.proofs.{Common.{sym, ap, ◌∙◌, append_assoc, slice_get, arith}, lemmas.List.length-append}
use Rattle.std.proofs.lemmas.Option.{slice_get_within}
use Rattle.p3_fs_core.specs.{Errors.pattern_error_of, Steps.Step, declared.interaction.Interaction.Interaction}
use Rattle.p3_fs_core.specs.declared.error.{PatternError.PatternError, TranscriptError.TranscriptError}
use Rattle.p3_fs_core.specs.declared.error.PatternError.TheVariants.{Finished, NoMoreSteps, WrongStep, Unplayed}
use Rattle.p3_fs_core.specs.declared.error.TranscriptError.TheVariants.{Pattern}
use Rattle.p3_patterns.specs.{Playing.{Playing, RefusesToPlay, IsNotNext, IsPlayed, FaultOfPlayEnd}, Playing.next_step}
use Rattle.p3_driver_core.specs.{Transcripts.{IsNext, AreNext, RefusesPlayEnd}, Transcripts.{step_on, steps_on}}

not_both : {b : Bool} → b ≡ true → b ≡ false → ⊥
not_both on off = absurd (cc)

-- ---- the next step is not refused as out of order

next-is_next : (next : Option Step) (s : Step) (e : PatternError Step) → next ≡ Some s → IsNotNext next s e → ⊥
next-is_next next s (NoMoreSteps received) is fault = absurd (cc)
next-is_next next s (WrongStep received expected) is fault = let same : expected ≡ s = cc in fault.2 same
next-is_next next s e is fault = fault

pub next-not_refused : (before after : Playing) (s : Step) (e : TranscriptError) → IsNext before s →
    RefusesToPlay before s e after → ⊥
next-not_refused before after s (Pattern e) is_next refuses = elim refuses.fault [
  | inl late ↦ not_both late.0 is_next.0
  | inr other ↦ next-is_next (next_step before) s (pattern_error_of e) is_next.1 other.1
]
next-not_refused before after s e is_next refuses = refuses.fault

-- ---- once a step was refused, every step is

finished-pattern_error : (e : PatternError Interaction) → pattern_error_of e ≡ Finished → e ≡ Finished
finished-pattern_error Finished is = refl
finished-pattern_error e is = absurd (cc)

same-player : (before after : Playing) → before.finished ≡ true →
    after ≡ record { pattern = before.pattern; position = before.position; finished = true } → after ≡ before
same-player before after finished is =
    is ∙ (λ i. record { pattern = before.pattern; position = before.position; finished = sym finished i })

pub finished-refused : (before after : Playing) (s : Step) (e : TranscriptError) → before.finished ≡ true →
    RefusesToPlay before s e after → (e ≡ Pattern Finished) × (after ≡ before)
finished-refused before after s (Pattern e) finished refuses = elim refuses.fault [
  | inl late ↦ (ap Pattern (finished-pattern_error e late.1), same-player before after finished refuses.finished)
  | inr other ↦ absurd (not_both finished other.0)
]
finished-refused before after s e finished refuses = absurd refuses.fault

-- ---- the end

none-left : (steps : List Step) (position : ℕ) (s : Step) → position ≡ length steps →
    slice_get steps position ≡ Some s → ⊥
none-left steps position s end is = let within = slice_get_within steps position s is in omega arith

played-pattern_error : (playing : Playing) (e : PatternError Step) → IsPlayed playing → FaultOfPlayEnd playing e → ⊥
played-pattern_error playing Finished played fault = not_both fault played.going
played-pattern_error playing (Unplayed expected) played fault =
    none-left playing.pattern.steps playing.position expected played.end fault.1
played-pattern_error playing e played fault = fault

-- a player whose steps are all played is not refused at the end
pub played-ends : (playing : Playing) (e : TranscriptError) → IsPlayed playing → RefusesPlayEnd playing e → ⊥
played-ends playing (Pattern e) played fault = played-pattern_error playing (pattern_error_of e) played fault
played-ends playing e played fault = fault

finished-end_pattern_error : (playing : Playing) (e : PatternError Interaction) → playing.finished ≡ true →
    FaultOfPlayEnd playing (pattern_error_of e) → e ≡ Finished
finished-end_pattern_error playing Finished finished fault = refl
finished-end_pattern_error playing (Unplayed expected) finished fault = absurd (not_both finished fault.0)
finished-end_pattern_error playing e finished fault = absurd fault

-- a player that has refused a step is refused at the end, as finished
pub finished-ends : (playing : Playing) (e : TranscriptError) → playing.finished ≡ true →
    RefusesPlayEnd playing e → e ≡ Pattern Finished
finished-ends playing (Pattern e) finished fault = ap Pattern (finished-end_pattern_error playing e finished fault)
finished-ends playing e finished fault = absurd fault

-- ---- steps in a row

get-at : {A : Type 0} (before : List A) (x : A) (after : List A) →
    slice_get (before ++ (x ∷ after)) (length before) ≡ Some x
get-at [] x after = refl
get-at (y ∷ before) x after = get-at before x after

-- steps of a pattern are the next ones where a player stands at the first of them
pub listed-next : (steps before after : List Step) (playing : Playing) → playing.pattern.steps ≡ before
    ++ (steps ++ after) → playing.position ≡ length before → playing.finished ≡ false → AreNext steps playing
listed-next [] before after playing has at going = tt
listed-next (s ∷ steps) before after playing has at going = (
  (going, (λ i. slice_get (has i) (at i)) ∙ get-at before s (steps ++ after)),
  listed-next steps (before ++ (s ∷ [])) after (step_on playing)
      (has ∙ sym (append_assoc before (s ∷ []) (steps ++ after)))
      (omega (arith, at, length-append before (s ∷ []))) refl,
)

-- of steps that are next in a row, the first ones are next, and the others are next after them
pub next-first : (first then : List Step) (playing : Playing) → AreNext (first ++ then) playing → AreNext first playing
next-first [] then playing next = tt
next-first (s ∷ first) then playing next = (next.0, next-first first then (step_on playing) next.1)

pub next-then : (first then : List Step) (playing : Playing) → AreNext (first ++ then) playing →
    AreNext then (steps_on first playing)
next-then [] then playing next = next
next-then (s ∷ first) then playing next = next-then first then (step_on playing) next.1
