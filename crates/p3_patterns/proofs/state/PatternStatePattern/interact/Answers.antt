use Rattle.std.proofs.Common.{◌≡◌, true, false, List, map, Result, Ok, Err, IfErr, inr, refl, rules}
use Rattle.p3_fs_core.specs.declared.{error.TranscriptError.TranscriptError, interaction.Interaction.Interaction}
use Rattle.p3_fs_core.specs.{Interactions.step_of, Steps.Step}
use Rattle.p3_patterns.specs.Recording.{Recording, FaultOfNext, RefusesToRecord}
use Rattle.p3_patterns.proofs.state.PatternStatePattern.interact.Goals as goal

-- a step that was not taken is refused, and the steps are as before
refused : {T : Type 0} (result : Result T TranscriptError) (old new : List Interaction) (s : Step)
    (before : Recording) → record { steps = map step_of old; finished = false } ≡ before → new ≡ old
    → IfErr result (λ e. FaultOfNext (map step_of old) s e)
    → IfErr result (λ e. RefusesToRecord before s e (record { steps = map step_of new; finished = true }))
refused (Ok x) old new s before is same h = tt
refused (Err e) old new s before is same h = rw (← is, same) (record { fault = inr (refl, h); finished = refl })

pub returns-in_default-clause-err : goal.returns-in_default-clause-err
returns-in_default-clause-err g c =
    let not_taken : c.take-taken.result ≡ Ok true → ⊥ = search rules in
    let same = c.take-taken.ensures.other not_taken in
    refused c.refuse.result c.self.inside.interactions.items c.take-taken.new.steps.items _ _
    (rw c.if-self.false at c.self.view_is) same.0 (rw (c.deref.ensures.value, same.0) at c.refuse.ensures.err)
