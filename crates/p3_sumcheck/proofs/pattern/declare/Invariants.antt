use Rattle.std.proofs.{Common.{◌≡◌, ◌++◌, false}, Common.{[], ◌∷◌}}
use Rattle.p3_challenger.specs.{Rounds.steps_of_rounds, Interactions.step_of}
use Rattle.p3_sumcheck.proofs.pattern.declare.Given as goal

-- the steps of the rounds so far are recorded
abbrev pub invariant-loop : goal.invariant-loop
invariant-loop g l =
    record {
      recorded : l.recorder.steps ≡ l.initial.recorder.steps
          ++ steps_of_rounds (step_of l.pair ∷ step_of l.challenge ∷ []) l.counter;
      going : l.initial.recorder.finished ≡ false → l.recorder.finished ≡ false;
    }
