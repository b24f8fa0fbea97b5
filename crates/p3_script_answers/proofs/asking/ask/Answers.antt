use Rattle.std.proofs.Common.{refl}
use Rattle.p3_script_answers.proofs.Turning.{not-both, stands-sent}
use Rattle.p3_script_answers.proofs.asking.ask.Goals as goal

pub returns-then-not-step_matches-clause-asked : goal.returns-then-not-step_matches-clause-asked
returns-then-not-step_matches-clause-asked g c =
    record {
      comes = (
        refl,
        stands-sent _ c.standing_of.result c.standing_of.ensures c.in-Sent.is,
        record {
          value = c.in-Ok.value;
          answered = rw c.in-Ok.is at c.answers.ensures;
          unfit = λ h. not-both c.step_matches.result (c.step_matches.ensures.1 h) c.if-not-step_matches.true;
        },
      );
    }
