use Rattle.std.proofs.Common.{rules, inr}
use Rattle.transcript_program.proofs.DemoRuns.{accepted-says}
use Rattle.transcript_program.proofs.script.verify.Goals as goal

-- what was received and drawn is what a run of the script has
pub told-requires : goal.told-requires
told-requires c =
    rw (c.as_slice.ensures.value, c.as_slice-in-Ok.ensures.value)
    (accepted-says _ _ c.steps-steps.ensures.script.0 _ _ _ _ _ c.steps-steps.ensures.script.1 c.in-Ok.ensures.accepted)

pub returns-in-Ok-clause-ok : goal.returns-in-Ok-clause-ok
returns-in-Ok-clause-ok c =
    record {
      run = _;
      is_demo = record {
        labels = c.steps-steps.ensures.script.0;
        list = _;
        list_is = search rules;
        steps_are = c.steps-steps.ensures.script.1;
        challenger_is = c.challenger.ensures;
        separator_is = c.in_ok-separator.ensures.ok;
      };
      received = _;
      drawn = _;
      end = _;
      accepted = c.in-Ok.ensures.accepted;
      told = rw (c.as_slice.ensures.value, c.as_slice-in-Ok.ensures.value) at c.in_ok-told-in-Ok.ensures;
    }

pub returns-clause-err : goal.returns-clause-err
returns-clause-err c =
    inr (record {
      run = _;
      is_demo = record {
        labels = c.steps-steps.ensures.script.0;
        list = _;
        list_is = search rules;
        steps_are = c.steps-steps.ensures.script.1;
        challenger_is = c.challenger.ensures;
        separator_is = c.in_ok-separator.ensures.ok;
      };
      position = _;
      refuses = c.in-Err.ensures.refused.0;
      no_proof = c.in-Err.ensures.refused.1;
    })
