use Rattle.std.proofs.Common.{rules, inr}
use Rattle.transcript_program.proofs.script.prove.Goals as goal

pub returns-in-Ok-clause-ok : goal.returns-in-Ok-clause-ok
returns-in-Ok-clause-ok c =
    record {
      run = _;
      is_demo = record {
        labels = c.steps-steps.ensures.script.0;
        list = _;
        list_is = search rules;
        steps_are = c.steps-steps.ensures.script.1;
        challenger_is = c.challenger.ensures;
        separator_is = c.in_ok-separator.ensures.ok;
      };
      witnesses = _;
      carried = _;
      drawn = _;
      end = _;
      proved = rw c.in_ok-sent.ensures at c.in-Ok.ensures.proved.0;
    }

pub returns-clause-err : goal.returns-clause-err
returns-clause-err c =
    inr (record {
      run = _;
      is_demo = record {
        labels = c.steps-steps.ensures.script.0;
        list = _;
        list_is = search rules;
        steps_are = c.steps-steps.ensures.script.1;
        challenger_is = c.challenger.ensures;
        separator_is = c.in_ok-separator.ensures.ok;
      };
      position = _;
      refuses = rw c.in_ok-sent.ensures at c.in-Err.ensures.refused.0;
      no_run = rw c.in_ok-sent.ensures at c.in-Err.ensures.refused.1;
    })
