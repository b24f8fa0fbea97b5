use Rattle.p3_runs.specs.NoProofLaws.{one-run}
use Rattle.p3_script.proofs.one_run.proofs_have_one_run.Goals as goal

pub returns : goal.returns
returns g c run bytes carried values others one other =
    one-run _ _ c.script_steps_are_lawful.ensures.canonical run bytes carried others other values one
