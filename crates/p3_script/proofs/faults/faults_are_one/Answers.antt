use Rattle.p3_runs.specs.{ProofFaultLaws.proofs-one_fault, ProvingFaultLaws.provings-one_fault}
use Rattle.p3_script.proofs.faults.faults_are_one.Goals as goal

pub returns-clause-verifying : goal.returns-clause-verifying
returns-clause-verifying g c =
    proofs-one_fault _ _ _ c.script_steps_are_lawful.ensures.canonical c.script_steps_are_lawful.ensures.taken
    c.script_steps_are_refused_for_one_reason.ensures

pub returns-clause-proving : goal.returns-clause-proving
returns-clause-proving g c =
    provings-one_fault _ _ _ c.script_steps_are_lawful.ensures.determined c.script_steps_are_lawful.ensures.sent
    c.script_steps_are_refused_for_one_reason.ensures
