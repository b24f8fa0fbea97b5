-- From one state, proof of work is refused for one reason.
use Rattle.std.proofs.Common.{◌⊎◌, arith}
use Rattle.p3_fs_core.specs.Encoding.{Encoding}
use Rattle.p3_grinding.specs.CheckLaws.{LimitGivesNone}
use Rattle.p3_driver_core.specs.{Working.{Work, RefusesToCheck, RefusesToGrind}, Reads.received_work}
use Rattle.p3_driver_core.specs.Verifying.{RefusesToRead, FailsWork}
use Rattle.p3_step_laws.specs.OneReason.{TellOneReason}

module _ {S Symbol W : Type 0} (work : Work S Symbol W) where
  pub ground-one_reason : (may_run_out : S → Type 0) → TellOneReason (RefusesToGrind work may_run_out)
  ground-one_reason may_run_out = grind arith

  module _ (limits : (x : W) → LimitGivesNone (work.check x)) where
    pub carried-one_reason : (x : W) → TellOneReason (RefusesToCheck work x)
    carried-one_reason x = grind (arith, limits)

    pub work-one_reason : (enc : Encoding W) → TellOneReason (λ before e after.
        RefusesToRead (received_work work enc) before e after ⊎ FailsWork work enc before e after)
    work-one_reason enc = grind (arith, limits)
