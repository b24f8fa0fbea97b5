use Rattle.std.proofs.Common.{length, refl}
use Rattle.tealmuze_c.proofs.Answered.{answered}
use Rattle.tealmuze_c.proofs.verify_kept.Goals as goal

pub returns : goal.returns
returns c description described =
    answered c.verify_prepared-found.result _ _ _ c.args.answer.now c.tell.result (length c.args.answer.now)
    c.tell.new.answer refl (c.verify_prepared-found.ensures.ok description described)
    (c.verify_prepared-found.ensures.err description described) c.tell.ensures.found c.tell.ensures.none
