use Rattle.std.proofs.Common.{length, refl}
use Rattle.tealmuze_c.proofs.Answered.{answered}
use Rattle.tealmuze_c.proofs.prove_kept.Goals as goal

pub returns : goal.returns
returns c description described =
    answered c.prove_prepared-found.result _ _ _ c.args.answer.now c.tell.result (length c.args.answer.now)
    c.tell.new.answer refl (c.prove_prepared-found.ensures.ok description described)
    (c.prove_prepared-found.ensures.err description described) c.tell.ensures.found c.tell.ensures.none
