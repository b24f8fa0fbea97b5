use Rattle.std.proofs.Common.{length, refl}
use Rattle.tealmuze_c.proofs.Answered.{answered}
use Rattle.tealmuze_c.proofs.tealmuze_prove.Goals as goal

pub returns : goal.returns
returns c =
    answered c.prove-found.result _ _ _ c.args.answer.now c.tell.result (length c.args.answer.now) c.tell.new.answer refl
    c.prove-found.ensures.ok c.prove-found.ensures.err c.tell.ensures.found c.tell.ensures.none
