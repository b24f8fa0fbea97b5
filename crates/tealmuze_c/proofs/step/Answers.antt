use Rattle.std.proofs.Common.{length, refl}
use Rattle.tealmuze_live.specs.contracts.live.LiveTells.TheImpl.{tells-value}
use Rattle.tealmuze_c.proofs.Stepped.{stepped}
use Rattle.tealmuze_c.proofs.step.Goals as goal

pub returns : goal.returns
returns c =
    stepped (tells-value.it 1) c.args.transcript.now _ c.args.request.now c.args.answer.now _ c.tell.result
    (length c.args.answer.now) c.step-found.result refl c.step-found.ensures.ok c.step-found.ensures.err
    c.tell.ensures.found c.tell.ensures.none
