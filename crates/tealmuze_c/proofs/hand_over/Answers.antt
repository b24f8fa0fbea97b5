use Rattle.std.proofs.Common.{[], ◌∷◌, inl, refl, sym, arith, subst}
use Rattle.tealmuze_calls.specs.Forms.{IsWritten}
use Rattle.tealmuze_c.proofs.{Handing.if_some, Told.{first_written, written_first}}
use Rattle.tealmuze_c.specs.Told.{Begins}
use Rattle.tealmuze_c.proofs.hand_over.Goals as goal

pub returns-in-Ok-clause-told : goal.returns-in-Ok-clause-told
returns-in-Ok-clause-told c = rw c.of.ensures.2 (inl (record {
  told = 0 ∷ [];
  says = inl (inl refl);
  written = written_first c.args.answer.now 0 (omega (arith, c.requires.room));
}))

pub returns-in-Ok-clause-handed : goal.returns-in-Ok-clause-handed
returns-in-Ok-clause-handed c =
    let e = c.of.ensures in
    if_some _ _ c.in-Ok.live.value e.0
    (((e.2, first_written c.args.answer.now 0 (omega (arith, c.requires.room))), c.in-Ok.ensures.ok), sym e.1)
