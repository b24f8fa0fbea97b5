use Rattle.std.proofs.Common.{[], ◌∷◌, ◌∙◌, arith, inl, refl}
use Rattle.tealmuze_c.proofs.Told.{written_first, first_written}
use Rattle.tealmuze_c.proofs.hand_out.Goals as goal

pub returns-in-Ok-clause-told : goal.returns-in-Ok-clause-told
returns-in-Ok-clause-told c = inl (record {
  told = 0 ∷ [];
  says = inl refl;
  written = written_first c.args.answer.now 0 (omega (arith, c.if-answer-lt-PREPARED_ROOM.false));
})

pub returns-in-Ok-clause-kept : goal.returns-in-Ok-clause-kept
returns-in-Ok-clause-kept c = (
  ((refl, first_written c.args.answer.now 0 (omega (arith, c.if-answer-lt-PREPARED_ROOM.false))), c.in-Ok.ensures.ok),
  c.as_ptr.ensures ∙ c.cast.ensures ∙ c.from_ref.ensures,
)
