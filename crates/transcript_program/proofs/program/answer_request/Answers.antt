use Rattle.std.proofs.Common.{[], inl, inr, refl}
use Rattle.transcript_program.proofs.program.answer_request.Goals as goal

-- memory was wanting, or the demo protocol refuses
pub returns-in-Err-prove-clause-answer : goal.returns-in-Err-prove-clause-answer
returns-in-Err-prove-clause-answer g c = rw c.in-Prove.is (elim c.in-Err-prove.ensures.err [
  | inl memory ↦ inl memory
  | inr refuses ↦ inr ([], refl, refuses)
])
