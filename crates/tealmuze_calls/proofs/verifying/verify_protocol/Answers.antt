use Rattle.std.proofs.Common.{ℕ, subst}
use Rattle.p3_challenger.specs.SeparatorSeed.{held_of}
use Rattle.tealmuze_calls.specs.Told.{CanBeCarried}
use Rattle.tealmuze_calls.proofs.{Dues.due_passed, Readers.same_carried}
use Rattle.tealmuze_calls.proofs.verifying.verify_protocol.Goals as goal

-- more bytes are wanted than there are
pub returns-then-wanted-room-clause-ok : goal.returns-then-wanted-room-clause-ok
returns-then-wanted-room-clause-ok g c description described = (
  record {
    separator = held_of c.args.protocol.now.separator;
    steps = c.args.protocol.now.steps.items;
    describes = described;
    wanted_is = rw c.as_slice.ensures.value at c.wanted_room-wanted.ensures;
  },
  c.if-wanted-room.true,
)

-- a verdict
pub returns-clause-ok : goal.returns-clause-ok
returns-clause-ok g c description described = record {
  start = g.S.Challenger.Sponge.state c.fresh.result;
  fresh = c.fresh.ensures;
  separator = held_of c.args.protocol.now.separator;
  steps = c.args.protocol.now.steps.items;
  describes = described;
  tells = c.in_ok-bytes.ensures.ok;
}

-- these numbers cannot be carried
pub returns-in_err-bytes-clause-err : goal.returns-in_err-bytes-clause-err
returns-in_err-bytes-clause-err g c description described =
    let CanBe = λ (count : ℕ). CanBeCarried count g.S.Field.PrimeCharacteristicRing.residues.order c.args.carried.now in
    due_passed c.from_residual.result _ _ _ (λ none asked. none (subst CanBe
    (same_carried g.S.Field.PrimeCharacteristicRing.residues.number g.S.Extension.BasedVectorSpace.coefficients
    g.S.Called.opaque_numbers g.S.Called.are_opaque _ description asked.separator
    (held_of c.args.protocol.now.separator) asked.steps c.args.protocol.now.steps.items asked.describes
    described g.S.Extension.BasedVectorSpace.DIMENSION
    g.met.S.Extension.BasedVectorSpace.at_least_one g.met.S.Extension.BasedVectorSpace.length_coefficients) asked.such))
    c.from_residual.ensures.1 c.in_err-bytes.ensures.err
