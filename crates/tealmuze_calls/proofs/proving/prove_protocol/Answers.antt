use Rattle.std.proofs.Common.{◌≡◌, ap, sym, ◌∙◌, arith}
use Rattle.p3_challenger.specs.{Scripts.values_sent, SeparatorSeed.held_of}
use Rattle.tealmuze_calls.specs.Forms.{listed_bytes, value_bytes}
use Rattle.tealmuze_calls.proofs.{Dues.due_passed, Readers.handed_alike, Sendable.same_values}
use Rattle.tealmuze_calls.proofs.proving.prove_protocol.Goals as goal

-- more bytes are wanted than there are
pub returns-then-wanted-room-clause-ok : goal.returns-then-wanted-room-clause-ok
returns-then-wanted-room-clause-ok g c description described = (
  record {
    separator = held_of c.args.protocol.now.separator;
    steps = c.args.protocol.now.steps.items;
    describes = described;
    wanted_is = rw c.as_slice.ensures.value at c.wanted_room-wanted.ensures;
  },
  c.if-wanted-room.true,
)

-- a verdict
pub returns-clause-ok : goal.returns-clause-ok
returns-clause-ok g c description described =
    let encoded = value_bytes g.S.Field.PrimeCharacteristicRing.residues.number g.S.Extension.BasedVectorSpace.coefficients
    in record {
      start = g.S.Challenger.Sponge.state c.fresh.result;
      fresh = c.fresh.ensures;
      separator = held_of c.args.protocol.now.separator;
      steps = c.args.protocol.now.steps.items;
      describes = described;
      tells = record {
        values = values_sent c.as_slice-2.result.now;
        encoded = c.in_ok-sent.ensures.ok
            ∙ ap (λ sent. listed_bytes encoded (values_sent sent)) (sym c.as_slice-2.ensures.value);
        tells = c.in_ok-bytes.ensures.ok;
      };
    }

-- no values are encoded
pub returns-in_err-sent-clause-err : goal.returns-in_err-sent-clause-err
returns-in_err-sent-clause-err g c description described =
    due_passed c.from_residual.result _ _ _ (λ none asked. none asked.such.values
    (asked.such.sendable, asked.such.encoded)) c.from_residual.ensures.1 c.in_err-sent.ensures.err

-- they are not those of the steps
pub returns-in_err-bytes-clause-err : goal.returns-in_err-bytes-clause-err
returns-in_err-bytes-clause-err g c description described =
    let residues = g.S.Field.PrimeCharacteristicRing.residues in
    let laws = g.met.S.Field.PrimeCharacteristicRing.are_residues in
    let order_fits = g.met.S.Field.PrimeField64.fits_u64 in
    let coefficients = g.S.Extension.BasedVectorSpace.coefficients in
    let dimension = g.S.Extension.BasedVectorSpace.DIMENSION in
    let long = g.met.S.Extension.BasedVectorSpace.length_coefficients in
    let sent = values_sent c.in_ok-sent.sent.items in
    due_passed c.from_residual-in_err-bytes.result _ _ _ (λ none asked.
    let same : asked.such.values ≡ sent = same_values residues.number coefficients dimension
    (λ x. omega (arith, laws.below x, order_fits))
    (λ x y e. sym (laws.of_number x) ∙ ap residues.of e ∙ laws.of_number y) long
    g.met.S.Extension.BasedVectorSpace.same_coefficients c.args.values.now asked.such.values sent
    asked.such.sendable c.in_ok-sent.ensures.held asked.such.encoded c.in_ok-sent.ensures.ok in
    none (handed_alike residues.number coefficients g.S.Called.opaque_numbers g.S.Called.are_opaque _
    description asked.separator (held_of c.args.protocol.now.separator) asked.steps
    c.args.protocol.now.steps.items asked.describes described dimension
    g.met.S.Extension.BasedVectorSpace.at_least_one long asked.such.values (values_sent c.as_slice-2.result.now)
    (same ∙ ap values_sent (sym c.as_slice-2.ensures.value)) asked.such.such))
    c.from_residual-in_err-bytes.ensures.1 c.in_err-bytes.ensures.err
