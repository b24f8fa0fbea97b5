use Rattle.std.proofs.Common.{◌≡◌, ◌<◌, ◌^◌, ◌∷◌, ◌++◌, [], inr, length, length-append, sym, subst, ap, ◌∙◌, append_assoc, append-nil, arith, rules}
use Rattle.std.specs.List.{All, flat_map}
use Rattle.std.proofs.lemmas.{List.{length-map, map_push}, List.Elements.All-push}
use Rattle.p3_challenger.specs.Scripts.{value_sent, values_sent}
use Rattle.tealmuze_calls.specs.{Forms.{number_bytes, value_bytes, listed_bytes}, Told.IsSendable}
use Rattle.tealmuze_calls.proofs.{Codes.listed-code, Dues.due_passed, Lemmas.one_more_of, Rest.listed-next, Sendable.value-code}
use Rattle.tealmuze_calls.proofs.values.parse_values.Goals as goal

-- a value is missing
pub returns-in_err-parse_value-clause-err : goal.returns-in_err-parse_value-clause-err
returns-in_err-parse_value-clause-err g c =
    let residues = g.S.Field.PrimeCharacteristicRing.residues in
    let laws = g.met.S.Field.PrimeCharacteristicRing.are_residues in
    let order_fits = g.met.S.Field.PrimeField64.fits_u64 in
    let coefficients = g.S.Extension.BasedVectorSpace.coefficients in
    let form = value_bytes residues.number coefficients in
    let code = value-code residues.number coefficients g.S.Extension.BasedVectorSpace.DIMENSION
    (λ x. omega (arith, laws.below x, order_fits))
    (λ x y e. sym (laws.of_number x) ∙ ap residues.of e ∙ laws.of_number y)
    g.met.S.Extension.BasedVectorSpace.length_coefficients g.met.S.Extension.BasedVectorSpace.same_coefficients in
    let here = c.loop-read.invariant in
    let sent = c.loop-read.sent.items in
    let less : length (values_sent sent) < c.in_ok-count.count =
    omega (arith, length-map sent value_sent, here.count, c.loop-read-test.true) in
    due_passed c.from_residual-in_err-parse_value.result _ _ _ (λ none values are.
    listed-next IsSendable form (λ x y a b m n e. (code x y a b m n e).1) ⊥ c.args.bytes.now c.number.new.self.left.now
    c.loop-read.from.left.now [] c.in_ok-count.count (values_sent sent) values (sym c.new-from.ensures ∙ c.in_ok-count.ensures.read)
    (let f : c.in_ok-count.count < 2 ^ 64 = search rules in f) here.so_far less here.held are.0.count are.0.each
    (are.1 ∙ sym (append-nil (listed_bytes form values))) (λ v left may begins. none v (left, (may, begins))))
    c.from_residual-in_err-parse_value.ensures.1 c.in_err-parse_value.ensures.err

-- bytes are left
pub returns-then-not-is_empty-clause-err : goal.returns-then-not-is_empty-clause-err
returns-then-not-is_empty-clause-err g c =
    let residues = g.S.Field.PrimeCharacteristicRing.residues in
    let laws = g.met.S.Field.PrimeCharacteristicRing.are_residues in
    let order_fits = g.met.S.Field.PrimeField64.fits_u64 in
    let coefficients = g.S.Extension.BasedVectorSpace.coefficients in
    let form = value_bytes residues.number coefficients in
    let here = c.loop-read.invariant in
    let sent = c.loop-read.sent.items in
    let left = c.loop-read.from.left.now in
    let count = c.in_ok-count.count in
    let count_is : count ≡ length (values_sent sent) = omega (
      arith,
      length-map sent value_sent,
      here.count,
      c.loop-read-test.false,
      c.loop-read.auto.read-end,
    ) in
    let fits : count < 2 ^ 64 = search rules in
    let whole : c.args.bytes.now ≡ listed_bytes form (values_sent sent) ++ left = sym c.new-from.ensures
    ∙ c.in_ok-count.ensures.read
    ∙ ap (λ m. number_bytes count ++ m) here.so_far
    ∙ sym (append_assoc (number_bytes count) (flat_map form (values_sent sent)) left)
    ∙ ap (λ n. (number_bytes n ++ flat_map form (values_sent sent)) ++ left) count_is in
    inr (λ values are. let both = listed-code IsSendable form (value-code residues.number coefficients
    g.S.Extension.BasedVectorSpace.DIMENSION (λ x. omega (arith, laws.below x, order_fits))
    (λ x y e. sym (laws.of_number x) ∙ ap residues.of e ∙ laws.of_number y)
    g.met.S.Extension.BasedVectorSpace.length_coefficients g.met.S.Extension.BasedVectorSpace.same_coefficients)
    (values_sent sent) values left [] (record { count = omega (arith, fits, count_is); each = here.held }) are.0
    (sym whole ∙ are.1 ∙ sym (append-nil (listed_bytes form values))) in
    cc (c.if-not-is_empty.ensures.1 both.1))

-- all are read, as many as were told
pub returns-clause-held : goal.returns-clause-held
returns-clause-held g c =
    let sent = c.loop-read.sent.items in
    record {
      count = omega (
        arith,
        length-map sent value_sent,
        c.loop-read.invariant.count,
        c.loop-read.auto.read-end,
        (let f : c.in_ok-count.count < 2 ^ 64 = search rules in f),
      );
      each = c.loop-read.invariant.held;
    }

-- one value more is read
pub loop-read-preserved : goal.loop-read-preserved
loop-read-preserved g c =
    let form = value_bytes g.S.Field.PrimeCharacteristicRing.residues.number g.S.Extension.BasedVectorSpace.coefficients in
    let here = c.loop-read.invariant in
    let sent = c.loop-read.sent.items in
    let value = c.in_ok-parse_value.field-0 in
    let left = c.parse_value.new.from.left.now in
    let grown : c.push.new.self.items ≡ sent ++ (value ∷ []) = c.in_ok-push.ensures.items in
    record {
      so_far = one_more_of value_sent form _ sent value _ left here.so_far c.in_ok-parse_value.ensures.ok
          ∙ ap (λ xs. flat_map form (values_sent xs) ++ left) (sym grown);
      count = omega (arith, ap length grown, length-append sent (value ∷ []), here.count);
      held = subst (λ xs. All IsSendable (values_sent xs)) (sym grown) (subst (All IsSendable)
          (sym (map_push value_sent sent value)) (All-push IsSendable (values_sent sent) (value_sent value) here.held
          c.in_ok-parse_value.ensures.held));
    }
