use Rattle.std.proofs.{Common.{◌≡◌, ◌<◌, ◌^◌, ◌∷◌, ◌++◌, [], length, length-append, arith, rules, append_assoc, ap, sym, subst, ◌∙◌}, lemmas.List.Elements.All-push}
use Rattle.std.specs.List.{All, flat_map}
use Rattle.tealmuze_calls.specs.{Descriptions.{HasForm, HasText, HasHeldParts, step_bytes}, Forms.number_bytes}
use Rattle.tealmuze_calls.proofs.{Lemmas.one_more, Dues.due_passed, Readers.step_divides, Rest.listed-next}
use Rattle.tealmuze_calls.proofs.description.parse_steps.Goals as goal

-- one step more is read
pub loop-position-preserved : goal.loop-position-preserved
loop-position-preserved g c =
    let number = g.S.Field.PrimeCharacteristicRing.residues.number in
    let coefficients = g.S.Extension.BasedVectorSpace.coefficients in
    let opaque = g.S.Called.opaque_numbers in
    let steps = c.loop-position.steps.items in
    let step = c.in_ok-parse_next.field-0 in
    let left = c.parse_next.new.from.left.now in
    let grown : c.push.new.self.items ≡ steps ++ (step ∷ []) = c.in_ok-push.ensures.items in
    record {
      formed = subst (All (HasForm number coefficients opaque g.S.Called.are_opaque)) (sym grown)
          (All-push (HasForm number coefficients opaque g.S.Called.are_opaque) steps step c.loop-position.invariant.formed
          c.in_ok-parse_next.ensures.ok.formed);
      texts = subst (All (HasText number coefficients opaque)) (sym grown)
          (All-push (HasText number coefficients opaque) steps step c.loop-position.invariant.texts
          c.in_ok-parse_next.ensures.ok.text);
      held = subst (All (HasHeldParts number coefficients opaque)) (sym grown)
          (All-push (HasHeldParts number coefficients opaque) steps step c.loop-position.invariant.held
          c.in_ok-parse_next.ensures.ok.held);
      so_far = one_more (step_bytes number coefficients opaque) _ steps step _ left c.loop-position.invariant.so_far
          c.in_ok-parse_next.ensures.ok.begins
          ∙ ap (λ xs. flat_map (step_bytes number coefficients opaque) xs ++ left) (sym grown);
      count = omega (arith, ap length grown, length-append steps (step ∷ []), c.loop-position.invariant.count);
    }

-- all are read, as many as were told
pub returns-clause-ok : goal.returns-clause-ok
returns-clause-ok g c =
    let number = g.S.Field.PrimeCharacteristicRing.residues.number in
    let coefficients = g.S.Extension.BasedVectorSpace.coefficients in
    let steps = c.loop-position.steps.items in
    let body = flat_map (step_bytes number coefficients g.S.Called.opaque_numbers) steps in
    let left = c.loop-position.from.left.now in
    let count = c.in_ok-count.count in
    let count_is : count ≡ length steps = omega (
      arith,
      c.loop-position.invariant.count,
      c.loop-position-test.false,
      c.loop-position.auto.position-end,
    ) in
    let fits : count < 2 ^ 64 = search rules in
    record {
      formed = c.loop-position.invariant.formed;
      texts = c.loop-position.invariant.texts;
      held = record { count = omega (arith, fits, count_is); each = c.loop-position.invariant.held };
      begins = c.in_ok-count.ensures.read ∙ ap (λ m. number_bytes count ++ m) c.loop-position.invariant.so_far
          ∙ sym (append_assoc (number_bytes count) body left) ∙ ap (λ n. (number_bytes n ++ body) ++ left) count_is;
    }

-- a step is missing
pub returns-in_err-parse_next-clause-err : goal.returns-in_err-parse_next-clause-err
returns-in_err-parse_next-clause-err g c =
    let number = g.S.Field.PrimeCharacteristicRing.residues.number in
    let coefficients = g.S.Extension.BasedVectorSpace.coefficients in
    let opaque = g.S.Called.opaque_numbers in
    let are_opaque = g.S.Called.are_opaque in
    let steps = c.loop-position.steps.items in
    let here = c.loop-position.invariant in
    let less : length steps < c.in_ok-count.count = omega (arith, here.count, c.loop-position-test.true) in
    due_passed c.from_residual-in_err-parse_next.result _ _ _ (λ none others read.
    let are = read.1 in
    listed-next (λ s. HasForm number coefficients opaque are_opaque s × (HasText number coefficients opaque s
    × HasHeldParts number coefficients opaque s)) (step_bytes number coefficients opaque)
    (λ s t a b s_is t_is e. step_divides number coefficients opaque are_opaque s t a b s_is.1.1 t_is.1.1 e) ⊥
    c.args.from.now.left.now c.number.new.self.left.now c.loop-position.from.left.now read.0 c.in_ok-count.count steps
    others c.in_ok-count.ensures.read (let f : c.in_ok-count.count < 2 ^ 64 = search rules in f) here.so_far less
    (λ k d below. (here.formed k d below, (here.texts k d below, here.held k d below))) are.held.count
    (λ k d below. (are.formed k d below, (are.texts k d below, are.held.each k d below))) are.begins
    (λ s left is begins. none s (left, record { formed = is.0; text = is.1.0; held = is.1.1; begins = begins })))
    c.from_residual-in_err-parse_next.ensures.1 c.in_err-parse_next.ensures.err
