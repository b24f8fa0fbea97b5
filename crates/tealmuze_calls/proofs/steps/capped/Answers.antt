use Rattle.std.proofs.Common.{◌≡◌, ◌<◌, subst}
use Rattle.std.specs.List.{All}
use Rattle.tealmuze_calls.proofs.{Dues.due_passed, Views.{view_of, scalars_within, elements_within}}
use Rattle.tealmuze_calls.proofs.steps.capped.Goals as goal

pub returns-in_err-scalars-in-24-clause-err : goal.returns-in_err-scalars-in-24-clause-err
returns-in_err-scalars-in-24-clause-err g c =
    let number = g.S.Field.PrimeCharacteristicRing.residues.number in
    let order = g.S.Field.PrimeCharacteristicRing.residues.order in
    let coefficients = g.S.Extension.BasedVectorSpace.coefficients in
    let dimension = g.S.Extension.BasedVectorSpace.DIMENSION in
    let are_opaque = g.S.Called.are_opaque in
    due_passed c.from_residual.result _ _ _ (λ none s read. let some = scalars_within number order dimension
    coefficients are_opaque c.args.what _ c.in-24.is (view_of number order dimension coefficients g.S.Called.opaque_numbers are_opaque
    g.met.S.Field.PrimeCharacteristicRing.are_residues.below
    g.met.S.Extension.BasedVectorSpace.length_coefficients c.args.what c.args.label.now _ s read.1) in
    let same : some.1.0 ≡ c.args.numbers.now = cc some.1.1.1 in none (subst (All (λ n. n < order)) same some.1.1.0))
    c.from_residual.ensures.1 c.in_err-scalars-in-24.ensures.err

pub returns-in_err-elements-in-25-clause-err : goal.returns-in_err-elements-in-25-clause-err
returns-in_err-elements-in-25-clause-err g c =
    let number = g.S.Field.PrimeCharacteristicRing.residues.number in
    let order = g.S.Field.PrimeCharacteristicRing.residues.order in
    let coefficients = g.S.Extension.BasedVectorSpace.coefficients in
    let dimension = g.S.Extension.BasedVectorSpace.DIMENSION in
    let are_opaque = g.S.Called.are_opaque in
    due_passed c.from_residual-in_err-elements-in-25.result _ _ _ (λ none s read. let some = elements_within number order dimension
    coefficients are_opaque c.args.what _ c.in-25.is (view_of number order dimension coefficients g.S.Called.opaque_numbers are_opaque
    g.met.S.Field.PrimeCharacteristicRing.are_residues.below
    g.met.S.Extension.BasedVectorSpace.length_coefficients c.args.what c.args.label.now _ s read.1) in none some.1.0 (cc some.1.1))
    c.from_residual-in_err-elements-in-25.ensures.1 c.in_err-elements-in-25.ensures.err
