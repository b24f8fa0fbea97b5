use Rattle.std.proofs.Common.{inl, inr}
use Rattle.tealmuze_calls.proofs.{Dues.{due_passed, due_or}, Views.{view_of, scalar_in, scalars_in, element_in, elements_in}}
use Rattle.tealmuze_calls.proofs.steps.known.Goals as goal

pub returns-in_err-scalars-in-20-clause-err : goal.returns-in_err-scalars-in-20-clause-err
returns-in_err-scalars-in-20-clause-err g c =
    let number = g.S.Field.PrimeCharacteristicRing.residues.number in
    let order = g.S.Field.PrimeCharacteristicRing.residues.order in
    let coefficients = g.S.Extension.BasedVectorSpace.coefficients in
    let dimension = g.S.Extension.BasedVectorSpace.DIMENSION in
    let are_opaque = g.S.Called.are_opaque in
    due_passed c.from_residual.result _ _ _ (λ none s read. none (scalars_in number order dimension coefficients are_opaque
    c.args.what c.args.numbers.now c.in-20.is (view_of number order dimension coefficients g.S.Called.opaque_numbers
    are_opaque g.met.S.Field.PrimeCharacteristicRing.are_residues.below g.met.S.Extension.BasedVectorSpace.length_coefficients c.args.what c.args.label.now c.args.numbers.now s read.2)))
    c.from_residual.ensures.1 c.in_err-scalars-in-20.ensures.err

pub returns-in-19-clause-err : goal.returns-in-19-clause-err
returns-in-19-clause-err g c =
    let number = g.S.Field.PrimeCharacteristicRing.residues.number in
    let order = g.S.Field.PrimeCharacteristicRing.residues.order in
    let coefficients = g.S.Extension.BasedVectorSpace.coefficients in
    let dimension = g.S.Extension.BasedVectorSpace.DIMENSION in
    let are_opaque = g.S.Called.are_opaque in
    due_or c.one_known.result _ c.ok_or.result _ c.ok_or.ensures.value (λ none s read. let seen = (view_of number order dimension coefficients g.S.Called.opaque_numbers are_opaque
    g.met.S.Field.PrimeCharacteristicRing.are_residues.below
    g.met.S.Extension.BasedVectorSpace.length_coefficients c.args.what c.args.label.now c.args.numbers.now s read.2) in
    elim c.in-19.is [
      | inl is ↦ let some = scalar_in number order dimension coefficients are_opaque c.args.what c.args.numbers.now is seen in
          (rw none at c.one_known.ensures.scalar) is some.0 some.1 some.2
      | inr is ↦ (rw none at c.one_known.ensures.element) is
          (element_in number order dimension coefficients are_opaque c.args.what c.args.numbers.now is seen)
    ])

pub returns-in_err-elements-in-22-clause-err : goal.returns-in_err-elements-in-22-clause-err
returns-in_err-elements-in-22-clause-err g c =
    let number = g.S.Field.PrimeCharacteristicRing.residues.number in
    let order = g.S.Field.PrimeCharacteristicRing.residues.order in
    let coefficients = g.S.Extension.BasedVectorSpace.coefficients in
    let dimension = g.S.Extension.BasedVectorSpace.DIMENSION in
    let are_opaque = g.S.Called.are_opaque in
    due_passed c.from_residual-in_err-elements-in-22.result _ _ _ (λ none s read. let some = elements_in number order dimension
    coefficients are_opaque c.args.what c.args.numbers.now c.in-22.is (view_of number order dimension coefficients g.S.Called.opaque_numbers are_opaque
    g.met.S.Field.PrimeCharacteristicRing.are_residues.below
    g.met.S.Extension.BasedVectorSpace.length_coefficients c.args.what c.args.label.now c.args.numbers.now s read.2) in none some.0 some.1)
    c.from_residual-in_err-elements-in-22.ensures.1 c.in_err-elements-in-22.ensures.err
