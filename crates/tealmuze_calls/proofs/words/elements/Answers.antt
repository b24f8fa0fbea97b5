use Rattle.std.proofs.Common.{◌≡◌, ◌<◌, ◌++◌, length, map, take, take-append-drop, inr, ap, sym, subst, ◌∙◌, arith, length-append}
use Rattle.tealmuze_calls.specs.Readings.{AreSoMany}
use Rattle.tealmuze_calls.proofs.{Codes.same_length-code, Numbers.{element_below, no_elements}}
use Rattle.tealmuze_calls.proofs.words.elements.Goals as goal

-- what comes next is of no element
pub returns-in-None-clause-err : goal.returns-in-None-clause-err
returns-in-None-clause-err g c =
    let number = g.F.PrimeCharacteristicRing.residues.number in
    let order = g.F.PrimeCharacteristicRing.residues.order in
    let coefficients = g.E.BasedVectorSpace.coefficients in
    let dimension = g.E.BasedVectorSpace.DIMENSION in
    let below = g.met.F.PrimeCharacteristicRing.are_residues.below in
    let long = g.met.E.BasedVectorSpace.length_coefficients in
    let left = c.loop-head.left.now in
    let head = c.in-Some.head.now in
    let tail = c.in-Some.tail.now in
    let split = c.in-Some.ensures.cases in
    let mid = c.DIMENSION.result in
    let whole : head ++ tail ≡ left = ap (λ h. h ++ tail) split.1 ∙ ap (λ t. take mid left ++ t) split.2
    ∙ take-append-drop mid left in
    inr (λ ys is. no_elements number order below coefficients dimension long
    c.loop-head.elements.items ys left c.args.numbers.now c.loop-head.invariant
    (λ nil. omega (arith, ap length nil, split.0, c.DIMENSION.ensures, g.met.E.BasedVectorSpace.at_least_one))
    (λ x rest begins.
    let are = element_below number order below coefficients dimension long x in
    let same = same_length-code head (map number (coefficients x)) tail rest (split.3 ∙ c.DIMENSION.ensures ∙ sym are.count_is) (whole ∙ begins) in
    c.in-None.ensures.none (subst (AreSoMany dimension (λ n. n < order)) (sym same.0) are)) is)

-- too few numbers are left
pub returns-then-not-is_empty-clause-err : goal.returns-then-not-is_empty-clause-err
returns-then-not-is_empty-clause-err g c =
    let number = g.F.PrimeCharacteristicRing.residues.number in
    let coefficients = g.E.BasedVectorSpace.coefficients in
    let dimension = g.E.BasedVectorSpace.DIMENSION in
    let below = g.met.F.PrimeCharacteristicRing.are_residues.below in
    let long = g.met.E.BasedVectorSpace.length_coefficients in
    inr (λ ys is. no_elements number g.F.PrimeCharacteristicRing.residues.order below coefficients dimension long
    c.loop-head.elements.items ys c.loop-head.left.now c.args.numbers.now c.loop-head.invariant
    (λ nil. grind (arith, ap length nil, c.if-not-is_empty.ensures))
    (λ x rest begins. omega (
      arith,
      c.in_default.ensures.cases,
      c.DIMENSION.ensures,
      ap length begins,
      length-append (map number (coefficients x)) rest,
      (element_below number g.F.PrimeCharacteristicRing.residues.order below coefficients dimension long x).count_is,
    )) is)
