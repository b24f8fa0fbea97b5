use Rattle.std.proofs.Common.{◌≡◌, ◌<◌, ◌∷◌, ◌++◌, None, map, get_or, IfSome, flat_map, ap, sym, subst, ◌∙◌, arith}
use Rattle.std.specs.List.{All}
use Rattle.std.proofs.lemmas.{List.length-map, List.Elements.All-map}
use Rattle.tealmuze_calls.specs.{Forms.{number_bytes, listed_bytes}, Readings.{AreSoMany, FitsWord}}
use Rattle.tealmuze_calls.proofs.{Codes.{number-code, listed-code, row-code}, Dues.{due, due_passed}}
use Rattle.tealmuze_calls.proofs.{Lemmas.{listed_of, flat_map_of, some_of_ok, none_of_err}, Numbers.{all_below, element_below}}
use Rattle.tealmuze_calls.proofs.Sendable.{value_view, scalars_in, extension_in}
use Rattle.tealmuze_calls.proofs.values.parse_value.Goals as goal

-- scalars
pub returns-in_ok-scalars-in-2-clause-ok : goal.returns-in_ok-scalars-in-2-clause-ok
returns-in_ok-scalars-in-2-clause-ok g c =
    let number = g.S.Field.PrimeCharacteristicRing.residues.number in
    let left = c.numbers.new.self.left.now in
    c.in_ok-byte.ensures.read ∙ ap (λ b. b ∷ c.byte.new.self.left.now) c.in-2.is
    ∙ ap (λ m. 2 ∷ m) (c.in_ok-numbers-in-2.ensures.read
    ∙ ap (λ ns. listed_bytes number_bytes ns ++ left) (sym c.as_slice.ensures.value ∙ sym c.in_ok-scalars-in-2.ensures.ok)
    ∙ ap (λ b. b ++ left) (listed_of number number_bytes c.in_ok-scalars-in-2.field-0.items))

-- an element of the extension
pub returns-in_ok-ok_or-in-3-clause-ok : goal.returns-in_ok-ok_or-in-3-clause-ok
returns-in_ok-ok_or-in-3-clause-ok g c =
    let number = g.S.Field.PrimeCharacteristicRing.residues.number in
    let element = c.in_ok-ok_or-in-3.field-0 in
    let coefficients = g.S.Extension.BasedVectorSpace.coefficients element in
    let left = c.so_many.new.self.left.now in
    let numbers_are : map number coefficients ≡ c.as_slice-in-3.result.now =
    subst (λ o. IfSome o (λ x. map number (g.S.Extension.BasedVectorSpace.coefficients x) ≡ c.as_slice-in-3.result.now))
    (some_of_ok c.element.result _ element (sym c.ok_or-in-3.ensures.value ∙ c.in_ok-ok_or-in-3.was)) c.element.ensures.some in
    c.in_ok-byte.ensures.read ∙ ap (λ b. b ∷ c.byte.new.self.left.now) c.in-3.is
    ∙ ap (λ m. 3 ∷ m) (c.in_ok-numbers-in-3.ensures.read
    ∙ ap (λ ns. flat_map number_bytes ns ++ left) (sym c.as_slice-in-3.ensures.value ∙ sym numbers_are)
    ∙ ap (λ b. b ++ left) (flat_map_of number number_bytes coefficients))

-- ---- no value stands there

pub returns-in_err-numbers-in-2-clause-err : goal.returns-in_err-numbers-in-2-clause-err
returns-in_err-numbers-in-2-clause-err g c =
    let number = g.S.Field.PrimeCharacteristicRing.residues.number in
    let order = g.S.Field.PrimeCharacteristicRing.residues.order in
    let below = g.met.S.Field.PrimeCharacteristicRing.are_residues.below in
    let order_fits = g.met.S.Field.PrimeField64.fits_u64 in
    let coefficients = g.S.Extension.BasedVectorSpace.coefficients in
    let what = c.in_ok-byte.field-0 in
    let rest = c.byte.new.self.left.now in
    due_passed c.from_residual-in_err-numbers-in-2.result _ _ _ (λ none v found.
    let some = scalars_in number coefficients what rest found.0 c.in-2.is (value_view number coefficients v c.args.from.now.left.now rest found.0 what found.1.0
    found.1.1 c.in_ok-byte.ensures.read) in
    none (map number some.0) found.0 (record {
      count = subst (λ n. FitsWord n) (sym (length-map some.0 number)) some.1;
      each = All-map FitsWord number some.0 (λ k d less. omega (arith, below (get_or some.0 k d), order_fits));
    }) (some.2 ∙ ap (λ b. b ++ found.0) (sym (listed_of number number_bytes some.0))))
    c.from_residual-in_err-numbers-in-2.ensures.1 c.in_err-numbers-in-2.ensures.err

pub returns-in_err-scalars-in-2-clause-err : goal.returns-in_err-scalars-in-2-clause-err
returns-in_err-scalars-in-2-clause-err g c =
    let number = g.S.Field.PrimeCharacteristicRing.residues.number in
    let order = g.S.Field.PrimeCharacteristicRing.residues.order in
    let below = g.met.S.Field.PrimeCharacteristicRing.are_residues.below in
    let order_fits = g.met.S.Field.PrimeField64.fits_u64 in
    let coefficients = g.S.Extension.BasedVectorSpace.coefficients in
    let what = c.in_ok-byte.field-0 in
    let rest = c.byte.new.self.left.now in
    due_passed c.from_residual-in_err-scalars-in-2.result _ _ _ (λ none v found.
    let some = scalars_in number coefficients what rest found.0 c.in-2.is (value_view number coefficients v c.args.from.now.left.now rest found.0 what found.1.0
    found.1.1 c.in_ok-byte.ensures.read) in
    let same = listed-code FitsWord number_bytes number-code c.in_ok-numbers-in-2.numbers.items (map number some.0)
    c.numbers.new.self.left.now found.0 c.in_ok-numbers-in-2.ensures.held (record {
      count = subst (λ n. FitsWord n) (sym (length-map some.0 number)) some.1;
      each = All-map FitsWord number some.0 (λ k d less. omega (arith, below (get_or some.0 k d), order_fits));
    }) (sym c.in_ok-numbers-in-2.ensures.read ∙ some.2
    ∙ ap (λ b. b ++ found.0) (sym (listed_of number number_bytes some.0))) in
    none (subst (All (λ n. n < order)) (sym (c.as_slice.ensures.value ∙ same.0)) (all_below number order below some.0)))
    c.from_residual-in_err-scalars-in-2.ensures.1 c.in_err-scalars-in-2.ensures.err

pub returns-in_err-numbers-in-3-clause-err : goal.returns-in_err-numbers-in-3-clause-err
returns-in_err-numbers-in-3-clause-err g c =
    let number = g.S.Field.PrimeCharacteristicRing.residues.number in
    let order = g.S.Field.PrimeCharacteristicRing.residues.order in
    let below = g.met.S.Field.PrimeCharacteristicRing.are_residues.below in
    let order_fits = g.met.S.Field.PrimeField64.fits_u64 in
    let coefficients = g.S.Extension.BasedVectorSpace.coefficients in
    let what = c.in_ok-byte.field-0 in
    let rest = c.byte.new.self.left.now in
    let dimension = g.S.Extension.BasedVectorSpace.DIMENSION in
    let long = g.met.S.Extension.BasedVectorSpace.length_coefficients in
    due_passed c.from_residual-in_err-numbers-in-3.result _ _ _ (λ none v found.
    let some = extension_in number coefficients what rest found.0 c.in-3.is (value_view number coefficients v c.args.from.now.left.now rest found.0 what found.1.0
    found.1.1 c.in_ok-byte.ensures.read) in
    none (map number (coefficients some.0)) found.0 (record {
      count_is = length-map (coefficients some.0) number ∙ long some.0 ∙ sym c.DIMENSION.ensures;
      each = All-map FitsWord number (coefficients some.0)
          (λ k d less. omega (arith, below (get_or (coefficients some.0) k d), order_fits));
    }) (some.1 ∙ ap (λ b. b ++ found.0) (sym (flat_map_of number number_bytes (coefficients some.0)))))
    c.from_residual-in_err-numbers-in-3.ensures.1 c.in_err-numbers-in-3.ensures.err

pub returns-in_err-ok_or-in-3-clause-err : goal.returns-in_err-ok_or-in-3-clause-err
returns-in_err-ok_or-in-3-clause-err g c =
    let number = g.S.Field.PrimeCharacteristicRing.residues.number in
    let order = g.S.Field.PrimeCharacteristicRing.residues.order in
    let below = g.met.S.Field.PrimeCharacteristicRing.are_residues.below in
    let order_fits = g.met.S.Field.PrimeField64.fits_u64 in
    let coefficients = g.S.Extension.BasedVectorSpace.coefficients in
    let what = c.in_ok-byte.field-0 in
    let rest = c.byte.new.self.left.now in
    let dimension = g.S.Extension.BasedVectorSpace.DIMENSION in
    let long = g.met.S.Extension.BasedVectorSpace.length_coefficients in
    let none : c.element.result ≡ None = none_of_err c.element.result _ _
    (sym c.ok_or-in-3.ensures.value ∙ c.in_err-ok_or-in-3.was) in
    let no = rw none at c.element.ensures.none in
    due _ c.from_residual-in_err-ok_or-in-3.result _ c.from_residual-in_err-ok_or-in-3.ensures.1 (λ v found.
    let some = extension_in number coefficients what rest found.0 c.in-3.is (value_view number coefficients v c.args.from.now.left.now rest found.0 what found.1.0
    found.1.1 c.in_ok-byte.ensures.read) in
    let are = element_below number order below coefficients dimension long some.0 in
    let same = row-code FitsWord number_bytes number-code c.in_ok-numbers-in-3.numbers.items (map number (coefficients some.0))
    c.so_many.new.self.left.now found.0 c.in_ok-numbers-in-3.ensures.held.each
    (All-map FitsWord number (coefficients some.0)
    (λ k d less. omega (arith, below (get_or (coefficients some.0) k d), order_fits)))
    (c.in_ok-numbers-in-3.ensures.count ∙ c.DIMENSION.ensures ∙ sym are.count_is)
    (sym c.in_ok-numbers-in-3.ensures.read ∙ some.1
    ∙ ap (λ b. b ++ found.0) (sym (flat_map_of number number_bytes (coefficients some.0)))) in
    no (subst (AreSoMany dimension (λ n. n < order)) (sym (c.as_slice-in-3.ensures.value ∙ same.0)) are))
