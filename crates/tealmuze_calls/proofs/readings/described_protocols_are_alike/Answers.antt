use Rattle.std.proofs.Common.{ap, sym, ◌∙◌, refl}
use Rattle.p3_challenger.specs.Kind.TheVariants as kind
use Rattle.tealmuze_calls.proofs.Alike.{described-alike}
use Rattle.tealmuze_calls.proofs.readings.described_protocols_are_alike.Goals as goal

pub returns : goal.returns
returns g c =
    let ring = g.S.Field.PrimeCharacteristicRing in
    let space = g.S.Extension.BasedVectorSpace in
    let met = g.met.S.Extension.BasedVectorSpace in
    let is = g.met.S.Field.PrimeCharacteristicRing.are_residues in
    described-alike ring.residues.number space.coefficients g.S.Called.opaque_numbers g.S.Called.are_opaque space.DIMENSION met.at_least_one
    (λ x y same. sym (is.of_number x) ∙ ap ring.residues.of same ∙ is.of_number y)
    met.length_coefficients met.same_coefficients g.met.S.Called.one_opaque
    (elim [
      | kind.Protocol ↦ refl
      | kind.Public ↦ refl
      | kind.Message ↦ refl
      | kind.Hint ↦ refl
      | kind.Challenge ↦ refl
      | kind.Pow ↦ refl
      | kind.Salt ↦ refl
    ]) _
