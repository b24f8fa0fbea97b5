use Rattle.std.proofs.Common.{ap, sym, ◌∙◌, refl, arith}
use Rattle.p3_challenger.specs.{BigEndian.bytes_for, BigEndianLaws.length-in_bytes}
use Rattle.tealmuze_calls.specs.Rooms.{room_for}
use Rattle.tealmuze_calls.proofs.RoomBounds.{room_for_proofs, room_for_values}
use Rattle.tealmuze_calls.proofs.rooms.room_of_suite_suffices.Goals as goal

pub returns-clause-verify : goal.returns-clause-verify
returns-clause-verify g c description proof carried =
    let ring = g.S.Field.PrimeCharacteristicRing in
    let space = g.S.Extension.BasedVectorSpace in
    let met = g.met.S.Extension.BasedVectorSpace in
    let is = g.met.S.Field.PrimeCharacteristicRing.are_residues in
    let width = g.met.S.Codec.Codec.is_codec.encodes.fixed_width in
    room_for_proofs _ _ _ _ _ _ _
    ring.residues.number space.coefficients g.S.Called.opaque_numbers g.S.Called.are_opaque space.DIMENSION met.at_least_one
    (λ x y same. sym (is.of_number x) ∙ ap ring.residues.of same ∙ is.of_number y)
    met.length_coefficients met.same_coefficients g.met.S.Called.one_opaque (λ x. refl)
    (λ x. omega (arith, width x, g.met.S.Codec.ScalarCodec.some)) (λ x. omega (arith, width x, g.met.S.Called.few_bytes))
    (λ x. omega (arith, length-in_bytes (bytes_for g.S.Field.Field.bit_length) (ring.residues.number x), g.met.S.Called.few_bits))
    (room_for space.DIMENSION) (λ steps len. refl) g.S.Called.is_fresh description proof carried _

pub returns-clause-prove : goal.returns-clause-prove
returns-clause-prove g c description values =
    let ring = g.S.Field.PrimeCharacteristicRing in
    let space = g.S.Extension.BasedVectorSpace in
    let met = g.met.S.Extension.BasedVectorSpace in
    let is = g.met.S.Field.PrimeCharacteristicRing.are_residues in
    let width = g.met.S.Codec.Codec.is_codec.encodes.fixed_width in
    room_for_values _ _ _ _ _ _ _
    ring.residues.number space.coefficients g.S.Called.opaque_numbers g.S.Called.are_opaque space.DIMENSION met.at_least_one
    (λ x y same. sym (is.of_number x) ∙ ap ring.residues.of same ∙ is.of_number y)
    met.length_coefficients met.same_coefficients g.met.S.Called.one_opaque (λ x. refl)
    (λ x. omega (arith, width x, g.met.S.Codec.ScalarCodec.some)) (λ x. omega (arith, width x, g.met.S.Called.few_bytes))
    (λ x. omega (arith, length-in_bytes (bytes_for g.S.Field.Field.bit_length) (ring.residues.number x), g.met.S.Called.few_bits))
    (room_for space.DIMENSION) (λ steps len. refl) g.S.Called.is_fresh description values _
