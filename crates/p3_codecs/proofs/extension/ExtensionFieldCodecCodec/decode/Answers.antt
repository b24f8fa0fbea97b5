use Rattle.std.proofs.Common.{◌*◌, flat_map, arith}
use Rattle.p3_codecs.specs.ExtensionLaws.{length-wire, read-wire, read-only}
use Rattle.p3_fs_core.specs.{BigEndianLaws.drop-front, DecodingLaws.{decoded-found, decoded-only}}
use Rattle.p3_codecs.specs.Extension as extension
use Rattle.p3_codecs.proofs.extension.ExtensionFieldCodecCodec.decode.Goals as goal

pub returns-clause-found : goal.returns-clause-found
returns-clause-found g c =
    let codec = g.BaseCodec.Codec in
    let laws = g.met.BaseCodec.Codec in
    let space = g.EF.BasedVectorSpace in
    let met = g.met.EF.BasedVectorSpace in
    let n = space.DIMENSION in
    let bytes = c.args.bytes.now in
    decoded-found (λ x. flat_map codec.encoding.wire (space.coefficients x))
    (extension.read codec.encoding.read codec.encoding.width n space.element) (n * codec.encoding.width) bytes
    (λ x rest. read-only codec.encoding.wire codec.encoding.read codec.encoding.width laws.is_codec.encodes.fixed_width
    laws.is_codec.encodes.only_reads n space.coefficients space.element met.coefficients_element bytes x rest
    (λ i. omega (arith, c.type_inv.bytes i)))
    (λ x rest. drop-front (n * codec.encoding.width) (flat_map codec.encoding.wire (space.coefficients x)) rest
    (length-wire codec.encoding.wire codec.encoding.width laws.is_codec.encodes.fixed_width n space.coefficients
    met.length_coefficients x))
    c.decode_element.result c.decode_element.ensures

pub returns-clause-only : goal.returns-clause-only
returns-clause-only g c =
    let codec = g.BaseCodec.Codec in
    let laws = g.met.BaseCodec.Codec in
    let space = g.EF.BasedVectorSpace in
    let met = g.met.EF.BasedVectorSpace in
    let n = space.DIMENSION in
    decoded-only (λ x. flat_map codec.encoding.wire (space.coefficients x))
    (extension.read codec.encoding.read codec.encoding.width n space.element)
    (read-wire codec.encoding.wire codec.encoding.read codec.encoding.width laws.is_codec.encodes.fixed_width
    laws.is_codec.encodes.reads_back n space.coefficients space.element met.length_coefficients
    met.same_coefficients met.coefficients_element)
    c.args.bytes.now c.decode_element.result c.decode_element.ensures
