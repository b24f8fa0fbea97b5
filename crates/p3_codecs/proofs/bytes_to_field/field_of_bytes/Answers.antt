use Rattle.std.proofs.Common.{get_or}
use Rattle.p3_codecs.{specs.BytesToField.challenge_of, proofs.Following.following-step}
use Rattle.p3_codecs.proofs.bytes_to_field.field_of_bytes.Goals as goal

pub loop-byte-preserved : goal.loop-byte-preserved
loop-byte-preserved g c =
    let r = g.F.PrimeCharacteristicRing.residues in
    let bytes = c.args.bytes.now in
    let i = c.loop-byte.byte-index in
    following-step r g.met.F.PrimeCharacteristicRing.are_residues bytes i (get_or bytes i 0) c.loop-byte.number
    c.following-number.result (challenge_of r bytes)
    c.loop-byte-test.true (λ _. get_or bytes i 0) c.following-number.ensures c.loop-byte.invariant
