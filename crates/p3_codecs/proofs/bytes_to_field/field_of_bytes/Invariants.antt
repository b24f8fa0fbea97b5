use Rattle.std.proofs.Common.{◌≡◌, drop}
use Rattle.p3_fs_core.specs.BigEndian.{big_endian_after}
use Rattle.p3_codecs.specs.BytesToField.{challenge_of}
use Rattle.p3_codecs.proofs.bytes_to_field.field_of_bytes.Given as goal

-- the bytes that are left, after the number so far, give what all of them give
abbrev pub invariant-loop-byte : goal.invariant-loop-byte
invariant-loop-byte g l =
    let r = g.F.PrimeCharacteristicRing.residues in
    r.of (big_endian_after (r.number l.number) (drop l.byte-index l.bytes)) ≡ challenge_of r l.bytes
