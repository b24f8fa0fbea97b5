use Rattle.std.proofs.Common.{◌++◌, ap, ◌∙◌}
use Rattle.p3_fs_core.specs.{BigEndian.bytes_for, BigEndianLaws.word_end}
use Rattle.p3_fs_core.proofs.transcript_field.TranscriptField.encode.Goals as goal

pub returns-clause-ok : goal.returns-clause-ok
returns-clause-ok g c =
    let r = g.Self.PrimeCharacteristicRing.residues in
    let width = bytes_for g.Self.Field.bit_length in
    c.in_ok-extend_from_slice.ensures.items
    ∙ ap (λ bytes. c.args.out.now.items ++ bytes)
    (word_end width c.wire_len.result (r.number c.args.value.now) c.as_canonical_u64.result
    c.to_be_bytes-number.result
    c.wire_len.ensures.width c.wire_len.ensures.most c.as_canonical_u64.ensures
    c.to_be_bytes-number.ensures)
