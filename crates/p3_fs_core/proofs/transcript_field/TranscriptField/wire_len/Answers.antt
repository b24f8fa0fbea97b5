use Rattle.std.{proofs.Common.{◌∙◌, ap}, specs.Int.div_ceil}
use Rattle.p3_fs_core.proofs.Widths.{counted-width-most}
use Rattle.p3_fs_core.proofs.transcript_field.TranscriptField.wire_len.Goals as goal

pub returns-clause-most : goal.returns-clause-most
returns-clause-most g c =
    counted-width-most g.Self.Field.bit_length g.Self.PrimeCharacteristicRing.residues.order c.div_ceil.result
    g.met.Self.Field.bits_least g.met.Self.PrimeField64.fits_u64 (c.div_ceil.ensures
    ∙ ap (λ bits. div_ceil bits 8) c.bits.ensures)
