use Rattle.std.proofs.Common.{ℕ, ◌≤◌, ◌-◌, ◌/◌, sym, subst}
use Rattle.p3_fs_core.proofs.Packed.{chunk-most}
use Rattle.p3_fs_core.proofs.packing.bytes_per_element.Goals as goal

pub returns-clause-most : goal.returns-clause-most
returns-clause-most g c =
    subst (λ (bits : ℕ). (bits - 1) / 8 ≤ 8) (sym c.bits.ensures)
    (chunk-most g.F.Field.bit_length g.F.PrimeCharacteristicRing.residues.order g.met.F.Field.bits_least
    g.met.F.PrimeField64.fits_u64)
