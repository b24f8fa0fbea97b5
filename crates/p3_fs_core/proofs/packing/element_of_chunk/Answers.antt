use Rattle.std.proofs.Common.{◌<◌, length, arith}
use Rattle.p3_fs_core.specs.PackingLaws.{little_endian-below, chunk-below, chunk_bytes-positive}
use Rattle.p3_fs_core.proofs.Packed.{chunk-most}
use Rattle.p3_fs_core.proofs.packing.element_of_chunk.Goals as goal

pub number_of_chunk-requires : goal.number_of_chunk-requires
number_of_chunk-requires g c =
    omega (
      arith,
      c.requires.short,
      chunk-most g.F.Field.bit_length g.F.PrimeCharacteristicRing.residues.order
          g.met.F.Field.bits_least g.met.F.PrimeField64.fits_u64,
    )

-- so many bytes are a number below the order
pub from_canonical-requires : goal.from_canonical-requires
from_canonical-requires g c =
    let chunk = c.args.chunk.now in
    let bits = g.F.Field.bit_length in
    let order = g.F.PrimeCharacteristicRing.residues.order in
    let some = chunk_bytes-positive bits order c.requires.order g.met.F.Field.bits_below in
    let positive : 0 < bits = omega (arith, some) in
    let below = little_endian-below chunk (λ k. omega (arith, c.type_inv.chunk k)) in
    let fits = chunk-below bits order (length chunk) g.met.F.Field.bits_least positive c.requires.short in
    omega (arith, below, fits, c.number_of_chunk.ensures)
