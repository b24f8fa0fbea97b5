use Rattle.std.proofs.Common.{◌≡◌, ◌-◌, length, drop}
use Rattle.p3_fs_core.specs.Packing.{little_endian}
use Rattle.p3_fs_core.proofs.little_endian.number_of_chunk.Given as goal

-- the number of the last bytes
abbrev pub invariant-loop-i : goal.invariant-loop-i
invariant-loop-i l = l.number ≡ little_endian (drop (length l.bytes - l.i) l.bytes)
