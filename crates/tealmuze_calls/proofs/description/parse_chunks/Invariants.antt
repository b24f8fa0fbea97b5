use Rattle.std.proofs.Common.{◌≡◌, ◌++◌, length, map}
use Rattle.std.specs.List.{All, flat_map}
use Rattle.tealmuze_calls.specs.{Forms.counted_bytes, Readings.FitsWord}
use Rattle.tealmuze_calls.proofs.description.parse_chunks.Given as goal

-- so many are read
abbrev pub invariant-loop-read : goal.invariant-loop-read
invariant-loop-read l =
    record {
      so_far : l.initial.from.left.now
          ≡ flat_map counted_bytes (map (λ chunk. chunk.now) l.chunks.items) ++ l.from.left.now;
      count : length l.chunks.items ≡ l.read;
      held : All (λ chunk. FitsWord (length chunk.now)) l.chunks.items;
    }
