use Rattle.std.proofs.Common.{◌≡◌, ◌++◌, length}
use Rattle.std.specs.List.{All, flat_map}
use Rattle.tealmuze_calls.specs.{Forms.number_bytes, Readings.FitsWord}
use Rattle.tealmuze_calls.proofs.cursor.Cursor.so_many.Given as goal

-- so many are read
abbrev pub invariant-loop-read : goal.invariant-loop-read
invariant-loop-read l =
    record {
      so_far : l.initial.self.left.now ≡ flat_map number_bytes l.numbers.items ++ l.self.left.now;
      count : length l.numbers.items ≡ l.read;
      held : All FitsWord l.numbers.items;
    }
