use Rattle.std.proofs.Common.{◌≡◌, ◌++◌, take}
use Rattle.std.specs.List.{flat_map}
use Rattle.tealmuze_calls.specs.Forms.{number_bytes}
use Rattle.tealmuze_calls.proofs.answers.put_numbers.Given as goal

-- the numbers so far are there
abbrev pub invariant-loop-number : goal.invariant-loop-number
invariant-loop-number l = l.to.items ≡ l.initial.to.items ++ flat_map number_bytes (take l.number-index l.numbers)
