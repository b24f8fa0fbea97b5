use Rattle.std.proofs.Common.{◌≡◌, ◌≤◌, length}
use Rattle.transcript_program.proofs.arguments.parse_between_commas.Given as goal

-- the parts so far
abbrev pub invariant-loop-part : goal.invariant-loop-part
invariant-loop-part l =
    record {
      kept : l.parts.items ≡ l.yielded;
      few : length l.yielded ≤ 4;
    }
