use Rattle.std.proofs.Common.{◌≡◌, take, string_bytes}
use Rattle.transcript_program.specs.Report as shown
use Rattle.transcript_program.proofs.report.number_items.Given as goal

abbrev pub invariant-loop-number : goal.invariant-loop-number
invariant-loop-number l = string_bytes l.text ≡ shown.number_items (take l.number-index l.numbers)
