use Rattle.std.proofs.Common.{◌≡◌, take, string_bytes}
use Rattle.transcript_program.specs.Report as shown
use Rattle.transcript_program.proofs.report.scalar_items.Given as goal

abbrev pub invariant-loop-scalar : goal.invariant-loop-scalar
invariant-loop-scalar l = string_bytes l.text ≡ shown.scalar_items (take l.scalar-index l.scalars)
