use Rattle.std.proofs.Common.{rules}
use denote.Memory.{lone}
use Rattle.conformance_calls.proofs.Layouts.{digest_fits}
use Rattle.conformance_calls.proofs.multi_field.observe_cells.Goals as goal

pub observe_digests-requires-room-C-CanObserve-1-2 : goal.observe_digests-requires-room-C-CanObserve-1-2
observe_digests-requires-room-C-CanObserve-1-2 g c κs within =
    digest_fits (lone g.row.PF.mir) g.row.N (search rules)
