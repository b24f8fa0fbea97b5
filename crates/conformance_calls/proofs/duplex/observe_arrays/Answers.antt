use Rattle.std.proofs.Common.{rules}
use denote.Memory.{lone}
use Rattle.conformance_calls.proofs.Layouts.{digest_fits}
use Rattle.conformance_calls.proofs.duplex.observe_arrays.Goals as goal

pub observe-requires-in-Digest-room-C-CanObserve-2 : goal.observe-requires-in-Digest-room-C-CanObserve-2
observe-requires-in-Digest-room-C-CanObserve-2 g c κs within =
    digest_fits (lone g.row.F.mir) g.row.N (search rules)
