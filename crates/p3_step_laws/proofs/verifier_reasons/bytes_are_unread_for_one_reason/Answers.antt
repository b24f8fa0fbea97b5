use Rattle.std.proofs.Common.{rules}
use Rattle.p3_fs_core.specs.Alphabet.{alphabet_of}
use Rattle.p3_driver_core.specs.Reads.{received_bytes, received_bytes_bounded}
use Rattle.p3_step_laws.proofs.OneReason.{unread-one_reason}
use Rattle.p3_step_laws.proofs.verifier_reasons.bytes_are_unread_for_one_reason.Goals as goal

pub returns : goal.returns
returns g c =
    let alphabet = alphabet_of g.U.Unit.items g.U.Unit.is_too_long g.C.CanObserve.observation
    g.C.CanObserve.slice_may_leave in
    record {
      fixed = λ kind label n.
          unread-one_reason (received_bytes kind label alphabet n) (search rules) (search rules);
      counted = λ label max.
          unread-one_reason (received_bytes_bounded label alphabet max) (search rules) (search rules);
    }
