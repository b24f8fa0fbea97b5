use Rattle.std.proofs.Common.{rules}
use Rattle.p3_fs_core.specs.Alphabet.{alphabet_of}
use Rattle.p3_driver_core.specs.Reads.{received, received_list, received_bounded}
use Rattle.p3_step_laws.proofs.OneReason.{unread-one_reason}
use Rattle.p3_step_laws.proofs.verifier_reasons.values_are_unread_for_one_reason.Goals as goal

pub returns : goal.returns
returns g c =
    let o = g.Cdc.Codec.observation in
    let e = g.Cdc.Codec.encoding in
    let alphabet = alphabet_of g.U.Unit.items g.U.Unit.is_too_long g.C.CanObserve.observation
    g.C.CanObserve.slice_may_leave in
    record {
      value = λ step. unread-one_reason (received step o e) (search rules) (search rules);
      list = λ step n. unread-one_reason (received_list step o e n) (search rules) (search rules);
      counted = λ step max.
          unread-one_reason (received_bounded step alphabet max o e) (search rules) (search rules);
    }
