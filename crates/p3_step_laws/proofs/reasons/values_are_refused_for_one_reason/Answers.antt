use Rattle.p3_challenger_core.specs.Observation.{in_row}
use Rattle.p3_fs_core.specs.Alphabet.{alphabet_of}
use Rattle.p3_step_laws.proofs.OneReason.{fed-one_reason, counted-one_reason, within-one_reason}
use Rattle.p3_step_laws.proofs.reasons.values_are_refused_for_one_reason.Goals as goal

pub returns : goal.returns
returns g c =
    let o = g.Cdc.Codec.observation in
    let alphabet = alphabet_of g.U.Unit.items g.U.Unit.is_too_long g.C.CanObserve.observation
    g.C.CanObserve.slice_may_leave in
    record {
      observed = λ step x. fed-one_reason step o x;
      observed_list = λ step xs. fed-one_reason step (in_row o) xs;
      observed_counted = λ step max xs. counted-one_reason step o alphabet max xs;
      sent = λ step x. fed-one_reason step o x;
      sent_list = λ step xs. fed-one_reason step (in_row o) xs;
      sent_counted = λ step max xs. counted-one_reason step o alphabet max xs;
      observed_within = λ step max xs. within-one_reason step o alphabet max xs;
      sent_within = λ step max xs. within-one_reason step o alphabet max xs;
    }
