-- Each kind of step, by the law of what it does.
use Rattle.p3_fs_core.specs.declared.step.Kind.TheVariants as kind
use Rattle.p3_runs.specs.Values.{bytes_in, scalar_in, scalars_in, extension_in}
use Rattle.p3_script.proofs.OneReason.{known-one_reason, same-one_reason, sent-one_reason, witness-one_reason}
use Rattle.p3_script.proofs.OneReason.{carried-one_reason, some-one_reason, kept_within, written, written_within}
use Rattle.p3_script.specs.declared.steps.Step.TheVariants as step
use Rattle.p3_script.proofs.reasons.script_steps_are_refused_for_one_reason.Goals as goal

pub returns : goal.returns
returns g c (step.Salt label len) may =
    sent-one_reason bytes_in _ _
    (λ x. written _ (c.bytes_are_refused_for_one_reason.ensures.fixed kind.Salt label.now x))
    (c.bytes_are_unread_for_one_reason.ensures.fixed _ _ len)
returns g c (step.Bytes label len) may =
    sent-one_reason bytes_in _ _
    (λ x. written _ (c.bytes_are_refused_for_one_reason.ensures.fixed kind.Message label.now x))
    (c.bytes_are_unread_for_one_reason.ensures.fixed _ _ len)
returns g c (step.BytesBounded label max) may =
    sent-one_reason bytes_in _ _
    (λ x. written_within _ _ _ (c.bytes_are_refused_for_one_reason.ensures.within kind.Message label.now max x))
    (c.bytes_are_unread_for_one_reason.ensures.counted _ max)
returns g c (step.Hint label len) may =
    sent-one_reason bytes_in _ _ (λ x. written _ (c.hints_are_refused_for_one_reason.ensures.fixed label.now x))
    (c.hints_are_unread_for_one_reason.ensures.fixed _ len)
returns g c (step.HintBounded label max) may =
    sent-one_reason bytes_in _ _
    (λ x. written_within _ _ _ (c.hints_are_refused_for_one_reason.ensures.within label.now max x))
    (c.hints_are_unread_for_one_reason.ensures.counted _ max)
returns g c (step.Scalar label) may =
    sent-one_reason scalar_in _ _ (λ x. written _ (c.values_are_refused_for_one_reason.ensures.sent _ x))
    (c.values_are_unread_for_one_reason.ensures.value _)
returns g c (step.Scalars label n) may =
    sent-one_reason scalars_in _ _ (λ x. written _ (c.values_are_refused_for_one_reason.ensures.sent_list _ x))
    (c.values_are_unread_for_one_reason.ensures.list _ n)
returns g c (step.ScalarsBounded label max) may =
    sent-one_reason scalars_in _ _
    (λ x. written_within _ _ _ (c.values_are_refused_for_one_reason.ensures.sent_within _ max x))
    (c.values_are_unread_for_one_reason.ensures.counted _ max)
returns g c (step.Extension label) may =
    sent-one_reason extension_in _ _ (λ x. written _ (c.values_are_refused_for_one_reason-2.ensures.sent _ x))
    (c.values_are_unread_for_one_reason-2.ensures.value _)
returns g c (step.ChallengeScalar label) may =
    same-one_reason _ (λ s t u e f p q. c.draws_are_refused_for_one_reason.ensures.value _ _ _ _ e f p.0 q.0)
returns g c (step.ChallengeScalars label n) may =
    same-one_reason _ (λ s t u e f p q. c.draws_are_refused_for_one_reason.ensures.list _ n _ _ _ e f p.0 q.0)
returns g c (step.ChallengeExtension label) may =
    same-one_reason _ (λ s t u e f p q. c.draws_are_refused_for_one_reason-2.ensures.value _ _ _ _ e f p.0 q.0)
returns g c (step.ChallengeExtensions label n) may =
    same-one_reason _ (λ s t u e f p q. c.draws_are_refused_for_one_reason-2.ensures.list _ n _ _ _ e f p.0 q.0)
returns g c (step.ChallengeExtensionsRejecting label n accept limit) may =
    same-one_reason _
    (λ s t u e f p q. c.draws_are_refused_for_one_reason-2.ensures.rejecting _ _ _ n _ _ _ e f p.0 q.0)
returns g c (step.ChallengeBits label width n) may =
    same-one_reason _
    (λ s t u e f p q. c.steps_are_refused_for_one_reason.ensures.bits may.0 _ width n _ _ _ e f p.0 q.0)
returns g c (step.ChallengeUniformBits label width n) may =
    same-one_reason _
    (λ s t u e f p q. c.steps_are_refused_for_one_reason.ensures.uniform may.0 _ width n _ _ _ e f p.0 q.0)
returns g c (step.ChallengeUniformBitsRejecting label width n accept limit) may =
    same-one_reason _
    (λ s t u e f p q. c.steps_are_refused_for_one_reason.ensures.rejecting may.0 _ width _ _ n _ _ _ e f p.0 q.0)
returns g c (step.Pow label bits) may =
    witness-one_reason _ _ (c.steps_are_refused_for_one_reason.ensures.ground may.0 _ bits) _
    (c.steps_are_refused_for_one_reason.ensures.read may.0 _ bits)
returns g c (step.ObservePow label bits) may =
    carried-one_reason _
    (λ v s t u e f p q. c.steps_are_refused_for_one_reason.ensures.ground may.0 _ bits _ _ _ e f p.0 q.0)
    (some-one_reason _
    (λ x s t u e f p q. c.steps_are_refused_for_one_reason.ensures.carried may.0 _ bits x _ _ _ e f p.0 q.0))
returns g c (step.PublicScalarsBounded label xs max) may =
    known-one_reason _ _ (λ s t u e f p q.
    kept_within _ max _ (c.values_are_refused_for_one_reason.ensures.observed_within _ max xs.items) s t u e f p.0 q.0)
    (λ s t u e f p q. c.carried_lists_are_refused_for_one_reason.ensures.within _ max xs.items _ _ _ e f p.0 q.0)
returns g c (step.ObserveExtensionsBounded label xs max) may =
    known-one_reason _ _ (λ s t u e f p q.
    kept_within _ max _ (c.values_are_refused_for_one_reason-2.ensures.observed_within _ max xs.items)
    s t u e f p.0 q.0)
    (λ s t u e f p q. c.carried_lists_are_refused_for_one_reason-2.ensures.within _ max xs.items _ _ _ e f p.0 q.0)
returns g c (step.ObserveExtensions label xs) may =
    known-one_reason _ _
    (λ s t u e f p q. c.values_are_refused_for_one_reason-2.ensures.observed_list _ xs.items _ _ _ e f p.0 q.0)
    (λ s t u e f p q. c.carried_lists_are_refused_for_one_reason-2.ensures.recorded _ xs.items _ _ _ e f p.0 q.0)
returns g c (step.PublicScalar label x) may =
    same-one_reason _ (λ s t u e f p q. c.values_are_refused_for_one_reason.ensures.observed _ x _ _ _ e f p.0 q.0)
returns g c (step.PublicScalars label xs) may =
    same-one_reason _
    (λ s t u e f p q. c.values_are_refused_for_one_reason.ensures.observed_list _ xs.items _ _ _ e f p.0 q.0)
returns g c (step.ObserveExtension label x) may =
    same-one_reason _ (λ s t u e f p q. c.values_are_refused_for_one_reason-2.ensures.observed _ x _ _ _ e f p.0 q.0)
returns g c (step.Opaque label x) may =
    same-one_reason _ (λ s t u e f p q. c.opaque_values_are_refused_for_one_reason.ensures _ x _ _ _ e f p.0 q.0)
returns g c _ may =
    same-one_reason _ (λ s t u e f p q. c.markers_are_refused_for_one_reason.ensures _ _ _ _ e f p.0 q.0)
