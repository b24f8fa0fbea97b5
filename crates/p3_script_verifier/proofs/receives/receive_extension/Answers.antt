use Rattle.std.proofs.Common.{refl, subst, ap, List, ℕ, Some}
use Rattle.p3_challenger_core.specs.Reading.{AreBytes}
use Rattle.p3_runs.specs.Values.{extension_in}
use Rattle.p3_script_verifier.proofs.Taking.{sent-taken}
use Rattle.p3_script_verifier.proofs.receives.receive_extension.Goals as goal

pub returns : goal.returns
returns g c =
    record {
      comes = sent-taken _ extension_in _ _ _ _ _ _ _ _ _ refl refl (c.read_values_are_encoded.ensures.value _)
          (subst (λ (l : List ℕ). AreBytes l) c.unread-unread.ensures.unread c.unread-unread.ensures.bytes) (ap Some c.into_inner.ensures) c.in_ok-bound.ensures;
    }
