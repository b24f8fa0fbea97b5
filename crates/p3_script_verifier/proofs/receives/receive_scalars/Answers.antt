use Rattle.std.proofs.Common.{refl, subst, ap, List, ℕ, Some}
use Rattle.p3_challenger_core.specs.Reading.{AreBytes}
use Rattle.p3_runs.specs.Values.{scalars_in}
use Rattle.p3_script_verifier.proofs.Taking.{sent-taken_then}
use Rattle.p3_script_verifier.proofs.receives.receive_scalars.Goals as goal

pub returns : goal.returns
returns g c =
    record {
      comes = sent-taken_then _ scalars_in _ _ _ _ _ _ _ _ _ _ refl refl (c.read_values_are_encoded.ensures.list _ _)
          (subst (λ (l : List ℕ). AreBytes l) c.unread-unread.ensures.unread c.unread-unread.ensures.bytes) (ap Some c.in_ok-values.ensures.ok) c.in_ok-bounds.ensures.exact c.in_ok-values.ensures.same;
    }
