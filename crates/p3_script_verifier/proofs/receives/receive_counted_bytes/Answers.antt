use Rattle.std.proofs.Common.{refl, subst, List, ℕ}
use Rattle.p3_challenger_core.specs.Reading.{AreBytes}
use Rattle.p3_runs.specs.Values.{bytes_in}
use Rattle.p3_script_verifier.proofs.Taking.{sent-taken}
use Rattle.p3_script_verifier.proofs.receives.receive_counted_bytes.Goals as goal

pub returns : goal.returns
returns g c =
    record {
      comes = sent-taken _ bytes_in _ _ _ _ _ _ _ _ _ refl refl (c.read_bytes_are_encoded.ensures.counted _ _)
          (subst (λ (l : List ℕ). AreBytes l) c.unread-unread.ensures.unread c.unread-unread.ensures.bytes) refl c.in_ok-bytes.ensures.exact;
    }
