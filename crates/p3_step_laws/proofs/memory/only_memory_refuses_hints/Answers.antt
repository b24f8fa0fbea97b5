use Rattle.std.proofs.Common.{refl, rules}
use Rattle.p3_step_laws.proofs.OnlyMemory.{only_memory_to_read}
use Rattle.p3_step_laws.proofs.memory.only_memory_refuses_hints.Goals as goal

pub returns : goal.returns
returns g c =
    let read_back = c.hint_is_received.ensures.read_back in
    let counted = c.counted_hint_is_received.ensures.read_back in
    record {
      fixed = λ label bytes. only_memory_to_read _ _ _ (read_back label bytes) refl (search rules);
      counted = λ label max bytes within fits.
          only_memory_to_read _ _ _ (counted label max bytes within fits) refl (search rules);
    }
