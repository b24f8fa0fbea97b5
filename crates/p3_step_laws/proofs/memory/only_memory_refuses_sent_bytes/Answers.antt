use Rattle.std.proofs.Common.{refl, rules}
use Rattle.p3_step_laws.proofs.OnlyMemory.{only_memory_to_read}
use Rattle.p3_step_laws.proofs.memory.only_memory_refuses_sent_bytes.Goals as goal

pub returns : goal.returns
returns g c =
    let read_back = c.sent_bytes_are_received.ensures.read_back in
    let counted = c.sent_counted_bytes_are_received.ensures.read_back in
    record {
      fixed = λ kind label bytes. only_memory_to_read _ _ _ (read_back kind label bytes) refl (search rules);
      counted = λ label max bytes within fits.
          only_memory_to_read _ _ _ (counted label max bytes within fits) refl (search rules);
    }
