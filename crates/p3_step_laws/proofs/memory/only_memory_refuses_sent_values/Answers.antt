use Rattle.std.proofs.Common.{refl, rules}
use Rattle.p3_step_laws.proofs.OnlyMemory.{only_memory_to_read}
use Rattle.p3_step_laws.proofs.memory.only_memory_refuses_sent_values.Goals as goal

pub returns : goal.returns
returns g c =
    let read_back = c.sent_value_is_received.ensures.read_back in
    let listed = c.sent_values_are_received.ensures.read_back in
    let counted = c.sent_counted_values_are_received.ensures.read_back in
    record {
      value = λ step x. only_memory_to_read _ _ _ (read_back step x) refl (search rules);
      list = λ step xs. only_memory_to_read _ _ _ (listed step xs) refl (search rules);
      counted = λ step max xs within fits.
          only_memory_to_read _ _ _ (counted step max xs within fits) refl (search rules);
    }
