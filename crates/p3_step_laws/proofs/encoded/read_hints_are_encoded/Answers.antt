use Rattle.p3_step_laws.proofs.ReadOnly.{only_reads, bytes-only, counted_bytes-only}
use Rattle.p3_step_laws.proofs.encoded.read_hints_are_encoded.Goals as goal

pub returns : goal.returns
returns g c =
    record {
      fixed = λ label n. only_reads (λ bytes x rest are h. bytes-only n bytes x rest h);
      counted = λ label max. only_reads (counted_bytes-only _ max);
    }
