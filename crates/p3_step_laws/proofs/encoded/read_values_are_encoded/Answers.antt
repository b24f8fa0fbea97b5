use Rattle.p3_step_laws.proofs.ReadOnly.{only_reads, value-only, values-only, counted_values-only}
use Rattle.p3_step_laws.proofs.encoded.read_values_are_encoded.Goals as goal

pub returns : goal.returns
returns g c =
    let encodes = g.met.Cdc.Codec.is_codec.encodes in
    record {
      value = λ step. only_reads (λ bytes x rest are h. (tt, value-only _ encodes bytes x rest are h));
      list = λ step n. only_reads (values-only _ encodes _ n);
      counted = λ step max. only_reads (counted_values-only _ encodes _ _ max);
    }
