use Rattle.std.proofs.Common.{◌≡◌, ℕ, List, [], inr, length, map, take, ap, ◌∙◌, arith, rules, Bor}
use Rattle.p3_challenger.specs.Seed.{label_of}
use Rattle.p3_challenger.specs.TranscriptError.TheVariants.{OutOfMemory}
use Rattle.tealmuze_calls.proofs.Labels.{refused_long, label_longer}
use Rattle.tealmuze_calls.proofs.description.separate.Goals as goal

-- the chunks are too long
pub returns-in-Err-instance : goal.returns-in-Err-instance
returns-in-Err-instance g c =
    let other : c.in-Err-instance.field-0 ≡ OutOfMemory → ⊥ = λ e. search (rules, e) in
    let long = refused_long _ c.in-Err-instance.field-0 other c.in-Err-instance.ensures.err.0 in
    let so_far = c.loop-chunk.separator in
    let chunks = c.args.chunks.now in
    let i = c.loop-chunk.chunk-index in
    let chunk_of = λ (chunk : Bor (List ℕ)). chunk.now in
    let nothing : Bor (List ℕ) = record { ref_ptr = (0, 0); now = [] } in
    let label_is : length so_far.instance_label.items ≡ length (label_of (map chunk_of (take i chunks))) = ap length (so_far.is_label.encoded ∙ ap (λ s. label_of s.chunks) c.loop-chunk.invariant) in
    let longer = label_longer chunk_of chunks i nothing c.loop-chunk-test.true in
    record {
      ok = tt;
      err = inr (λ separator is. omega (
        arith,
        long,
        label_is,
        longer,
        separator.label_fits,
        ap length (separator.is_label.encoded ∙ ap label_of is.1),
      ));
    }
