use Rattle.p3_challenger_core.specs.{Sampling.{unrefused_draw, in_row}, SamplingLaws.{made_of-refuses, in_row-not_refused}}
use Rattle.{p3_codecs.specs.BytesToField.{challenge_of, draw_bytes}, p3_hash_challenger.specs.HashState.{function_of, sampled}}
use Rattle.p3_hash_challenger.specs.HashState.{after_sampled}
use Rattle.p3_small_primes.specs.BabyBearResidues.{residues}
use Rattle.std.specs.Prelude.{Some}
use Rattle.first_transcript.specs.Scalar.{width}
use Rattle.first_transcript.proofs.draw.Goals as goal

pub unreachable-requires : goal.unreachable-requires
unreachable-requires g c =
    let hasher = g.H.CryptographicHasher in
    let function = function_of hasher.hash g.row.OUT_LEN hasher.filler in
    let before = c.args.challenger.now in
    let after = c.sample.new.challenger in
    let byte = unrefused_draw (λ s. Some (sampled function s)) (after_sampled function) in
    in_row-not_refused (λ s. Some (sampled function s)) (after_sampled function) (draw_bytes width) c.in-Err.field-0
    before after
    (made_of-refuses (challenge_of residues) (in_row byte (draw_bytes width)) c.in-Err.field-0
    before after c.in-Err.ensures.err)
