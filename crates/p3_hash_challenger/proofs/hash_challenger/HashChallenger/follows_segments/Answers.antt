use Rattle.std.proofs.Common.{◌≤◌, ap, arith}
use Rattle.p3_challenger_core.specs.SegmentLaws.{run_calls-segments, run_calls-segments_to_digest}
use Rattle.p3_challenger_core.specs.SegmentLaws.{run_calls-same, run_calls_to_digest-same}
use Rattle.p3_hash_challenger.{specs.HashState.function_of, proofs.HashSteps.hash_steps}
use Rattle.p3_hash_challenger.proofs.HashQueries.{Agree, same_call, same_digest}
use Rattle.p3_hash_challenger.specs.{HashCalls.{HashSponge, hash_by_calls}, HashSegments.hash_by_segments}
use Rattle.p3_hash_challenger.proofs.hash_challenger.HashChallenger.follows_segments.Goals as goal

-- a challenger never has more outputs left than a digest has places
pub returns : goal.returns
returns g c =
    let s = c.args.self.now.sponge in
    let len = g.row.OUT_LEN in
    let fits : s.outputs_left ≤ len =
    omega (arith, ap (λ t. t.sponge.outputs_left) c.self.view_is, c.self.invariant.left) in
    let hasher = g.H.CryptographicHasher in
    let h = function_of hasher.hash len hasher.filler c.args.self.now.hasher in
    let keeps = λ (t : HashSponge g.row.T.Denot). t.outputs_left ≤ len in
    let by_calls = hash_by_calls h in
    let by_segments = hash_by_segments h in
    let steps = hash_steps h c.self.invariant.positive in
    record {
      calls = run_calls-segments keeps by_calls by_segments steps s fits;
      digest = run_calls-segments_to_digest keeps by_calls by_segments steps s fits;
      queries = λ calls other agree.
          run_calls-same (Agree h other) by_calls (hash_by_calls (record h { digest = other }))
          (same_call h other) (same_digest h other) s calls agree;
      queries_to_digest = λ calls other agree.
          run_calls_to_digest-same (Agree h other) by_calls (hash_by_calls (record h { digest = other }))
          (same_call h other) (same_digest h other) s calls agree;
    }
