use Rattle.std.proofs.Common.{subst, take}
use Rattle.p3_challenger_core.specs.SegmentLaws.{run_calls-segments, run_calls-segments_to_digest, run_calls-same}
use Rattle.p3_challenger_core.specs.SegmentLaws.{run_calls_to_digest-same}
use Rattle.p3_multi_field.{specs.MultiFieldSegments.multi_field_by_segments, proofs.Pairs.pair_over}
use Rattle.p3_multi_field.proofs.MultiFieldQueries.{same_call}
use Rattle.p3_sponge.specs.{SpongeQueryLaws.{Agree, same_end}, SpongeStepLaws.Fits}
use Rattle.p3_multi_field.specs.{MultiFieldCalls.{scalars_rule, multi_field_by_calls}, MultiFieldState.MultiFieldState}
use Rattle.p3_multi_field.proofs.{Numbers.some_product, MultiFieldSteps.{kept-fits, multi_field_steps}}
use Rattle.p3_multi_field.proofs.multi_field_challenger.MultiField32Challenger.follows_segments.Goals as goal

-- a challenger keeps what the calls ask of its sponge
pub returns : goal.returns
returns g c =
    let bridge = g.PF.FieldBridge in
    let pair = pair_over g.F.PrimeCharacteristicRing.residues g.PF.PrimeCharacteristicRing.residues bridge in
    let rate = g.row.RATE in
    let inside = c.self.inside in
    let keeps = c.self.invariant in
    let permute = g.P.CryptographicPermutation.permutation c.args.self.now.permutation in
    let rule = scalars_rule pair permute rate in
    let fits : Fits rule c.args.self.now.sponge =
    subst (λ (d : MultiFieldState g.row.F.Denot g.row.PF.Denot g.row.P.Denot). Fits rule d.sponge) c.self.view_is
    (kept-fits pair permute _ rate _ _ inside.scalars inside.outputs_left inside.sponge_state inside.pending keeps) in
    let by_calls = multi_field_by_calls pair permute rate in
    let by_segments = multi_field_by_segments pair permute rate in
    let steps = multi_field_steps pair permute rate keeps.positive
    (some_product bridge.ABSORB_COUNT rate keeps.some_packed keeps.positive)
    (some_product rate bridge.SQUEEZE_COUNT keeps.positive keeps.some_digits) in
    record {
      calls = run_calls-segments (Fits rule) by_calls by_segments steps c.args.self.now.sponge fits;
      digest = run_calls-segments_to_digest (Fits rule) by_calls by_segments steps c.args.self.now.sponge fits;
      queries = λ calls other same. run_calls-same (Agree rule other) by_calls
          (multi_field_by_calls pair other rate) (same_call pair permute other rate)
          (same_end rule other (take rate)) c.args.self.now.sponge calls same;
      queries_to_digest = λ calls other same. run_calls_to_digest-same (Agree rule other) by_calls
          (multi_field_by_calls pair other rate) (same_call pair permute other rate)
          (same_end rule other (take rate)) c.args.self.now.sponge calls same;
    }
