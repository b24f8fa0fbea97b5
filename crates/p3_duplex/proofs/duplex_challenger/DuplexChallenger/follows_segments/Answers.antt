use Rattle.std.proofs.Common.{subst, take}
use Rattle.p3_challenger_core.specs.SegmentLaws.{run_calls-segments, run_calls-segments_to_digest, run_calls-same}
use Rattle.p3_challenger_core.specs.SegmentLaws.{run_calls_to_digest-same}
use Rattle.p3_duplex.{specs.DuplexState.DuplexState, proofs.Keeping.kept-fits}
use Rattle.p3_sponge.specs.{SpongeStepLaws.{Fits, sponge_steps}, SpongeQueryLaws.{Agree, same_call, same_end}}
use Rattle.p3_duplex.specs.{DuplexCalls.{duplex, duplex_by_calls}, DuplexSegments.duplex_by_segments}
use Rattle.p3_duplex.proofs.duplex_challenger.DuplexChallenger.follows_segments.Goals as goal

-- a challenger keeps what the calls ask of its sponge
pub returns : goal.returns
returns g c =
    let rate = g.row.RATE in
    let inside = c.self.inside in
    let keeps = c.self.invariant in
    let residues = g.F.PrimeCharacteristicRing.residues in
    let permute = g.P.CryptographicPermutation.permutation c.args.self.now.permutation in
    let rule = duplex residues permute rate in
    let fits : Fits rule c.args.self.now.sponge =
    subst (λ (d : DuplexState g.row.F.Denot g.row.P.Denot). Fits rule d.sponge) c.self.view_is
    (kept-fits residues permute g.row.WIDTH rate inside.inputs inside.outputs_left inside.draw_limit
    inside.sponge_state inside.input_buffer c.self.told2 keeps) in
    let by_calls = duplex_by_calls residues permute rate in
    let by_segments = duplex_by_segments residues permute rate in
    let steps = sponge_steps rule keeps.positive keeps.positive (take rate) in
    record {
      calls = run_calls-segments (Fits rule) by_calls by_segments steps c.args.self.now.sponge fits;
      digest = run_calls-segments_to_digest (Fits rule) by_calls by_segments steps c.args.self.now.sponge fits;
      queries = λ calls other same. run_calls-same (Agree rule other) by_calls (duplex_by_calls residues other rate)
          (same_call rule other) (same_end rule other (take rate)) c.args.self.now.sponge calls same;
      queries_to_digest = λ calls other same. run_calls_to_digest-same (Agree rule other) by_calls
          (duplex_by_calls residues other rate) (same_call rule other) (same_end rule other (take rate))
          c.args.self.now.sponge calls same;
    }
