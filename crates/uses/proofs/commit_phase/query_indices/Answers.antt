use Rattle.std.proofs.Common.{true}
use Rattle.uses.proofs.CommitPhase.{kept-none, kept-more}
use Rattle.uses.proofs.commit_phase.query_indices.Goals as goal

pub loop-init : goal.loop-init
loop-init g c =
    kept-none (g.C.CanSampleUniformBits.uniform true c.args.demands.index_bits).draw _ _ c.new-queries.ensures.items

pub loop-preserved : goal.loop-preserved
loop-preserved g c =
    kept-more (g.C.CanSampleUniformBits.uniform true c.args.demands.index_bits).draw _ _ _ _ _ _ c.loop.invariant
    c.in_ok-sample_uniform_bits.ensures.0 c.in_ok-sample_uniform_bits.ensures.1 c.in_ok-keep.ensures
