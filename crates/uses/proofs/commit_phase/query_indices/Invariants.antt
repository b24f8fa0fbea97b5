use Rattle.std.{proofs.Common.{◌==◌, true}, specs.List.IsDistinct}
use Rattle.uses.specs.CommitPhase.{AreNumbersDrawn}
use Rattle.uses.proofs.commit_phase.query_indices.Given as goal

-- the numbers drawn so far are kept, each once
abbrev pub invariant-loop : goal.invariant-loop
invariant-loop g l =
    IsDistinct (λ x y. x == y) l.queries.items
    × AreNumbersDrawn (g.C.CanSampleUniformBits.uniform true l.demands.index_bits).draw l.queries.items
    (g.C.Sponge.state l.initial.challenger) (g.C.Sponge.state l.challenger)
