use Rattle.std.proofs.Common.{◌-◌}
use Rattle.p3_driver_core.{specs.Rejecting.{Rule, Computes}, proofs.Rejections.Seeks}
use Rattle.p3_driver_core.proofs.candidates.draw_taken.Given as goal

-- whatever rule the closure computes, it refused the candidates so far
abbrev pub invariant-loop : goal.invariant-loop
invariant-loop g l = (rule : Rule _) → Computes g.R.Fn l.accept rule → Seeks (g.D.Candidates.sampling l.candidates)
    rule l.limit l.kept (g.C.Sponge.state l.initial.challenger) (l.limit - l.counter) (g.C.Sponge.state l.challenger)
