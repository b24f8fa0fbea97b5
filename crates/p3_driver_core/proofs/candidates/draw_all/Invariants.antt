use Rattle.std.proofs.Common.{◌≡◌, ◌-◌, vec_len, vec_capacity, map}
use Rattle.p3_challenger_core.specs.DrawLaws.{Drew}
use Rattle.p3_driver_core.specs.Bound.{bound_value}
use Rattle.p3_driver_core.proofs.candidates.draw_all.Given as goal

abbrev pub invariant-loop : goal.invariant-loop
invariant-loop g l = record {
  drew : Drew (g.D.Candidates.sampling l.candidates) l.n (g.C.Sponge.state l.initial.challenger)
      (map bound_value l.bounds.items) (l.n - l.counter) (g.C.Sponge.state l.challenger);
  count : vec_len l.bounds ≡ l.counter;
  room : vec_capacity l.bounds ≡ l.n;
}
