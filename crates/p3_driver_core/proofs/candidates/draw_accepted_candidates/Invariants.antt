use Rattle.std.proofs.Common.{◌≡◌, ◌-◌, vec_len, vec_capacity, map}
use Rattle.p3_driver_core.{specs.Bound.bound_value, specs.Rejecting.{Rule, Computes}, proofs.Rejections.Keeps}
use Rattle.p3_driver_core.proofs.candidates.draw_accepted_candidates.Given as goal

-- the values so far are those that any rule which the closure computes has taken
abbrev pub invariant-loop : goal.invariant-loop
invariant-loop g l = record {
  keeps : (rule : Rule _) → Computes g.R.Fn l.accept rule →
      Keeps (g.D.Candidates.sampling l.candidates) rule l.limit l.n (g.C.Sponge.state l.initial.challenger)
      (l.n - l.counter) l.kept.items (g.C.Sponge.state l.challenger);
  bound : map bound_value l.bounds.items ≡ l.kept.items;
  count : vec_len l.bounds ≡ l.counter;
  room : vec_capacity l.bounds ≡ l.n;
  kept_count : vec_len l.kept ≡ l.counter;
  kept_room : vec_capacity l.kept ≡ l.n;
}
