use Rattle.std.proofs.Common.{◌≡◌, length, take, vec_len, vec_capacity, map}
use Rattle.p3_driver_core.specs.Bound.{bound_value}
use Rattle.p3_driver_core.proofs.lists.bind_all.Given as goal

-- the values so far
abbrev pub invariant-loop-value : goal.invariant-loop-value
invariant-loop-value g l = record {
  bound : map bound_value l.bounds.items ≡ take l.value-index l.values;
  count : vec_len l.bounds ≡ l.value-index;
  room : vec_capacity l.bounds ≡ length l.values;
}
