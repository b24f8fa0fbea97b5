use Rattle.std.proofs.Common.{◌≡◌, length, take, vec_len, vec_capacity, map}
use Rattle.p3_driver_core.specs.Bound.{bound_value}
use Rattle.p3_script.proofs.draws.values_of.Given as goal

-- the values so far
abbrev pub invariant-loop-bound : goal.invariant-loop-bound
invariant-loop-bound g l =
    record {
      values : l.values.items ≡ map bound_value (take l.bound-index l.bounds);
      count : vec_len l.values ≡ l.bound-index;
      room : vec_capacity l.values ≡ length l.bounds;
    }
