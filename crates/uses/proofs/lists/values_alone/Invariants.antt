use Rattle.std.proofs.Common.{◌≡◌, length, take, vec_len, vec_capacity, map}
use Rattle.p3_challenger.specs.Bound.{bound_value}
use Rattle.uses.proofs.lists.values_alone.Given as goal

-- the values so far
abbrev pub invariant-loop-bound : goal.invariant-loop-bound
invariant-loop-bound g l =
    record {
      alone : l.values.items ≡ map bound_value (take l.bound-index l.bounds);
      count : vec_len l.values ≡ l.bound-index;
      room : vec_capacity l.values ≡ length l.bounds;
    }
