use Rattle.std.proofs.Common.{◌≡◌, ◌-◌, ◌^◌, min, ◌+◌, ◌*◌, take}
use Rattle.std.specs.List.{sum_by}
use Rattle.tealmuze_calls.specs.Rooms.{drawn_room}
use Rattle.tealmuze_calls.proofs.room.wanted_room.Given as goal

-- what the steps so far have
abbrev pub invariant-loop-step : goal.invariant-loop-step
invariant-loop-step g l =
    l.wanted ≡ min (1024 + l.len * 8 + sum_by (λ s. 40 + drawn_room g.S.Extension.BasedVectorSpace.DIMENSION s) (take l.step-index l.steps)) (2 ^ 64 - 1)
