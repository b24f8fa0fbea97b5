use Rattle.std.proofs.Common.{◌≡◌, ℕ, ◌<◌, ◌+◌, map}
use Rattle.p3_poseidon2.specs.{Poseidon2.sum_below, Layers.number_at}
use Rattle.p3_poseidon2.proofs.layers.sum_from.Given as goal

-- the sum so far, in each lane
abbrev pub invariant-loop-i : goal.invariant-loop-i
invariant-loop-i g l =
    let r = g.F.PrimeCharacteristicRing.residues in
    let lane = g.V.PackedValue.in_lane in
    (m : ℕ) → m < g.V.PackedValue.WIDTH
    → lane m l.sum ≡ r.of (sum_below l.i (λ j. number_at r (map (lane m) l.state) (l.first + j)))
