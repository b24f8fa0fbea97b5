use Rattle.std.proofs.Common.{◌≡◌, ◌*◌, length, take}
use Rattle.p3_keccak.specs.Keccak.{lane_bytes}
use Rattle.p3_keccak.proofs.sponge.squeeze.Given as goal

abbrev pub invariant-lanes : goal.invariant-lanes
invariant-lanes l = (length l.digest ≡ 32) × (take (8 * l.i) l.digest ≡ lane_bytes l.state l.i)
