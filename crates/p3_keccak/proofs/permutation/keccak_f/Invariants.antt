use Rattle.std.proofs.Common.{◌≡◌, ◌*◌}
use Rattle.p3_keccak.specs.Keccak.{rounds}
use Rattle.p3_keccak.proofs.permutation.keccak_f.Given as goal

abbrev pub invariant-rounds : goal.invariant-rounds
invariant-rounds l = l.a ≡ rounds l.fn.state (2 * l.pair)
