use Rattle.std.proofs.Common.{◌-◌}
use Rattle.p3_grinding.specs.{CandidateLaws.Seeks, UniformDraws.is_below}
use Rattle.p3_duplex.specs.DuplexUniform.{base_draw}
use Rattle.p3_duplex.proofs.duplex_challenger.DuplexChallenger.first_below_of.Given as goal

-- the elements so far are not below the bound
abbrev pub invariant-loop : goal.invariant-loop
invariant-loop g l =
    let r = g.F.PrimeCharacteristicRing.residues in
    Seeks (base_draw r g.P.CryptographicPermutation.permutation g.row.RATE) (is_below r l.bound)
    l.count l.initial.self (l.count - l.counter) l.self
