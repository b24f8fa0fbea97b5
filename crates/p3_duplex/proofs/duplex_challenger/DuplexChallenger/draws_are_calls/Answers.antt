use Rattle.std.proofs.Common.{Some, ap}
use Rattle.p3_duplex.proofs.Calls.{drawn-are_answers, steps-are_calls}
use Rattle.p3_duplex.proofs.duplex_challenger.DuplexChallenger.draws_are_calls.Goals as goal

pub returns-clause-element : goal.returns-clause-element
returns-clause-element g c state =
    let space = g.A.BasedVectorSpace in
    ap (λ xs. Some (space.element xs))
    (drawn-are_answers g.F.PrimeCharacteristicRing.residues g.P.CryptographicPermutation.permutation g.row.RATE
    space.DIMENSION state)

pub returns-clause-after : goal.returns-clause-after
returns-clause-after g c state =
    steps-are_calls g.F.PrimeCharacteristicRing.residues g.P.CryptographicPermutation.permutation g.row.RATE
    g.A.BasedVectorSpace.DIMENSION state
