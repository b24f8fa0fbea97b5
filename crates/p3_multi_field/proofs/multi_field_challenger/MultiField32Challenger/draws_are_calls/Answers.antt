use Rattle.std.proofs.Common.{Some, ap}
use Rattle.p3_multi_field.proofs.{Pairs.pair_over, Calls.{drawn-are_answers, steps-are_calls}}
use Rattle.p3_multi_field.proofs.multi_field_challenger.MultiField32Challenger.draws_are_calls.Goals as goal

pub returns-clause-element : goal.returns-clause-element
returns-clause-element g c state =
    let pair = pair_over g.F.PrimeCharacteristicRing.residues g.PF.PrimeCharacteristicRing.residues g.PF.FieldBridge in
    let space = g.A.BasedVectorSpace in
    ap (λ xs. Some (space.element xs))
    (drawn-are_answers pair g.P.CryptographicPermutation.permutation g.row.RATE space.DIMENSION state)

pub returns-clause-after : goal.returns-clause-after
returns-clause-after g c state =
    let pair = pair_over g.F.PrimeCharacteristicRing.residues g.PF.PrimeCharacteristicRing.residues g.PF.FieldBridge in
    steps-are_calls pair g.P.CryptographicPermutation.permutation g.row.RATE g.A.BasedVectorSpace.DIMENSION state
