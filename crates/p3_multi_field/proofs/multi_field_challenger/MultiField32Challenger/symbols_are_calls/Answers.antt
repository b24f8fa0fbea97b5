use Rattle.p3_multi_field.proofs.{Pairs.pair_over, Calls.{fed-is_calls, steps-are_calls}}
use Rattle.p3_multi_field.proofs.multi_field_challenger.MultiField32Challenger.symbols_are_calls.Goals as goal

pub returns-clause-fed : goal.returns-clause-fed
returns-clause-fed g c state symbols =
    let pair = pair_over g.F.PrimeCharacteristicRing.residues g.PF.PrimeCharacteristicRing.residues g.PF.FieldBridge in
    fed-is_calls pair g.P.CryptographicPermutation.permutation g.row.RATE state symbols

pub returns-clause-drawn : goal.returns-clause-drawn
returns-clause-drawn g c n state =
    let pair = pair_over g.F.PrimeCharacteristicRing.residues g.PF.PrimeCharacteristicRing.residues g.PF.FieldBridge in
    steps-are_calls pair g.P.CryptographicPermutation.permutation g.row.RATE n state
