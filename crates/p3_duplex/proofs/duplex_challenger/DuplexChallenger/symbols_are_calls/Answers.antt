use Rattle.p3_duplex.proofs.Calls.{fed-is_calls, steps-are_calls}
use Rattle.p3_duplex.proofs.duplex_challenger.DuplexChallenger.symbols_are_calls.Goals as goal

pub returns-clause-fed : goal.returns-clause-fed
returns-clause-fed g c state symbols =
    fed-is_calls g.F.PrimeCharacteristicRing.residues g.P.CryptographicPermutation.permutation g.row.RATE state symbols

pub returns-clause-drawn : goal.returns-clause-drawn
returns-clause-drawn g c n state =
    steps-are_calls g.F.PrimeCharacteristicRing.residues g.P.CryptographicPermutation.permutation g.row.RATE n state
