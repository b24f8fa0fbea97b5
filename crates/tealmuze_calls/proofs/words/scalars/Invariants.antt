use Rattle.std.proofs.Common.{◌≡◌, map, take}
use Rattle.tealmuze_calls.proofs.words.scalars.Given as goal

-- the scalars so far
abbrev pub invariant-loop-number : goal.invariant-loop-number
invariant-loop-number g l =
    map g.F.PrimeCharacteristicRing.residues.number l.scalars.items ≡ take l.number-index l.numbers
