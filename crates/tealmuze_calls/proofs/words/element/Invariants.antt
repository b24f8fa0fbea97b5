use Rattle.std.proofs.Common.{◌≡◌, map, take}
use Rattle.tealmuze_calls.proofs.words.element.Given as goal

-- the coefficients so far
abbrev pub invariant-loop-i : goal.invariant-loop-i
invariant-loop-i g l =
    map g.F.PrimeCharacteristicRing.residues.number (take l.i (g.E.BasedVectorSpace.coefficients l.element))
    ≡ take l.i l.numbers
