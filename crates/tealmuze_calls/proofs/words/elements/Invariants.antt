use Rattle.std.proofs.Common.{◌≡◌, ◌++◌, length, map}
use Rattle.std.specs.List.{flat_map}
use Rattle.tealmuze_calls.proofs.words.elements.Given as goal

-- the elements so far
abbrev pub invariant-loop-head : goal.invariant-loop-head
invariant-loop-head g l =
    flat_map (λ x. map g.F.PrimeCharacteristicRing.residues.number (g.E.BasedVectorSpace.coefficients x))
    l.elements.items ++ l.left ≡ l.numbers

abbrev pub decreases-loop-head : goal.decreases-loop-head
decreases-loop-head g l = length l.left
