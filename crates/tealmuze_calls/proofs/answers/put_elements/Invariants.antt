use Rattle.std.proofs.Common.{◌≡◌, ◌++◌, take}
use Rattle.std.specs.List.{flat_map}
use Rattle.tealmuze_calls.specs.Forms.{element_bytes}
use Rattle.tealmuze_calls.proofs.answers.put_elements.Given as goal

-- the elements so far are there
abbrev pub invariant-loop-element : goal.invariant-loop-element
invariant-loop-element g l =
    l.to.items ≡ l.initial.to.items ++ flat_map (element_bytes g.F.PrimeCharacteristicRing.residues.number
    g.E.BasedVectorSpace.coefficients) (take l.element-index l.elements)
