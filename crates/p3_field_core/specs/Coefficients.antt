-- The element of a list of coefficients, where the base field is the algebra.
use Rattle.std.specs.Prelude.{List, [], ◌∷◌}

-- the element with this coefficient; without one, the element 0
abbrev pub element_of_one : {F : Type 0} → F → List F → F
element_of_one nought [] = nought
element_of_one nought (x ∷ xs) = x
