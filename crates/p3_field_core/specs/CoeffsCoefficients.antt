-- The coefficients of an array of coefficients.
use Rattle.std.{specs.Prelude.{◌≡◌, ℕ, ◌≤◌, List, ◌++◌, length, take, replicate}, proofs.Common.arith}
use Rattle.std.proofs.lemmas.List.{length-append, length-replicate, length-take-le}
use Rattle.p3_field_core.specs.declared.coeffs.Coeffs.{Coeffs}

abbrev pub coefficients_of : {F : Type 0} {D : ℕ} → Coeffs F D → List F
coefficients_of x = x.coefficients

-- the coefficients of an element of dimension D: the list cut off or filled with zeros
abbrev pub cut_to : {F : Type 0} → F → ℕ → List F → List F
cut_to nought D xs = take D (xs ++ replicate D nought)

pub length-cut_to : {F : Type 0} (nought : F) (D : ℕ) (xs : List F) → length (cut_to nought D xs) ≡ D
length-cut_to nought D xs =
    let long : D ≤ length (xs ++ replicate D nought) =
    omega (arith, length-append xs (replicate D nought), length-replicate D nought) in
    length-take-le D (xs ++ replicate D nought) long

-- the element of these coefficients
abbrev pub element_of : {F : Type 0} {D : ℕ} → F → List F → Coeffs F D
element_of {F} {D} nought xs = record { coefficients = cut_to nought D xs; full = length-cut_to nought D xs }
