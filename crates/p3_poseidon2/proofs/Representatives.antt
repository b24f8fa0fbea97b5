-- Numbers that stand for elements of Goldilocks.
use Rattle.std.proofs.Common.{◌≡◌, ℕ, ◌+◌, ◌*◌, ◌%◌, ◌∙◌, refl, sym, ap}
use Rattle.p3_field_core.specs.{Residues.{sum_of, product_of}, ResidueLaws.of-same, RingLaws.residues-ring}
use Rattle.p3_goldilocks.specs.{GoldilocksResidues.{order, residues}, GoldilocksLaws.laws}
use Rattle.p3_poseidon2.specs.Layers.{combined}
use Rattle.p3_poseidon2.proofs.Congruences.{of-sums, of-products}

-- a number that is a sum modulo the order
pub sum-of : (n a b : ℕ) → n % order ≡ (a + b) % order → residues.of n ≡ sum_of residues (residues.of a) (residues.of b)
sum-of n a b same = of-same residues laws n (a + b) same ∙ sym ((residues-ring residues laws).sum_of_numbers a b)

-- a number that is a product modulo the order
pub product-of : (n a b : ℕ) → n % order ≡ (a * b) % order
    → residues.of n ≡ product_of residues (residues.of a) (residues.of b)
product-of n a b same =
    of-same residues laws n (a * b) same ∙ sym ((residues-ring residues laws).product_of_numbers a b)

scaled : (p a : ℕ) → residues.of (p * a) ≡ residues.of (p * residues.number (residues.of a))
scaled p a =
    of-products residues laws p p a (residues.number (residues.of a)) refl (sym (laws.of_number (residues.of a)))

-- a number that is a sum of multiples of four others modulo the order
pub combination-of : (p q s t a b c d m n : ℕ) → n % order ≡ m % order → m ≡ p * a + q * b + s * c + t * d
    → residues.of n ≡ combined residues p q s t (residues.of a) (residues.of b) (residues.of c) (residues.of d)
combination-of p q s t a b c d m n same is =
    of-same residues laws n m same ∙ ap residues.of is
    ∙ of-sums residues laws _ _ _ _
    (of-sums residues laws _ _ _ _ (of-sums residues laws _ _ _ _ (scaled p a) (scaled q b)) (scaled s c)) (scaled t d)
