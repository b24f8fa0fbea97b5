-- Laws of the field of order 2 ^ 64 - 2 ^ 32 + 1 as residues.
use Rattle.std.{specs.Prelude.{◌≡◌, ◌<◌, ◌%◌, nat_eq}, proofs.Common.lit<, proofs.lemmas.Bool.{eqb-true, eq-eqb}}
use Rattle.std.proofs.Math.Bridge.{le_prop}
use mathlib.Core.HLevel.{is_prop→PathP}
use Rattle.p3_field_core.specs.{Equality.{IsExact, exact-by}, Residues.IsResidues, ResidueLaws.laws-of-injective}
use Rattle.p3_goldilocks.specs.{GoldilocksResidues.{order, number, residues}, declared.goldilocks.Goldilocks.Goldilocks}

-- elements with the same number are equal
pub number-injective : (x y : Goldilocks) → number x ≡ number y → x ≡ y
number-injective x y e =
    λ i. record {
      value = e i;
      canonical = is_prop→PathP (λ j. e j < order) (λ j. le_prop) x.canonical y.canonical i;
    }

-- elements compare equal exactly where they are the same
pub compared-by-numbers : IsExact (λ (x y : Goldilocks). nat_eq (number x) (number y))
compared-by-numbers = exact-by number (λ x y. (eqb-true x y, eq-eqb x y)) number-injective

pub laws : IsResidues residues
laws = laws-of-injective residues (lit< tt) (λ x. x.canonical) (λ n _. n % order) number-injective
