-- Powers of an element multiply as numbers do.
use Rattle.std.proofs.{Common.{◌≡◌, ℕ, ◌+◌, ◌*◌, ◌^◌, ◌∙◌, sym, ap, ap₂}, Math.Nat.{one-mul, pow-suc, pow-zero}}
use Rattle.std.proofs.lemmas.Nat.{pow-add}
use Rattle.p3_field.specs.{Residues.{Residues, IsResidues, power_of, product_of}, RingLaws.residues-ring}

module _ {F : Type 0} (r : Residues F) (laws : IsResidues r) (x : F) where
  first-power : power_of r x 1 ≡ x
  first-power = let once : r.number x ^ 1 ≡ r.number x = pow-suc (r.number x) 0 ∙ ap (λ n. n * r.number x) (pow-zero (r.number x)) ∙ one-mul (r.number x) in ap r.of once ∙ laws.of_number x

  powers-multiply : (j k : ℕ) → product_of r (power_of r x j) (power_of r x k) ≡ power_of r x (j + k)
  powers-multiply j k =
      let n = r.number x in
      (residues-ring r laws).product_of_numbers (n ^ j) (n ^ k) ∙ ap r.of (sym (pow-add n j k))

  -- the seventh power, by four products
  pub seventh-power : (once twice thrice sixth seventh : F) → once ≡ x → twice ≡ product_of r once once
      → thrice ≡ product_of r twice once → sixth ≡ product_of r thrice thrice → seventh ≡ product_of r sixth once
      → seventh ≡ power_of r x 7
  seventh-power once twice thrice sixth seventh one two three six seven =
      let first : once ≡ power_of r x 1 = one ∙ sym first-power in
      let second : twice ≡ power_of r x 2 = two ∙ ap₂ (product_of r) first first ∙ powers-multiply 1 1 in
      let third : thrice ≡ power_of r x 3 = three ∙ ap₂ (product_of r) second first ∙ powers-multiply 2 1 in
      let half : sixth ≡ power_of r x 6 = six ∙ ap₂ (product_of r) third third ∙ powers-multiply 3 3 in
      seven ∙ ap₂ (product_of r) half first ∙ powers-multiply 6 1
