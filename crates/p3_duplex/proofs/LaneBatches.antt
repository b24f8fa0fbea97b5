-- A batch of candidates, one in each lane.
use Rattle.std.proofs.Common.{◌≡◌, ℕ, ◌+◌, ◌-◌, ◌*◌, ◌^◌, ◌<◌, ◌≤◌, inl, inr, subst, Fits, w64, arith}
use Rattle.std.proofs.{lemmas.Bool.cases_lt, Math.Nat.mul-le-mul_right}
use Rattle.p3_duplex.specs.LaneSearch.{candidate, IsLeastOf}
use Rattle.p3_field_core.specs.{Residues.{Residues, IsResidues}, ResidueLaws.number_of-below}

module _ {F : Type 0} (r : Residues F) (laws : IsResidues r) (Passes : F → Type 0) (first : ℕ) (before : first < r.order)
    (none : (n : ℕ) → n < first → ¬ (Passes (r.of n))) where
  -- the candidate in a lane that is before the order
  candidate_is : (l : ℕ) → first + l < r.order → candidate r.order first l ≡ first + l
  candidate_is l inside = omega (arith, inside)

  -- the first lane that passes has the least candidate that does
  pub first_is_least : (l : ℕ) → Passes (r.of (candidate r.order first l))
      → ((k : ℕ) → k < l → ¬ (Passes (r.of (candidate r.order first k))))
      → IsLeastOf r Passes (r.of (candidate r.order first l))
  first_is_least l passes no_earlier =
      let small : candidate r.order first l < r.order = omega (arith, before) in
      let number : r.number (r.of (candidate r.order first l)) ≡ candidate r.order first l = number_of-below r laws _ small in
      record {
        passes = passes;
        least = λ n lt p. elim (cases_lt n first) [
          | inl earlier ↦ none n earlier p
          | inr here ↦
              let k = n - first in
              let inside : first + k < r.order = omega (arith, lt, number, here, small) in
              let is : n ≡ candidate r.order first k = omega (arith, here, inside) in
              no_earlier k (omega (arith, lt, number, here)) (subst (λ m. Passes (r.of m)) is p)
        ];
      }

  -- where no lane passes, none does up to the next batch
  pub none_more : (width count : ℕ) → count ≤ width → first + count ≤ r.order
      → ((k : ℕ) → k < width → ¬ (Passes (r.of (candidate r.order first k))))
      → (n : ℕ) → n < first + count → ¬ (Passes (r.of n))
  none_more width count short within no_lane n lt p = elim (cases_lt n first) [
    | inl earlier ↦ none n earlier p
    | inr here ↦
        let k = n - first in
        let inside : first + k < r.order = omega (arith, here, lt, within) in
        let is : n ≡ candidate r.order first k = omega (arith, here, inside) in
        no_lane k (omega (arith, here, lt, short)) (subst (λ m. Passes (r.of m)) is p)
  ]

-- a place of an array that fits in memory has an offset that fits a word
pub offset_fits : (i n size : ℕ) → i < n → n * size < 2 ^ 63 → Fits w64 (i * size)
offset_fits i n size lt room = let le : i * size ≤ n * size = mul-le-mul_right size (omega (arith, lt)) in record { fits = omega (arith, le, room) }
