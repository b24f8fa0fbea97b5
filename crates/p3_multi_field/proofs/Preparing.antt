-- A prepared state: what a candidate gives there is what is drawn after its observation.
use Rattle.std.proofs.Common.{◌≡◌, ℕ, zero, suc, ◌+◌, ◌-◌, ◌*◌, ◌/◌, ◌%◌, ◌^◌, ◌<◌, ◌≤◌, ◌==◌, ◌∙◌, List, [], ◌∷◌, ◌++◌}
use Rattle.std.proofs.Common.{length, take, drop, slice_set, Bool, true, false, Some, if◌then◌else◌, refl, sym, ap, ap₂}
use Rattle.std.proofs.Common.{arith, rules}
use Rattle.std.proofs.lemmas.{Bool.{ne_eqb, eq-eqb, eqb-true}, List.{take_all, drop_all, take-append-le, drop-append-le}}
use Rattle.std.proofs.lemmas.{List.{drop-drop, length-append, length-drop, set-append_left}, Nat.{div-mul-add, mod-mul-add}}
use Rattle.p3_field_core.specs.Residues.{plus}
use Rattle.p3_field_bridge.specs.Bridges.{packed, digit_of}
use Rattle.p3_sponge.specs.{Cells.cell, SpongeCalls.{SpongeRule, CellSponge, permutation_input}}
use Rattle.p3_sponge.specs.SpongeStepLaws.{permutation_input-snoc}
use Rattle.p3_grinding.specs.Checks.{IsLeast, NonePasses}
use Rattle.p3_multi_field.specs.MultiFieldCalls.{FieldPair, packed_cells, scalars_over, scalars_rule, digit_in_row, row_of}
use Rattle.p3_multi_field.specs.MultiFieldCalls.{batch_of}
use Rattle.p3_multi_field.specs.MultiFieldState.{MultiFieldState, scalar_observed, sampled}
use Rattle.p3_multi_field.specs.PreparedChecks.{PreparedChecks, PreparedFor, Accepts, given_by, check}
use Rattle.p3_multi_field.specs.PreparedChecks.{IsLeastAccepted, NoneAccepted}
use Rattle.p3_multi_field.proofs.{Numbers.some_product, Packing.length-packed_cells}
use Rattle.p3_sponge.specs.SpongeCalls as calls

module _ {F PF : Type 0} (pair : FieldPair F PF) where
  abbrev packs : List F → PF
  packs xs = packed pair.inner pair.outer pair.bits xs

  one_longer : (xs : List F) (x : F) → length (xs ++ x ∷ []) ≡ length xs + 1
  one_longer xs x = length-append xs (x ∷ [])

  -- another last scalar changes one cell: the one after k whole cells
  last_repacked : (n k more : ℕ) (xs : List F) (x w : F) → length xs ≡ k * pair.absorb + more → more < pair.absorb → k < n
      → slice_set (packed_cells pair n (xs ++ x ∷ [])) k (packs (drop (k * pair.absorb) xs ++ w ∷ []))
      ≡ packed_cells pair n (xs ++ w ∷ [])
  last_repacked zero k more xs x w long short below = absurd (omega (arith, below))
  last_repacked (suc n) zero more xs x w long short below =
      let all : (y : F) → length (xs ++ y ∷ []) ≤ pair.absorb = λ y. omega (arith, one_longer xs y, long, short) in
      let none : (y : F) → drop pair.absorb (xs ++ y ∷ []) ≡ [] = λ y. drop_all pair.absorb (xs ++ y ∷ []) (all y) in
      let start : 0 * pair.absorb ≡ 0 = omega arith in
      ap (λ i. packs (drop i xs ++ w ∷ []) ∷ packed_cells pair n (drop pair.absorb (xs ++ x ∷ []))) start
      ∙ ap₂ (λ ys rest. packs ys ∷ packed_cells pair n rest) (sym (take_all pair.absorb (xs ++ w ∷ []) (all w)))
      (none x ∙ sym (none w))
  last_repacked (suc n) (suc k) more xs x w long short below =
      let size = pair.absorb in
      let enough : size ≤ length xs = omega (arith, long) in
      let front : (y : F) → take size (xs ++ y ∷ []) ≡ take size xs = λ y. take-append-le size xs (y ∷ []) enough in
      let rest : (y : F) → drop size (xs ++ y ∷ []) ≡ drop size xs ++ y ∷ [] = λ y. drop-append-le size xs (y ∷ []) enough in
      let left : length (drop size xs) ≡ k * size + more = omega (arith, length-drop size xs, long) in
      let next : suc k * size ≡ size + k * size = omega arith in
      let before : drop (suc k * size) xs ≡ drop (k * size) (drop size xs) =
      ap (λ i. drop i xs) next ∙ sym (drop-drop (k * size) size xs) in
      let others =
      ap₂ (λ ys zs. slice_set (packed_cells pair n ys) k (packs (zs ++ w ∷ []))) (rest x) before
      ∙ last_repacked n k more (drop size xs) x w left short (omega (arith, below))
      ∙ ap (packed_cells pair n) (sym (rest w)) in
      ap₂ (λ ys cells. packs ys ∷ cells) (front x ∙ sym (front w)) others

  -- the same over the rate, whose count is the same
  pub candidate_replaced : (rate k more : ℕ) (cells : List PF) (xs : List F) (x w : F) → length xs ≡ k * pair.absorb + more
      → more < pair.absorb → k < rate
      → slice_set (scalars_over pair rate cells (xs ++ x ∷ [])) k (packs (drop (k * pair.absorb) xs ++ w ∷ []))
      ≡ scalars_over pair rate cells (xs ++ w ∷ [])
  candidate_replaced rate k more cells xs x w long short below =
      let counted : ℕ → List PF = λ n. plus pair.outer (cell pair.outer cells rate) n ∷ drop (rate + 1) cells in
      let before = packed_cells pair rate (xs ++ x ∷ []) in
      set-append_left before (counted (length (xs ++ x ∷ []))) k (packs (drop (k * pair.absorb) xs ++ w ∷ []))
      (omega (arith, below, length-packed_cells pair rate (xs ++ x ∷ [])))
      ∙ ap₂ (λ front n. front ++ counted n) (last_repacked rate k more xs x w long short below)
      (one_longer xs x ∙ sym (one_longer xs w))

  -- the last digit of the row is that of the last cell of the rate
  pub last_digit : (rate : ℕ) (cells : List PF) → 0 < rate → 0 < pair.squeeze
      → digit_of pair.inner pair.outer (cell pair.outer cells (rate - 1)) (pair.squeeze - 1)
      ≡ digit_in_row pair cells (row_of pair rate - 1)
  last_digit zero cells positive some = absurd (omega (arith, positive))
  last_digit (suc r) cells positive some =
      let size = pair.squeeze in
      let below : size - 1 < size = omega (arith, some) in
      let is : r * size + (size - 1) ≡ suc r * size - 1 = omega (arith, some) in
      let last : suc r - 1 ≡ r = omega arith in
      ap₂ (λ i d. digit_of pair.inner pair.outer (cell pair.outer cells i) d)
      (last ∙ sym (div-mul-add r size (size - 1) below) ∙ ap (λ n. n / size) is)
      (sym (mod-mul-add r size (size - 1) below) ∙ ap (λ n. n % size) is)

module _ {C T : Type 0} (rule : SpongeRule C T) (positive : (rule.row_len == 0) ≡ false) where
  -- what is drawn where a value was appended: whether it filled a block or not, the cells are permuted once
  drawn-appended : (b : Bool) (cells : C) (pending : List T)
      → let a : CellSponge C T = record { cells = cells; pending = pending; outputs_left = 0 } in
      calls.sampled rule (if b then calls.duplexed rule a else a)
      ≡ rule.output (rule.permute (permutation_input rule cells pending)) (rule.row_len - 1)
  drawn-appended true cells pending =
      let d = calls.duplexed rule (record { cells = cells; pending = pending; outputs_left = 0 }) in
      ap (λ b. calls.last_output rule (if b then calls.duplexed rule d else d)) positive
  drawn-appended false cells pending = refl

module _ {F PF P : Type 0} (pair : FieldPair F PF) (permute : P → List PF → List PF) (rate : ℕ) (some : 0 < rate)
    (some_digits : 0 < pair.squeeze) where
  -- what a candidate gives is what is drawn after its observation
  pub given-is_drawn : (c : MultiFieldState F PF P) (x : F) (k more : ℕ)
      → length c.sponge.pending ≡ k * pair.absorb + more → more < pair.absorb → k < rate
      → (w : F)
      → given_by pair permute rate (record {
        cells = scalars_over pair rate c.sponge.cells (c.sponge.pending ++ x ∷ []);
        place = k;
        before = drop (k * pair.absorb) c.sponge.pending;
        permutation = c.permutation;
      }) w
      ≡ sampled pair permute rate (scalar_observed pair permute rate c w)
  given-is_drawn c x k more long short below w =
      let cells = c.sponge.cells in
      let xs = c.sponge.pending in
      let block = xs ++ w ∷ [] in
      let rule = scalars_rule pair (permute c.permutation) rate in
      let some_row : 0 < row_of pair rate = some_product rate pair.squeeze some some_digits in
      let not_none : (row_of pair rate == 0) ≡ false = ne_eqb (row_of pair rate) 0 (λ e. omega (arith, e, some_row)) in
      last_digit pair rate _ some some_digits
      ∙ ap (λ from. digit_in_row pair (permute c.permutation from) (row_of pair rate - 1))
      (candidate_replaced pair rate k more cells xs x w long short below ∙ sym (permutation_input-snoc rule cells xs w))
      ∙ sym (drawn-appended rule not_none (length block == batch_of pair rate) cells block)

pub not_true : ¬ (false ≡ true)
not_true same = search (rules, same)

some_is : (b : Bool) → Some b ≡ Some true → b ≡ true
some_is true same = refl
some_is false same = search (rules, same)

-- a candidate passes where checks are prepared for a challenger exactly where it passes the check of the challenger
module _ {F PF P : Type 0} (pair : FieldPair F PF) (permute : P → List PF → List PF) (rate : ℕ) (c : MultiFieldState F PF P)
    (s : PreparedChecks F PF P) where
  abbrev is_zero : ℕ → F → Bool
  is_zero bits x = pair.inner.number (sampled pair permute rate (scalar_observed pair permute rate c x)) % 2 ^ bits == 0

  pub accepted-passes : (bits : ℕ) (x : F) → 0 < bits → PreparedFor pair permute rate c s
      → Accepts pair permute rate s bits x → (check pair permute rate bits x).sampled c ≡ Some true
  accepted-passes zero x some prepared accepted = absurd (omega (arith, some))
  accepted-passes (suc bits) x some prepared accepted =
      ap Some (eq-eqb _ 0 (ap (λ y. pair.inner.number y % 2 ^ suc bits) (sym (prepared x)) ∙ accepted))

  pub passing-accepted : (bits : ℕ) (x : F) → 0 < bits → PreparedFor pair permute rate c s
      → (check pair permute rate bits x).sampled c ≡ Some true → Accepts pair permute rate s bits x
  passing-accepted zero x some prepared passes = absurd (omega (arith, some))
  passing-accepted (suc bits) x some prepared passes =
      ap (λ y. pair.inner.number y % 2 ^ suc bits) (prepared x)
      ∙ eqb-true _ 0 (some_is (is_zero (suc bits) x) passes)

  module _ (bits : ℕ) (some : bits ≡ 0 → ⊥) (prepared : PreparedFor pair permute rate c s) where
    more : 0 < bits
    more = omega (arith, some)

    pub least-is_least : (x : F) → IsLeastAccepted pair permute rate s bits x
        → IsLeast pair.inner (check pair permute rate bits) c x
    least-is_least x found =
        record {
          passes = accepted-passes bits x more prepared found.passes;
          least = λ n lt passes. found.least n lt (passing-accepted bits (pair.inner.of n) more prepared passes);
        }

    pub none-passes : NoneAccepted pair permute rate s bits → NonePasses pair.inner (check pair permute rate bits) c
    none-passes none = λ n lt passes. none n lt (passing-accepted bits (pair.inner.of n) more prepared passes)
