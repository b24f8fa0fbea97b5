-- A prepared state: what an element in its cell gives is what is drawn after its observation.
use Rattle.std.proofs.Common.{◌≡◌, ℕ, zero, suc, ◌+◌, ◌-◌, ◌*◌, ◌%◌, ◌^◌, ◌<◌, ◌≤◌, ◌∙◌, List, [], ◌∷◌, ◌++◌, length, drop}
use Rattle.std.proofs.Common.{replicate, take, Bool, true, false, Some, if◌then◌else◌, slice_set, slice_index_or}
use Rattle.std.proofs.lemmas.List.{length-append, length-take-le, take_more, set-append_left}
use Rattle.p3_field_core.specs.Residues.{Residues, plus}
use Rattle.p3_grinding.specs.Checks.{IsLeast, NonePasses}
use Rattle.p3_duplex.specs.LaneSearch.{given_by, HasZeros, IsLeastOf, NoneOfAll, PassesAt, PassesCheck, check}
use Rattle.p3_sponge.specs.SpongeStepLaws.{permutation_input-snoc}
use Rattle.std.{proofs.Common.{refl, sym, ap, ap₂, append_assoc, arith, rules}, specs.Prelude.◌==◌}
use Rattle.std.proofs.{Math.Nat.mul-le-mul, lemmas.Bool.{ne_eqb, eq-eqb, eqb-true}, Math.Seq.set-append_seam}
use Rattle.p3_duplex.specs.{DuplexCalls.duplex, DuplexState.{DuplexState, observed, sampled}}
use Rattle.p3_sponge.specs.{Cells.{cell, overwritten}, SpongeCalls.{SpongeRule, CellSponge, permutation_input}}
use Rattle.p3_sponge.specs.SpongeCalls as calls

module _ {F : Type 0} (r : Residues F) (rate : ℕ) (cells : List F) where
  abbrev zeros : ℕ → List F
  zeros n = replicate (rate - n) (r.of 0)

  abbrev counted : ℕ → List F
  counted n = plus r (cell r cells rate) n ∷ drop (rate + 1) cells

  -- another last value of the block is one cell replaced
  last_replaced : (pending : List F) (x w : F)
      → slice_set (overwritten r rate cells (pending ++ x ∷ [])) (length pending) w
      ≡ overwritten r rate cells (pending ++ w ∷ [])
  last_replaced pending x w =
      let n = length (pending ++ x ∷ []) in
      let long : n ≡ length (pending ++ w ∷ []) =
      length-append pending (x ∷ []) ∙ sym (length-append pending (w ∷ [])) in
      ap (λ all. slice_set all (length pending) w) (append_assoc (pending ++ x ∷ []) (zeros n) (counted n))
      ∙ set-append_left (pending ++ x ∷ []) (zeros n ++ counted n) (length pending) w
      (omega (arith, length-append pending (x ∷ [])))
      ∙ ap₂ (λ front k. front ++ (zeros k ++ counted k)) (set-append_seam pending x [] w) long
      ∙ sym (append_assoc (pending ++ w ∷ []) (zeros (length (pending ++ w ∷ []))) (counted (length (pending ++ w ∷ []))))

module _ {C T : Type 0} (rule : SpongeRule C T) (positive : (rule.row_len == 0) ≡ false) where
  -- what is drawn where a value was appended: whether it filled a block or not, the cells are permuted once
  drawn-appended : (b : Bool) (cells : C) (pending : List T)
      → let a : CellSponge C T = record { cells = cells; pending = pending; outputs_left = 0 } in
      calls.sampled rule (if b then calls.duplexed rule a else a)
      ≡ rule.output (rule.permute (permutation_input rule cells pending)) (rule.row_len - 1)
  drawn-appended true cells pending =
      let d = calls.duplexed rule (record { cells = cells; pending = pending; outputs_left = 0 }) in
      ap (λ b. calls.last_output rule (if b then calls.duplexed rule d else d)) positive
  drawn-appended false cells pending = refl

module _ {F P : Type 0} (r : Residues F) (permute : P → List F → List F) (rate : ℕ) (some : 0 < rate) (c : DuplexState F P) where
  pub given-is_drawn : (x w : F)
      → given_by r (permute c.permutation) (overwritten r rate c.sponge.cells (c.sponge.pending ++ x ∷ [])) (length c.sponge.pending) (rate - 1) w
      ≡ sampled r permute rate (observed r permute rate c w)
  given-is_drawn x w =
      let cells = c.sponge.cells in
      let block = c.sponge.pending ++ w ∷ [] in
      let rule = duplex r (permute c.permutation) rate in
      ap (λ xs. cell r (permute c.permutation xs) (rate - 1))
      (last_replaced r rate cells c.sponge.pending x w ∙ sym (permutation_input-snoc rule cells c.sponge.pending w))
      ∙ sym (drawn-appended rule (ne_eqb rate 0 (λ e. omega (arith, e, some))) (length block == rate) cells block)

  -- an element passes at its place of the prepared cells exactly where it passes on the challenger
  pub passes-on_challenger : (x : F) (cells : List F) (place bits : ℕ)
      → cells ≡ overwritten r rate c.sponge.cells (c.sponge.pending ++ x ∷ []) → place ≡ length c.sponge.pending
      → PassesAt r (permute c.permutation) cells place (rate - 1) bits ≡ PassesCheck r permute rate bits c
  passes-on_challenger x cells place bits wrote at = λ i w. HasZeros r bits
      ((ap₂ (λ from n. given_by r (permute c.permutation) from n (rate - 1) w) wrote at ∙ given-is_drawn x w) i)

-- the same of the fields that a challenger has
pub passes-prepared : {F P : Type 0} (r : Residues F) (permute : P → List F → List F) (rate : ℕ) → 0 < rate
    → (c : DuplexState F P) (cells buffer : List F) (inputs outputs_left draw_limit : ℕ) (permutation : P)
    → inputs < length buffer → record {
      sponge = record { cells = cells; pending = take inputs buffer; outputs_left = outputs_left };
      permutation = permutation;
      draw_limit = draw_limit;
    } ≡ c
    → (new : List F) → new ≡ overwritten r rate cells (take (inputs + 1) buffer) → (bits : ℕ)
    → PassesAt r (permute permutation) new inputs (rate - 1) bits ≡ PassesCheck r permute rate bits c
passes-prepared {F} {P} r permute rate positive c cells buffer inputs outputs_left draw_limit permutation here is new wrote bits =
    let state : DuplexState F P = record {
      sponge = record { cells = cells; pending = take inputs buffer; outputs_left = outputs_left };
      permutation = permutation;
      draw_limit = draw_limit;
    } in
    passes-on_challenger r permute rate positive state (slice_index_or buffer inputs (r.of 0)) new inputs bits
    (wrote ∙ ap (overwritten r rate cells) (take_more buffer inputs (r.of 0) here))
    (sym (length-take-le inputs buffer (omega (arith, here))))
    ∙ ap (PassesCheck r permute rate bits) is

some_is : (b : Bool) → Some b ≡ Some true → b ≡ true
some_is true same = refl
some_is false same = search (rules, same)

-- a check of at least one bit passes exactly where the low bits of what is drawn are 0
module _ {F P : Type 0} (r : Residues F) (permute : P → List F → List F) (rate : ℕ) (c : DuplexState F P) where
  passes-check : (bits : ℕ) (x : F) → (bits ≡ 0 → ⊥) → PassesCheck r permute rate bits c x
      → (check r permute rate bits x).sampled c ≡ Some true
  passes-check zero x some passes = absurd (some refl)
  passes-check (suc more) x some passes = ap Some (eq-eqb _ 0 passes)

  check-passes : (bits : ℕ) (x : F) → (bits ≡ 0 → ⊥) → (check r permute rate bits x).sampled c ≡ Some true
      → PassesCheck r permute rate bits c x
  check-passes zero x some passes = absurd (some refl)
  check-passes (suc more) x some passes =
      let answer : Bool = r.number (sampled r permute rate (observed r permute rate c x)) % 2 ^ suc more == 0 in
      eqb-true _ 0 (some_is answer passes)

  module _ (bits : ℕ) (some : bits ≡ 0 → ⊥) where
    pub least-is_least : (x : F) → IsLeastOf r (PassesCheck r permute rate bits c) x → IsLeast r (check r permute rate bits) c x
    least-is_least x found =
        record {
          passes = passes-check bits x some found.passes;
          least = λ n lt passes. found.least n lt (check-passes bits (r.of n) some passes);
        }

    pub none-passes : NoneOfAll r (PassesCheck r permute rate bits c) → NonePasses r (check r permute rate bits) c
    none-passes none = λ n lt passes. none n lt (check-passes bits (r.of n) some passes)

-- an array of fewer than 2 ^ 32 small values has room
pub array_fits : (n size : ℕ) → n < 2 ^ 32 → size ≤ 2 ^ 16 → n * size < 2 ^ 63
array_fits n size short small =
    let le : n * size ≤ 2 ^ 32 * 2 ^ 16 = mul-le-mul {n₁ = n} {m₁ = size} {n₂ = 2 ^ 32} {m₂ = 2 ^ 16} (omega (arith, short)) small in
    omega (arith, le)
