-- Where scalars alone are observed, what is permuted tells them.
use Rattle.std.proofs.Common.{◌≡◌, ℕ, zero, suc, ◌+◌, ◌*◌, ◌<◌, ◌≤◌, List, [], ◌∷◌, ◌++◌, length, take, drop, refl}
use Rattle.std.proofs.Common.{sym, ap, ap₂, subst, ◌∙◌, arith}
use Rattle.std.proofs.lemmas.List.{get_or_at, length-take, length-drop, take-append-drop}
use Rattle.p3_field_core.specs.Residues.{IsResidues, plus}
use Rattle.p3_challenger_core.specs.Segments.{Call, observe, observe_empty_array, draw, Run, run_before, run_calls}
use Rattle.p3_challenger_core.specs.SymbolLaws.{as_many-prefix_code}
use Rattle.p3_read_back.specs.SumLaws.{plus-zero, counts-told}
use Rattle.p3_sponge.specs.{Cells.cell, SpongeStepLaws.Fits}
use Rattle.p3_sponge.specs.SpongeCalls.{SpongeRule, permutation_input, run_value, run_draw, sponge_by_calls}
use Rattle.p3_multi_field.specs.MultiFieldCalls.{FieldPair, MultiFieldSponge, batch_of, row_of, packed_cells}
use Rattle.p3_multi_field.proofs.Packing.{length-packed_cells}
use Rattle.p3_field_bridge.specs.{Bridges.{packed, AreRadixBits, AreCounts}, BridgeLaws.packed-injective}
use Rattle.p3_multi_field.specs.{MultiFieldCalls.scalars_rule, MultiFieldReadBack.{run_scalar_calls, ReadsBack}}
use Rattle.p3_read_back.specs.Queries as queries
use Rattle.p3_sponge.specs.SpongeReadBackLaws as sponge_laws

module _ {F PF : Type 0} (pair : FieldPair F PF) (inner_laws : IsResidues pair.inner)
    (outer_laws : IsResidues pair.outer) (radix : AreRadixBits pair.inner.order pair.bits)
    (counts : AreCounts pair.inner.order pair.outer.order pair.bits pair.absorb pair.squeeze)
    (greater : pair.inner.order < pair.outer.order) (permute : List PF → List PF)
    (rate : ℕ) (below : batch_of pair rate < pair.outer.order) where
  abbrev rule : SpongeRule (List PF) F
  rule = scalars_rule pair permute rate

  no-scalars : (one other : List F) → length one ≡ length other → length one ≤ 0 → one ≡ other
  no-scalars [] [] same few = refl
  no-scalars [] (y ∷ other) same few = absurd (omega (arith, same))
  no-scalars (x ∷ one) other same few = absurd (omega (arith, few))

  -- cells tell equally many scalars that they pack
  cells-tell : (n : ℕ) (one other : List F) → length one ≡ length other → length one ≤ pair.absorb * n
      → packed_cells pair n one ≡ packed_cells pair n other → one ≡ other
  cells-tell zero one other same few e = no-scalars one other same (omega (arith, few))
  cells-tell (suc n) one other same few e =
      let k = pair.absorb in
      let first : packed pair.inner pair.outer pair.bits (take k one)
      ≡ packed pair.inner pair.outer pair.bits (take k other) = cc in
      let others : packed_cells pair n (drop k one) ≡ packed_cells pair n (drop k other) = cc in
      let more : k * suc n ≡ k + k * n = omega arith in
      let front : take k one ≡ take k other =
      packed-injective pair.inner pair.outer inner_laws outer_laws pair.bits pair.absorb pair.squeeze radix counts
      greater (take k one) (take k other) (omega (arith, length-take k one, length-take k other, same))
      (omega (arith, length-take k one)) first in
      let rest : drop k one ≡ drop k other =
      cells-tell n (drop k one) (drop k other) (omega (arith, length-drop k one, length-drop k other, same))
      (omega (arith, length-drop k one, few, more)) others in
      sym (take-append-drop k one) ∙ ap₂ (λ xs ys. xs ++ ys) front rest ∙ take-append-drop k other

  -- the cell after the rate has the number of scalars added
  counted-cell : (cells : List PF) (block : List F) → length block ≤ batch_of pair rate
      → cell pair.outer (permutation_input rule cells block) rate
      ≡ plus pair.outer (cell pair.outer cells rate) (length block)
  counted-cell cells [] within =
      sym (plus-zero pair.outer outer_laws (cell pair.outer cells rate) (omega (arith, below)))
  counted-cell cells (x ∷ xs) within =
      let block = x ∷ xs in
      get_or_at (packed_cells pair rate block) (plus pair.outer (cell pair.outer cells rate) (length block))
      (drop (rate + 1) cells) (pair.outer.of 0) rate (length-packed_cells pair rate block)

  -- scalars over the same cells are as many where they come to the same
  counts-tell : (cells : List PF) (one other : List F) → length one ≤ batch_of pair rate
      → length other ≤ batch_of pair rate → permutation_input rule cells one ≡ permutation_input rule cells other
      → length one ≡ length other
  counts-tell cells one other one_within other_within e =
      let sums : plus pair.outer (cell pair.outer cells rate) (length one)
      ≡ plus pair.outer (cell pair.outer cells rate) (length other) =
      sym (counted-cell cells one one_within) ∙ ap (λ state. cell pair.outer state rate) e
      ∙ counted-cell cells other other_within in
      counts-told pair.outer outer_laws (cell pair.outer cells rate) (length one) (length other)
      (omega (arith, one_within, below)) (omega (arith, other_within, below)) sums

  -- and they are the same
  block-told : (cells : List PF) (one other : List F) → length one ≤ batch_of pair rate
      → length other ≤ batch_of pair rate → permutation_input rule cells one ≡ permutation_input rule cells other
      → one ≡ other
  block-told cells [] [] one_within other_within e = refl
  block-told cells [] (y ∷ ys) one_within other_within e =
      absurd (omega (arith, counts-tell cells [] (y ∷ ys) one_within other_within e))
  block-told cells (x ∷ xs) [] one_within other_within e =
      absurd (omega (arith, counts-tell cells (x ∷ xs) [] one_within other_within e))
  block-told cells (x ∷ xs) (y ∷ ys) one_within other_within e =
      let same = counts-tell cells (x ∷ xs) (y ∷ ys) one_within other_within e in
      let one_front = packed_cells pair rate (x ∷ xs) in
      let other_front = packed_cells pair rate (y ∷ ys) in
      let long : length one_front ≡ length other_front =
      length-packed_cells pair rate (x ∷ xs) ∙ sym (length-packed_cells pair rate (y ∷ ys)) in
      let fronts : one_front ≡ other_front = (as_many-prefix_code one_front other_front _ _ long e).0 in
      cells-tell rate (x ∷ xs) (y ∷ ys) same one_within fronts

  -- calls with scalars alone are those of a sponge of scalars
  scalar_calls-run : (s : MultiFieldSponge F PF) (calls : List (Call F))
      → run_calls (sponge_by_calls rule (take rate)) s calls ≡ run_scalar_calls pair permute rate s calls
  scalar_calls-run s [] = refl
  scalar_calls-run s (observe x ∷ calls) =
      let run = run_value rule s x in ap (run_before run) (scalar_calls-run run.after calls)
  scalar_calls-run s (observe_empty_array ∷ calls) = scalar_calls-run s calls
  scalar_calls-run s (draw ∷ calls) =
      let run = run_draw rule s in ap (run_before run) (scalar_calls-run run.after calls)

  pub reads_back : 0 < batch_of pair rate → 0 < row_of pair rate → (s : MultiFieldSponge F PF) → Fits rule s
      → ReadsBack pair permute rate s
  reads_back some_batch some_row s fits =
      subst (λ (run : List (Call F) → Run F (List PF) (MultiFieldSponge F PF)). queries.ReadsBack run (λ t. t.pending))
      (λ i calls. scalar_calls-run s calls i)
      (sponge_laws.reads_back rule some_batch some_row (take rate) block-told s fits)
