-- The place of a draw among the outputs, after all pending values are absorbed.
use Rattle.std.proofs.Common.{◌≡◌, ℕ, zero, suc, ◌<◌, ◌-◌, List, [], ◌∷◌, ◌++◌, map, replicate, refl, sym, ap, ◌∙◌}
use Rattle.std.{proofs.Common.{append-nil, arith}, specs.List.range_with_len}
use Rattle.p3_challenger_core.specs.Segments.{run_segments, run_calls, Segment, observe, draw}
use Rattle.p3_challenger_core.specs.SegmentLaws.{run_calls-segments, cut-only}
use Rattle.p3_sponge.specs.SpongeSegments.{sponge_by_segments, outputs_after, opened_cells, outputs_of, run_values}
use Rattle.p3_sponge.specs.{SpongeSegments.run_draws, SpongeStepLaws.{sponge_steps, Fits}, OutputsLaws.outputs-places}
use Rattle.p3_sponge.specs.{Outputs.{outputs_from, output_at}, SpongeCalls.{sponge_by_calls, SpongeRule, CellSponge}}

module _ {C T : Type 0} (rule : SpongeRule C T) where
  -- the outputs of cells, from the first on
  abbrev pub first_outputs : C → ℕ → List T
  first_outputs cells n = map (output_at (outputs_of rule) cells) (range_with_len 0 n)

  -- the places of draws while all outputs are left
  all-places : (cells : C) (n : ℕ)
      → outputs_from (outputs_of rule) cells (rule.row_len - rule.row_len) n ≡ first_outputs cells n
  all-places cells n =
      let none : rule.row_len - rule.row_len ≡ 0 = omega arith in
      ap (λ p. outputs_from (outputs_of rule) cells p n) none ∙ outputs-places (outputs_of rule) cells 0 n

  -- the sponge right after values are absorbed
  abbrev pub after_values : C → List T → CellSponge C T
  after_values cells pending = record { cells = cells; pending = pending; outputs_left = outputs_after rule pending }

  -- the draws of that sponge begin at place 0
  pub opened-places : (cells : C) (pending : List T) (n : ℕ)
      → (run_draws rule (after_values cells pending) n).answers
      ≡ first_outputs (opened_cells rule (after_values cells pending)) n
  opened-places cells pending zero = refl
  opened-places cells [] (suc n) = all-places cells (suc n)
  opened-places cells (x ∷ xs) (suc n) = all-places (rule.permute (rule.over cells (x ∷ xs))) (suc n)

  pub draws-places : 0 < rule.block_len → 0 < rule.row_len → {D : Type 0} (digest : C → D) (s : CellSponge C T)
      → Fits rule s → (x : T) (xs : List T) (n : ℕ)
      → (run_calls (sponge_by_calls rule digest) s (map observe (x ∷ xs) ++ replicate n draw)).answers
      ≡ first_outputs (opened_cells rule (run_values rule s (x ∷ xs)).after) n
  draws-places some_block some_row digest s fits x xs n =
      let calls = map observe (x ∷ xs) ++ replicate n draw in
      let first : Segment T = record { values = x ∷ xs; draws = n } in
      let by_segments = sponge_by_segments rule digest in
      let end = (run_values rule s (x ∷ xs)).after in
      ap (λ run. run.answers)
      (run_calls-segments (Fits rule) (sponge_by_calls rule digest) by_segments
      (sponge_steps rule some_block some_row digest) s fits calls)
      ∙ sym (ap (λ cut. (run_segments by_segments s cut).answers) (cut-only calls first [] refl))
      ∙ append-nil (run_draws rule end n).answers
      ∙ opened-places end.cells end.pending n
