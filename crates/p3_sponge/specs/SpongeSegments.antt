-- A sponge of cells over segments of calls: its draws and its queries to the permutation, as functions of whole
-- segments.
use Rattle.std.specs.Prelude.{ℕ, zero, suc, ◌-◌, ◌*◌, ◌/◌, List, [], ◌∷◌, ◌++◌, length, take, drop}
use Rattle.p3_challenger_core.specs.Segments.{stays, run_before, BySegments}
use Rattle.p3_sponge.specs.Outputs.{Outputs, draws_from}
use Rattle.p3_sponge.specs.SpongeCalls.{SpongeRule, CellSponge, SpongeRun, emptied, permuting, run_end}

module _ {C T : Type 0} (rule : SpongeRule C T) where
  -- ---- what is absorbed

  -- the cells after the first n blocks of the values, each permuted in turn
  unfoldable pub absorbed_blocks : ℕ → C → List T → C
  absorbed_blocks zero cells values = cells
  absorbed_blocks (suc n) cells values =
      let block_over = rule.over cells (take rule.block_len values) in
      absorbed_blocks n (rule.permute block_over) (drop rule.block_len values)

  -- the queries of those n blocks: each block over its cells
  unfoldable pub block_queries : ℕ → C → List T → List C
  block_queries zero cells values = []
  block_queries (suc n) cells values =
      let block_over = rule.over cells (take rule.block_len values) in
      block_over ∷ block_queries n (rule.permute block_over) (drop rule.block_len values)

  -- the number of outputs left after the blocks: none while values are pending
  abbrev pub outputs_after : List T → ℕ
  outputs_after [] = rule.row_len
  outputs_after (x ∷ xs) = 0

  -- each whole block of values is absorbed, and the rest is pending
  abbrev pub absorbed : C → List T → SpongeRun C T
  absorbed cells values =
      let blocks = length values / rule.block_len in
      let pending = drop (rule.block_len * blocks) values in
      record {
        answers = [];
        queries = block_queries blocks cells values;
        after = record {
          cells = absorbed_blocks blocks cells values;
          pending = pending;
          outputs_left = outputs_after pending;
        };
      }

  -- a segment's values are appended to the pending ones; without values nothing changes
  abbrev pub run_values : CellSponge C T → List T → SpongeRun C T
  run_values start [] = stays start
  run_values start (x ∷ xs) = absorbed start.cells (start.pending ++ x ∷ xs)

  -- ---- what is drawn

  -- the outputs of the cells, of the cells permuted once, and so on
  abbrev pub outputs_of : Outputs C T
  outputs_of = record { next = rule.permute; row_len = rule.row_len; output = rule.output }

  -- the start of draws: all pending values are absorbed, and all outputs are left
  abbrev pub opened : C → List T → ℕ → SpongeRun C T
  opened cells [] outputs_left = stays (emptied cells outputs_left)
  opened cells (x ∷ xs) outputs_left =
      let block_over = rule.over cells (x ∷ xs) in
      record { answers = []; queries = block_over ∷ []; after = permuting rule block_over }

  -- draws begin at the last output left, or at the last output of the cells permuted once if none is left
  abbrev pub run_draws : CellSponge C T → ℕ → SpongeRun C T
  run_draws s zero = stays s
  run_draws s (suc n) =
      let opening = opened s.cells s.pending s.outputs_left in
      run_before opening
      (draws_from outputs_of emptied opening.after.cells (rule.row_len - opening.after.outputs_left) n)

  -- the cells at the start of the draws after a sponge: all pending values are absorbed
  abbrev pub opened_cells : CellSponge C T → C
  opened_cells s = (opened s.cells s.pending s.outputs_left).after.cells

  -- each segment continues where the one before it stopped, and the digest is that of the cells after one more step
  abbrev pub sponge_by_segments : {D : Type 0} → (C → D) → BySegments T T C D (CellSponge C T)
  sponge_by_segments digest =
      record { values = run_values; draws = run_draws; ended = λ s. s; digest = run_end rule digest }
