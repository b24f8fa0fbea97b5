-- A sponge of cells call by call: values are absorbed block by block, and outputs are drawn from the cells.
use Rattle.std.specs.Prelude.{ℕ, ◌==◌, ◌-◌, List, [], ◌∷◌, ◌++◌, length, if◌then◌else◌}
use Rattle.p3_challenger_core.specs.Segments.{Call, observe, observe_empty_array, draw, Run, stays, ByCalls}

-- The rules of a sponge: the absorption of a block into the cells, the permutation, the number of values in a block,
-- the number of outputs of permuted cells, and the output at a place.
pub record SpongeRule (C T : Type 0) : Type 0 where
  pub over : C → List T → C
  pub permute : C → C
  pub block_len : ℕ
  pub row_len : ℕ
  pub output : C → ℕ → T

-- The state of a sponge: its cells, the pending values, and the number of outputs left. Fewer values are pending than
-- a block has, and the outputs left are the first ones of the cells. While a value is pending no output is left.
pub record CellSponge (C T : Type 0) : Type 0 where
  pub cells : C
  pub pending : List T
  pub outputs_left : ℕ

abbrev pub SpongeRun : Type 0 → Type 0 → Type 0
SpongeRun C T = Run T C (CellSponge C T)

-- cells without pending values, and with this many outputs left
abbrev pub emptied : {C T : Type 0} → C → ℕ → CellSponge C T
emptied cells outputs_left = record { cells = cells; pending = []; outputs_left = outputs_left }

-- one more value is pending, and the outputs are dropped
abbrev pub appended : {C T : Type 0} → CellSponge C T → T → CellSponge C T
appended s x = record { cells = s.cells; pending = s.pending ++ x ∷ []; outputs_left = 0 }

-- the sponge without the last output left
abbrev pub one_taken : {C T : Type 0} → CellSponge C T → CellSponge C T
one_taken s = record s { outputs_left = s.outputs_left - 1 }

module _ {C T : Type 0} (rule : SpongeRule C T) where
  -- the input of the permutation: the cells with the pending values, or as they are if nothing is pending
  abbrev pub permutation_input : C → List T → C
  permutation_input cells [] = cells
  permutation_input cells (x ∷ xs) = rule.over cells (x ∷ xs)

  -- the sponge after cells are permuted, with all outputs left
  abbrev pub permuting : C → CellSponge C T
  permuting cells = emptied (rule.permute cells) rule.row_len

  -- the sponge after the pending values are permuted
  abbrev pub duplexed : CellSponge C T → CellSponge C T
  duplexed s = permuting (permutation_input s.cells s.pending)

  -- the sponge after a value: a full block is absorbed at once
  abbrev pub absorbed_full : CellSponge C T → CellSponge C T
  absorbed_full s = if length s.pending == rule.block_len then duplexed s else s

  abbrev pub observed : CellSponge C T → T → CellSponge C T
  observed s x = absorbed_full (appended s x)

  -- the sponge from which a draw takes its output: it absorbs or permutes first if no output is left
  abbrev pub ready : CellSponge C T → CellSponge C T
  ready s = if s.outputs_left == 0 then duplexed s else s

  -- the result of a draw: the last output left
  abbrev pub last_output : CellSponge C T → T
  last_output s = rule.output s.cells (s.outputs_left - 1)

  abbrev pub sampled : CellSponge C T → T
  sampled s = last_output (ready s)

  abbrev pub after_sampled : CellSponge C T → CellSponge C T
  after_sampled s = one_taken (ready s)

  -- ---- the queries to the permutation

  -- a value queries the cells with the block that it fills
  abbrev pub queries_by_value : CellSponge C T → T → List C
  queries_by_value s x =
      let block = s.pending ++ x ∷ [] in if length block == rule.block_len then rule.over s.cells block ∷ [] else []

  -- a draw without outputs queries the cells with the pending values, or as they are
  abbrev pub queries_by_draw : CellSponge C T → List C
  queries_by_draw s = if s.outputs_left == 0 then permutation_input s.cells s.pending ∷ [] else []

  -- the end queries the cells with the pending values, whatever outputs are left
  abbrev pub queries_by_end : CellSponge C T → List C
  queries_by_end s = permutation_input s.cells s.pending ∷ []

  -- ---- what a call does

  abbrev pub run_value : CellSponge C T → T → SpongeRun C T
  run_value s x = record { answers = []; queries = queries_by_value s x; after = observed s x }

  abbrev pub run_draw : CellSponge C T → SpongeRun C T
  run_draw s = record { answers = sampled s ∷ []; queries = queries_by_draw s; after = after_sampled s }

  -- an empty array does nothing
  abbrev pub run_call : CellSponge C T → Call T → SpongeRun C T
  run_call s (observe x) = run_value s x
  run_call s observe_empty_array = stays s
  run_call s draw = run_draw s

  -- the end: a digest of the cells after one more step, whether values are pending or not
  abbrev pub run_end : {D : Type 0} → (C → D) → CellSponge C T → Run T C D
  run_end digest s = record { answers = []; queries = queries_by_end s; after = digest (duplexed s).cells }

  -- a sponge call by call
  abbrev pub sponge_by_calls : {D : Type 0} → (C → D) → ByCalls T T C D (CellSponge C T)
  sponge_by_calls digest = record { call = run_call; digest = run_end digest }
