-- A multi-field challenger call by call: scalars of one field are packed into cells of a larger one, and drawn from
-- them as digits.
use Rattle.std.specs.Prelude.{ℕ, zero, suc, ◌==◌, ◌*◌, ◌/◌, ◌%◌, List, [], ◌∷◌, ◌++◌, length, take, drop, replicate}
use Rattle.std.specs.Prelude.{if◌then◌else◌, Option, Some, None}
use Rattle.p3_field_core.specs.Residues.{Residues}
use Rattle.p3_field_bridge.specs.Bridges.{packed, digit_of}
use Rattle.p3_challenger_core.specs.Segments.{Call, observe, observe_empty_array, draw, stays, ByCalls}
use Rattle.p3_sponge.specs.SpongeCalls.{SpongeRule, CellSponge, SpongeRun, emptied, permuting, run_value, run_draw}
use Rattle.p3_sponge.specs.{Cells.{cell, counted_over, overwritten}, SpongeCalls.run_end}
use Rattle.p3_sponge.specs.SpongeCalls as sponge

-- Two fields, for the scalars and for the cells, with three numbers: the bits of a packed scalar, the scalars
-- packed in a cell, and the digits drawn from a cell.
pub record FieldPair (F PF : Type 0) : Type 0 where
  pub inner : Residues F
  pub outer : Residues PF
  pub bits : ℕ
  pub absorb : ℕ
  pub squeeze : ℕ

-- what is observed at once: a scalar, or a digest with all its words
pub data Symbol (F PF : Type 0) : Type 0 where
  scalar : F → Symbol F PF
  digest : List PF → Symbol F PF

-- the scalar, if there is one, or else the digest of the words
abbrev pub symbol_of : {F PF : Type 0} → Option F → List PF → Symbol F PF
symbol_of None words = digest words
symbol_of (Some x) words = scalar x

-- A sponge of cells, whose first ones are the rate; fewer scalars are pending than the rate packs. The digits of
-- the rate form a sequence, from its first cell to its last and within each cell from the lowest up. The outputs
-- left are the first digits of that sequence.
abbrev pub MultiFieldSponge : Type 0 → Type 0 → Type 0
MultiFieldSponge F PF = CellSponge (List PF) F

-- how many scalars the rate packs
abbrev pub batch_of : {F PF : Type 0} → FieldPair F PF → ℕ → ℕ
batch_of pair rate = pair.absorb * rate

-- how many digits the rate has
abbrev pub row_of : {F PF : Type 0} → FieldPair F PF → ℕ → ℕ
row_of pair rate = rate * pair.squeeze

-- a sponge of zeros, without pending scalars and outputs
abbrev pub fresh : {F PF : Type 0} → FieldPair F PF → ℕ → MultiFieldSponge F PF
fresh pair width = emptied (replicate width (pair.outer.of 0)) 0

-- ---- what is absorbed

-- n cells that pack scalars, each as many as it can, the first ones first; a cell without scalars is 0
abbrev pub packed_cells : {F PF : Type 0} → FieldPair F PF → ℕ → List F → List PF
packed_cells pair zero scalars = []
packed_cells pair (suc n) scalars =
    packed pair.inner pair.outer pair.bits (take pair.absorb scalars) ∷ packed_cells pair n (drop pair.absorb scalars)

-- the cells after scalars are packed over the rate; the number of scalars is the tag
abbrev pub scalars_over : {F PF : Type 0} → FieldPair F PF → ℕ → List PF → List F → List PF
scalars_over pair rate cells scalars =
    counted_over pair.outer rate cells (packed_cells pair rate scalars) (length scalars)

-- a list in at most n blocks of this size, of which only the last may be shorter
abbrev pub blocks_within : {T : Type 0} → ℕ → ℕ → List T → List (List T)
blocks_within size zero xs = []
blocks_within size (suc n) [] = []
blocks_within size (suc n) (x ∷ xs) = take size (x ∷ xs) ∷ blocks_within size n (drop size (x ∷ xs))

-- all blocks of a list, none of them empty
abbrev pub blocks : {T : Type 0} → ℕ → List T → List (List T)
blocks size xs = blocks_within size (length xs) xs

-- ---- outputs

-- the digit at a place of the sequence
abbrev pub digit_in_row : {F PF : Type 0} → FieldPair F PF → List PF → ℕ → F
digit_in_row pair cells place =
    digit_of pair.inner pair.outer (cell pair.outer cells (place / pair.squeeze)) (place % pair.squeeze)

-- the rules by which scalars are absorbed and digits drawn
abbrev pub scalars_rule : {F PF : Type 0} → FieldPair F PF → (List PF → List PF) → ℕ → SpongeRule (List PF) F
scalars_rule pair permute rate = record {
  over = scalars_over pair rate;
  permute = permute;
  block_len = batch_of pair rate;
  row_len = row_of pair rate;
  output = digit_in_row pair;
}

-- The number of digits that a draw has queued and that were neither drawn nor dropped. It is 0 while all outputs
-- are left, since then no draw has taken any.
abbrev pub queued : {F PF : Type 0} → FieldPair F PF → ℕ → MultiFieldSponge F PF → ℕ
queued pair rate s = if s.outputs_left == row_of pair rate then 0 else s.outputs_left

module _ {F PF : Type 0} (pair : FieldPair F PF) (permute : List PF → List PF) (rate : ℕ) where
  abbrev rule : SpongeRule (List PF) F
  rule = scalars_rule pair permute rate

  -- ---- a digest

  -- pending scalars are absorbed; without any, the outputs are dropped
  abbrev pub absorbed_pending : List PF → List F → MultiFieldSponge F PF
  absorbed_pending cells [] = emptied cells 0
  absorbed_pending cells (x ∷ xs) = permuting rule (scalars_over pair rate cells (x ∷ xs))

  -- blocks of words are absorbed one after another, each with its own count
  abbrev pub words_absorbed : MultiFieldSponge F PF → List (List PF) → MultiFieldSponge F PF
  words_absorbed s [] = s
  words_absorbed s (block ∷ others) = words_absorbed (permuting rule (overwritten pair.outer rate s.cells block)) others

  abbrev pub digest_observed : MultiFieldSponge F PF → List PF → MultiFieldSponge F PF
  digest_observed s words = words_absorbed (absorbed_pending s.cells s.pending) (blocks rate words)

  -- the query of the pending scalars, if there are any
  abbrev pub queries_by_pending : List PF → List F → List (List PF)
  queries_by_pending cells [] = []
  queries_by_pending cells (x ∷ xs) = scalars_over pair rate cells (x ∷ xs) ∷ []

  -- the query of each block of words, which overwrites the cells that the earlier blocks left
  abbrev pub queries_by_words : List PF → List (List PF) → List (List PF)
  queries_by_words cells [] = []
  queries_by_words cells (block ∷ others) =
      let block_over = overwritten pair.outer rate cells block in
      block_over ∷ queries_by_words (permute block_over) others

  abbrev pub queries_by_digest : MultiFieldSponge F PF → List PF → List (List PF)
  queries_by_digest s words = queries_by_pending s.cells s.pending
      ++ queries_by_words (absorbed_pending s.cells s.pending).cells (blocks rate words)

  -- ---- what a call does

  abbrev pub observed : MultiFieldSponge F PF → Symbol F PF → MultiFieldSponge F PF
  observed s (scalar x) = sponge.observed rule s x
  observed s (digest words) = digest_observed s words

  -- an empty array does nothing
  abbrev pub run_call : MultiFieldSponge F PF → Call (Symbol F PF) → SpongeRun (List PF) F
  run_call s (observe (scalar x)) = run_value rule s x
  run_call s (observe (digest words)) =
      record { answers = []; queries = queries_by_digest s words; after = digest_observed s words }
  run_call s observe_empty_array = stays s
  run_call s draw = run_draw rule s

  -- a multi-field challenger call by call: the final digest is the rate after one more step
  abbrev pub multi_field_by_calls : ByCalls (Symbol F PF) F (List PF) (List PF) (MultiFieldSponge F PF)
  multi_field_by_calls = record { call = run_call; digest = run_end rule (take rate) }
