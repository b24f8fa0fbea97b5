-- A duplex challenger call by call: a sponge whose blocks overwrite the rate of its cells.
use Rattle.std.specs.Prelude.{ℕ, List, take, replicate}
use Rattle.p3_field_core.specs.Residues.{Residues}
use Rattle.p3_challenger_core.specs.Segments.{ByCalls}
use Rattle.p3_sponge.specs.Cells.{cell, overwritten}
use Rattle.p3_sponge.specs.SpongeCalls.{SpongeRule, CellSponge, SpongeRun, emptied, sponge_by_calls}

-- The cells, whose first ones are the rate, and the pending values, fewer than the rate has cells. The outputs left are
-- the first cells of the rate.
abbrev pub DuplexSponge : Type 0 → Type 0
DuplexSponge F = CellSponge (List F) F

abbrev pub DuplexRun : Type 0 → Type 0
DuplexRun F = SpongeRun (List F) F

-- a sponge of zeros, without pending values and outputs
abbrev pub fresh : {F : Type 0} → Residues F → ℕ → DuplexSponge F
fresh r width = emptied (replicate width (r.of 0)) 0

-- A block has at most as many values as the rate has cells. It overwrites the rate, with zeros after it, and its length
-- is added to the cell after the rate. The outputs are the cells of the rate.
abbrev pub duplex : {F : Type 0} → Residues F → (List F → List F) → ℕ → SpongeRule (List F) F
duplex r permute rate =
    record { over = overwritten r rate; permute = permute; block_len = rate; row_len = rate; output = cell r }

-- the outputs left
abbrev pub outputs : {F : Type 0} → DuplexSponge F → List F
outputs s = take s.outputs_left s.cells

abbrev pub DuplexCalls : Type 0 → Type 0
DuplexCalls F = ByCalls F F (List F) (List F) (DuplexSponge F)

-- a duplex challenger call by call: the final digest is the rate after one more step
abbrev pub duplex_by_calls : {F : Type 0} → Residues F → (List F → List F) → ℕ → DuplexCalls F
duplex_by_calls r permute rate = sponge_by_calls (duplex r permute rate) (take rate)
