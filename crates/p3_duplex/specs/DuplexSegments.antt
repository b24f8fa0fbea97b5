-- A duplex challenger over segments of calls: its draws and its queries to the permutation, as functions of whole
-- segments.
use Rattle.std.specs.Prelude.{ℕ, List, take}
use Rattle.p3_field_core.specs.Residues.{Residues}
use Rattle.p3_challenger_core.specs.Segments.{BySegments}
use Rattle.p3_sponge.specs.SpongeSegments.{outputs_of, run_values, opened_cells, sponge_by_segments}
use Rattle.p3_duplex.specs.DuplexCalls.{DuplexSponge, duplex}
use Rattle.p3_sponge.specs.Outputs as outputs

abbrev pub DuplexSegments : Type 0 → Type 0
DuplexSegments F = BySegments F F (List F) (List F) (DuplexSponge F)

-- each segment continues where the one before it stopped
abbrev pub duplex_by_segments : {F : Type 0} → Residues F → (List F → List F) → ℕ → DuplexSegments F
duplex_by_segments r permute rate = sponge_by_segments (duplex r permute rate) (take rate)

-- The cells at the start of the draws after values. Everything pending and the values are absorbed, including a last
-- block that does not fill the rate.
abbrev pub absorbed_cells : {F : Type 0} → Residues F → (List F → List F) → ℕ → DuplexSponge F → List F → List F
absorbed_cells r permute rate start values =
    opened_cells (duplex r permute rate) (run_values (duplex r permute rate) start values).after

-- The outputs of cells form one sequence. It has the cells from the last of the rate to the first, then those of the
-- cells permuted once, and so on.
abbrev pub output_at : {F : Type 0} → Residues F → (List F → List F) → ℕ → List F → ℕ → F
output_at r permute rate cells place = outputs.output_at (outputs_of (duplex r permute rate)) cells place
