-- What a challenger keeps of its numbers is what the calls ask of its sponge.
use Rattle.std.proofs.{Common.{◌≡◌, ℕ, List, length, take, arith}, lemmas.List.length-take-le}
use Rattle.p3_field_core.specs.Residues.{Residues}
use Rattle.p3_sponge.specs.SpongeStepLaws.{Fits}
use Rattle.p3_duplex.specs.{DuplexCalls.duplex, DuplexState.KeepsRate}

pub kept-fits : {F : Type 0} (r : Residues F) (permute : List F → List F)
    (width rate inputs outputs_left draw_limit : ℕ) (cells buffer : List F)
    → length buffer ≡ rate → KeepsRate width rate inputs outputs_left draw_limit → Fits (duplex r permute rate)
    (record { cells = cells; pending = take inputs buffer; outputs_left = outputs_left })
kept-fits r permute width rate inputs outputs_left draw_limit cells buffer whole keeps =
    let long : length (take inputs buffer) ≡ inputs =
    length-take-le inputs buffer (omega (arith, whole, keeps.short)) in
    record {
      short = omega (arith, long, keeps.short);
      left = keeps.left;
      none_left = λ more. keeps.none_left (omega (arith, long, more));
    }
