-- Lemmas on cells whose rate is overwritten.
use Rattle.std.proofs.Common.{◌≡◌, ℕ, suc, ◌<◌, ◌+◌, List, ◌∷◌, ◌++◌, length, take, drop, set, get_or, sym, ap}
use Rattle.std.proofs.lemmas.List.{take_at, drop_at, set_at, get_or_at, length-take-le, take-append-drop, drop-drop}
use Rattle.p3_field_core.specs.Residues.{Residues, plus}
use Rattle.p3_sponge.specs.Cells.{cell, counted_over}
use Rattle.std.proofs.{Common.{◌∙◌, add-one, arith}, Math.Seq.drop-cons}

module _ {F : Type 0} (r : Residues F) where
  -- if the rate stays the same, one cell is set
  pub counted_over-set : (cells : List F) (rate n : ℕ) → rate < length cells
      → set cells rate (plus r (cell r cells rate) n) ≡ counted_over r rate cells (take rate cells) n
  counted_over-set cells rate n below =
      let x = plus r (cell r cells rate) n in
      let front : length (take rate cells) ≡ rate = length-take-le rate cells (omega (arith, below)) in
      ap (λ all. set all rate x) (sym (take-append-drop rate cells))
      ∙ ap (λ rest. set (take rate cells ++ rest) rate x) (drop-cons cells rate x below)
      ∙ set_at (take rate cells) _ (drop (suc rate) cells) x rate front
      ∙ ap (λ k. take rate cells ++ (x ∷ drop k cells)) (sym (add-one rate))

  -- a prefix as long as the rate, followed by the counted cell
  pub counted_over-front : (cells front : List F) (rate n : ℕ) → length front ≡ rate → rate < length cells
      → counted_over r rate (front ++ drop rate cells) (take rate (front ++ drop rate cells)) n
      ≡ counted_over r rate cells front n
  counted_over-front cells front rate n long below =
      let d = r.of 0 in
      let all = front ++ drop rate cells in
      let same : take rate all ≡ front = take_at front (drop rate cells) rate long in
      let x : cell r all rate ≡ cell r cells rate =
      ap (λ rest. get_or (front ++ rest) rate d) (drop-cons cells rate d below)
      ∙ get_or_at front (get_or cells rate d) (drop (suc rate) cells) d rate long in
      let rest : drop (rate + 1) all ≡ drop (rate + 1) cells =
      sym (drop-drop 1 rate all) ∙ ap (drop 1) (drop_at front (drop rate cells) rate long) ∙ drop-drop 1 rate cells in
      λ i. same i ++ (plus r (x i) n ∷ rest i)
