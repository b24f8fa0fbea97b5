use Rattle.std.proofs.Common.{◌≡◌, ◌<◌, ◌∙◌, length, slice_index_or, slice_set, inl, inr, sym, ap, arith}
use Rattle.std.proofs.lemmas.{Bool.cases_eq, Grind.get_or-set_at}
use Rattle.std.proofs.lemmas.List.{length-set, get_or-set_other, get_or_default, ext_get_or}
use Rattle.p3_multi_field.specs.PreparedChecks.{PreparedChecks}
use Rattle.p3_multi_field.proofs.multi_field_challenger.pow_check.PowCheck.cells_with.Goals.{then-i-self, else-i-self}
use Rattle.p3_multi_field.proofs.multi_field_challenger.pow_check.PowCheck.cells_with.Goals as goal

-- one more cell is chosen
pub cells-preserved : goal.cells-preserved
cells-preserved g c =
    let zero = g.PF.PrimeCharacteristicRing.residues.of 0 in
    let so_far = c.cells.cells in
    let cells = c.args.self.now.cells in
    let place = c.args.self.now.place in
    let value = c.args.value in
    let i = c.cells.i in
    let put = c.if-i-self.cells in
    let long = c.cells.invariant.0 in
    let whole = c.cells.invariant.2 in
    let there : i < length so_far = omega (arith, c.cells-test.true, long) in
    let inside : i < length cells = omega (arith, c.cells-test.true, whole) in
    let at : c.self.inside.place ≡ place =
    ap (λ (s : PreparedChecks g.row.F.Denot g.row.PF.Denot g.row.P.Denot). s.place) c.self.view_is in
    let same_cells : c.self.inside.cells ≡ cells =
    ap (λ (s : PreparedChecks g.row.F.Denot g.row.PF.Denot g.row.P.Denot). s.cells) c.self.view_is in
    let chosen : put ≡ slice_index_or (slice_set cells place value) i zero = elim c.if-i-self.branch [
      | then-i-self w ↦
          let same : i ≡ place = omega (arith, w.if-i-self.true, at) in
          w.cells-is ∙ sym (get_or-set_at cells place i value zero same (omega (arith, same, inside)))
      | else-i-self w ↦
          w.cells-is ∙ get_or_default c.self.inside.cells i w.index-self-i.result zero (omega (arith, inside, ap length same_cells))
          ∙ ap (λ xs. slice_index_or xs i zero) same_cells
          ∙ sym (get_or-set_other cells place i value zero (λ e. omega (arith, e, w.if-i-self.false, at)))
    ] in (
      length-set so_far i put ∙ long,
      λ j before. elim (cases_eq j i) [
        | inl here ↦ get_or-set_at so_far i j put zero here there ∙ chosen
            ∙ ap (λ k. slice_index_or (slice_set cells place value) k zero) (sym here)
        | inr other ↦ get_or-set_other so_far i j put zero other ∙ c.cells.invariant.1 j (omega (arith, before, other))
      ],
      whole,
    )

-- all are
pub returns : goal.returns
returns g c =
    let zero = g.PF.PrimeCharacteristicRing.residues.of 0 in
    let cells = c.args.self.now.cells in
    let wanted = slice_set cells c.args.self.now.place c.args.value in
    ext_get_or zero c.cells.cells wanted
    (c.cells.invariant.0 ∙ sym (length-set cells c.args.self.now.place c.args.value ∙ c.cells.invariant.2))
    (λ j lt. c.cells.invariant.1 j (omega (arith, lt, c.cells-test.false, c.cells.invariant.0)))
