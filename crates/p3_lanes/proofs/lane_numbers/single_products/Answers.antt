use Rattle.std.proofs.{Common.{◌*◌, ◌%◌, ◌<◌, ◌∙◌, length, slice_index, inl, inr, sym, ap, arith}, lemmas.Bool.cases_eq}
use Rattle.std.proofs.lemmas.{List.{length-set, get_or-set_other}, Grind.get_or-set_at}
use Rattle.p3_lanes.proofs.lane_numbers.single_products.Goals as goal

pub product-requires : goal.product-requires
product-requires g c = omega (arith, c.requires.left c.lanes.l (omega (arith, c.lanes-test.true)))

pub lanes-preserved : goal.lanes-preserved
lanes-preserved g c =
    let at = c.lanes.l in
    let so_far = c.lanes.products in
    let long = c.lanes.invariant.0 in
    let there : at < length so_far = omega (arith, c.lanes-test.true, long) in (
      length-set so_far at c.product.result ∙ long,
      λ i lt. elim (cases_eq i at) [
        | inl here ↦ get_or-set_at so_far at i c.product.result 0 here there ∙ c.product.ensures
            ∙ ap (λ j. slice_index c.args.x j * slice_index c.args.y j % c.args.order) (sym here)
        | inr other ↦ get_or-set_other so_far at i c.product.result 0 other
            ∙ c.lanes.invariant.1 i (omega (arith, lt, other))
      ],
    )
