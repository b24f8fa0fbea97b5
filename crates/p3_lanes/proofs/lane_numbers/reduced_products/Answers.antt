use Rattle.std.proofs.Common.{rules, ◌≡◌, ◌*◌, ◌/◌, ◌∙◌, ap, ap₂, arith, slice_index}
use Rattle.p3_lanes.proofs.Quotients.{rest_small, rest_congruent}
use Rattle.p3_lanes.proofs.lane_numbers.reduced_products.Goals as goal

pub reduced_once-requires : goal.reduced_once-requires
reduced_once-requires g c = (
  search rules,
  λ l lt.
      let numbers = c.whole_products-products.result in
      let product_is = c.whole_products-products.ensures l lt ∙ ap₂ (λ a b. a * b) (c.widened.ensures l lt) (c.widened-2.ensures l lt) in
      let from : c.from.result ≡ c.args.order = omega arith in
      let quotient_is = c.rounded_quotients-quotients.ensures l lt
      ∙ ap (λ d. slice_index numbers l / 1073741824 * (4611686018427387904 / d) / 4294967296) from in
      rest_small c.args.order (slice_index c.args.x l) (slice_index c.args.y l) (slice_index numbers l)
      (slice_index c.rounded_quotients-quotients.result l) (slice_index c.low_halves.result l)
      (slice_index c.without_multiples-rests.result l) c.requires.small c.requires.short (c.requires.left l lt) (c.requires.right l lt)
      product_is quotient_is (c.low_halves.ensures l lt) (c.without_multiples-rests.ensures l lt),
)

pub returns : goal.returns
returns g c = λ l lt.
    let numbers = c.whole_products-products.result in
    let product_is = c.whole_products-products.ensures l lt ∙ ap₂ (λ a b. a * b) (c.widened.ensures l lt) (c.widened-2.ensures l lt) in
    let from : c.from.result ≡ c.args.order = omega arith in
    let quotient_is = c.rounded_quotients-quotients.ensures l lt
    ∙ ap (λ d. slice_index numbers l / 1073741824 * (4611686018427387904 / d) / 4294967296) from in
    c.reduced_once.ensures l lt ∙ rest_congruent c.args.order (slice_index c.args.x l) (slice_index c.args.y l) (slice_index numbers l)
    (slice_index c.rounded_quotients-quotients.result l) (slice_index c.low_halves.result l)
    (slice_index c.without_multiples-rests.result l) c.requires.small c.requires.short (c.requires.left l lt) (c.requires.right l lt)
    product_is quotient_is (c.low_halves.ensures l lt) (c.without_multiples-rests.ensures l lt)
