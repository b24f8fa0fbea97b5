use Rattle.std.proofs.Common.{◌∙◌}
use Rattle.tests_fields.proofs.extensions.product.Goals as goal

-- products are commutative
pub returns : goal.returns
returns g c = c.mul.ensures ∙ c.extensions_are_rings.ensures.ring.product_commutes c.args.x c.args.y
