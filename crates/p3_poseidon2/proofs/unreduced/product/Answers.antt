use Rattle.std.proofs.Common.{◌*◌, ◌%◌, ◌∙◌, ap₂}
use Rattle.p3_goldilocks.specs.GoldilocksResidues.{order}
use Rattle.p3_poseidon2.proofs.Representatives.{product-of}
use Rattle.p3_poseidon2.proofs.unreduced.product.Goals as goal

pub returns : goal.returns
returns c =
    product-of c.folded.result c.args.x c.args.y
    (c.folded.ensures ∙ ap₂ (λ a b. (a * b) % order) c.from.ensures c.from-2.ensures)
