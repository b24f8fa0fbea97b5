use Rattle.std.proofs.Common.{◌≡◌, ◌+◌, ◌*◌, ◌%◌, ◌∙◌, ap, ap₂, arith}
use Rattle.p3_field_core.specs.Residues.{sum_of, product_of}
use Rattle.p3_goldilocks.specs.{GoldilocksResidues.{order, residues}, GoldilocksLaws.laws}
use Rattle.p3_poseidon2.proofs.Representatives.{sum-of, product-of}
use Rattle.p3_poseidon2.proofs.unreduced_layers.product_and.Goals as goal

pub returns : goal.returns
returns c =
    let more = c.from.result * c.from-2.result in
    let turned : more + c.args.total ≡ c.args.total + more = omega arith in
    let product : residues.of more ≡ product_of residues (residues.of c.args.own) c.args.entry =
    product-of more c.args.own (residues.number c.args.entry)
    (ap₂ (λ a b. (a * b) % order) c.from.ensures (c.from-2.ensures ∙ c.as_canonical_u64.ensures))
    ∙ ap (product_of residues (residues.of c.args.own)) (laws.of_number c.args.entry) in
    sum-of c.folded.result c.args.total more (c.folded.ensures ∙ ap (λ n. n % order) turned)
    ∙ ap (sum_of residues (residues.of c.args.total)) product
