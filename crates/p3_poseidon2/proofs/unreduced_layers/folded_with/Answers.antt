use Rattle.std.proofs.Common.{◌∙◌, ap}
use Rattle.p3_field_core.specs.Residues.{sum_of}
use Rattle.p3_goldilocks.specs.{GoldilocksResidues.residues, GoldilocksLaws.laws}
use Rattle.p3_poseidon2.proofs.Representatives.{sum-of}
use Rattle.p3_poseidon2.proofs.unreduced_layers.folded_with.Goals as goal

pub returns : goal.returns
returns c =
    sum-of c.folded_sum.result c.args.sum c.from.result c.folded_sum.ensures
    ∙ ap (λ n. sum_of residues (residues.of c.args.sum) (residues.of n)) (c.from.ensures ∙ c.as_canonical_u64.ensures)
    ∙ ap (sum_of residues (residues.of c.args.sum)) (laws.of_number c.args.constant)
