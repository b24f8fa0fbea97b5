use Rattle.std.proofs.Common.{◌∙◌, ap}
use Rattle.p3_field_core.specs.Residues.{sum_of}
use Rattle.p3_goldilocks.specs.{GoldilocksResidues.residues, GoldilocksLaws.laws}
use Rattle.p3_poseidon2.proofs.Representatives.{sum-of}
use Rattle.p3_poseidon2.proofs.unreduced.plus.Goals as goal

pub returns : goal.returns
returns c =
    sum-of c.with_carry.result c.args.x c.as_canonical_u64.result c.with_carry.ensures
    ∙ ap (λ n. sum_of residues (residues.of c.args.x) (residues.of n)) c.as_canonical_u64.ensures
    ∙ ap (sum_of residues (residues.of c.args.x)) (laws.of_number c.args.constant)
