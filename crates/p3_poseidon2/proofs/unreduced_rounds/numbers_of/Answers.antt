use Rattle.std.proofs.Common.{◌<◌, ◌∙◌, ◌+◌, length, refl, ap, arith}
use Rattle.std.proofs.lemmas.{Grind.common_steps, List.get_or_default}
use Rattle.p3_goldilocks.specs.{GoldilocksResidues.residues, GoldilocksLaws.laws}
use Rattle.p3_poseidon2.proofs.Filling.{copied-none, copied-more, copied-all}
use Rattle.p3_poseidon2.proofs.unreduced_rounds.numbers_of.Goals as goal

pub loop-i-init : goal.loop-i-init
loop-i-init g c = copied-none _ _ _ (grind (arith, common_steps))

pub loop-i-preserved : goal.loop-i-preserved
loop-i-preserved g c =
    let inside : c.loop-i.i < length c.args.elements.now = omega arith in
    copied-more (residues.of 0) c.args.elements.now c.loop-i.i (c.loop-i.i + 1) _ _
    (residues.of c.as_canonical_u64-number.result) refl inside c.put_number.ensures
    (ap residues.of c.as_canonical_u64-number.ensures ∙ laws.of_number _ ∙ get_or_default c.args.elements.now c.loop-i.i _ _ inside)
    c.loop-i.invariant

pub returns : goal.returns
returns g c = copied-all _ _ _ c.loop-i.i (omega arith) c.loop-i.invariant
