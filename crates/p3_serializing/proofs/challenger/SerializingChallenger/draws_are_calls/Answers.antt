use Rattle.std.{proofs.Common.ap, specs.Option.option_map}
use Rattle.p3_serializing.{specs.SerializingState.element_drawn, proofs.Calls.{ones-drawn, after_ones}}
use Rattle.p3_serializing.proofs.challenger.SerializingChallenger.draws_are_calls.Goals as goal

pub returns-clause-element : goal.returns-clause-element
returns-clause-element g c s =
    let r = g.F.PrimeCharacteristicRing.residues in
    ap (option_map g.A.BasedVectorSpace.element)
    (ones-drawn (element_drawn g.Inner.CanSample.sampling g.row.BYTES r) (r.of 0) g.A.BasedVectorSpace.DIMENSION s)

pub returns-clause-after : goal.returns-clause-after
returns-clause-after g c s =
    let r = g.F.PrimeCharacteristicRing.residues in
    after_ones (element_drawn g.Inner.CanSample.sampling g.row.BYTES r) (r.of 0) g.A.BasedVectorSpace.DIMENSION s
