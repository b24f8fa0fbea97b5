use Rattle.p3_serializing.proofs.Limits.{field_element-limit, bits-drawn_always, bits-unlimited}
use Rattle.p3_serializing.proofs.challenger.SerializingChallenger.limits_are_met_exactly.Goals as goal

pub returns-clause-element : goal.returns-clause-element
returns-clause-element g c =
    λ gives. field_element-limit g.Inner.Sponge.next g.Inner.CanSample.sampling g.met.Inner.CanSample.samples gives
    g.row.BYTES g.F.PrimeCharacteristicRing.residues (g.F.PrimeCharacteristicRing.residues.of 0)

pub returns-clause-bits : goal.returns-clause-bits
returns-clause-bits g c =
    λ gives bits s. (
      bits-drawn_always g.Inner.Sponge.next g.Inner.CanSample.sampling g.met.Inner.CanSample.samples gives g.row.BYTES
          bits s,
      bits-unlimited g.Inner.Sponge.next g.Inner.CanSample.sampling g.met.Inner.CanSample.samples gives g.row.BYTES bits
          s,
    )

pub returns-clause-uniform : goal.returns-clause-uniform
returns-clause-uniform g c = λ gives resample. returns-clause-bits g c gives
