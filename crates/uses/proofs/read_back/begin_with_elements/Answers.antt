use Rattle.p3_challenger.specs.SumLaws.{element-decides}
use Rattle.uses.proofs.read_back.begin_with_elements.Goals as goal

pub returns-clause-or_collides : goal.returns-clause-or_collides
returns-clause-or_collides g c =
    c.new.ensures.or_collides (element-decides g.F.PrimeCharacteristicRing.residues
    g.met.F.PrimeCharacteristicRing.are_residues)
