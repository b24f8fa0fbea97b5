use Rattle.std.proofs.Common.{ap, ◌∙◌}
use Rattle.p3_field.specs.Residues.{difference_of}
use Rattle.tests_fields.proofs.tests.added_and_taken.Goals as goal

-- what is taken away is what was added, by the ring's laws
pub returns : goal.returns
returns g c =
    let laws = g.met.R.PrimeCharacteristicRing in
    let r = g.R.PrimeCharacteristicRing.residues in
    laws.sub_law c.add.result c.args.y c.sub.result c.sub.ensures
    ∙ ap (λ sum. difference_of r sum c.args.y) (laws.add_law c.args.x c.args.y c.add.result c.add.ensures)
    ∙ c.residues_are_a_ring.ensures.added_and_taken c.args.x c.args.y
