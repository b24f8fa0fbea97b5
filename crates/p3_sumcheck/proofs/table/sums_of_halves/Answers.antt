use Rattle.std.proofs.Common.{ap, ◌∙◌}
use Rattle.p3_sumcheck.{specs.Tables.total, proofs.TableSums.total-parts}
use Rattle.p3_sumcheck.proofs.table.sums_of_halves.Goals as goal

pub returns-clause-second : goal.returns-clause-second
returns-clause-second g c =
    let r = g.F.PrimeCharacteristicRing.residues in
    let laws = g.met.F.PrimeCharacteristicRing in
    total-parts r laws.are_residues _ _ _ _ _ _ _ c.split_at-2.ensures.front c.split_at-2.ensures.back
    c.sums_of_two-first.ensures.second c.sum.ensures (laws.add_law _ _ _ c.add.ensures)
    ∙ ap (total r) c.split_at.ensures.back
