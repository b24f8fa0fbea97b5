use Rattle.std.proofs.Common.{◌∙◌, ap, lit<}
use Rattle.p3_field.specs.{BabyBearResidues.residues, Residues.{plus, sum_of}, SmallPrimeLaws.laws}
use Rattle.p3_field.specs.SmallPrimesInLanes.{element_in}
use Rattle.uses.proofs.Powers.{seventh-power}
use Rattle.uses.proofs.own_permutation.stirred_lanes.Goals as goal

pub returns : goal.returns
returns c l lt =
    let added = ap (sum_of residues (element_in (lit< tt) l c.args.cells.numbers)) (c.broadcast.ensures l lt ∙ c.from_u64.ensures) in
    seventh-power residues (laws 2013265921 (lit< tt)) (plus residues (element_in (lit< tt) l c.args.cells.numbers) c.args.constant)
    _ _ _ _ _ (c.add-once.ensures l lt ∙ added) (c.mul-twice.ensures l lt) (c.mul-thrice.ensures l lt) (c.mul.ensures l lt)
    (c.mul-2.ensures l lt)
