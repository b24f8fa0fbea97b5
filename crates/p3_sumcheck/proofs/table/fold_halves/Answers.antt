use Rattle.std.proofs.Common.{◌∙◌, ap}
use Rattle.p3_sumcheck.{specs.Tables.total, proofs.Folding.{taken-folded, front-half, back-half}}
use Rattle.p3_sumcheck.proofs.table.fold_halves.Goals as goal

pub returns-clause-folded : goal.returns-clause-folded
returns-clause-folded g c =
    taken-folded g.F.PrimeCharacteristicRing.residues c.args.x c.args.table.now _ _ _ _ _ _ _ _ c.args.half c.requires
    c.split_at_mut-low.ensures.front c.split_at_mut-low.ensures.back c.split_at_mut-low_front.ensures.front
    c.split_at_mut-low_front.ensures.back c.split_at.ensures.front c.split_at.ensures.back
    c.fold_onto-first.ensures.folded c.fold_onto-second.ensures.folded _

pub returns-clause-first : goal.returns-clause-first
returns-clause-first g c =
    let r = g.F.PrimeCharacteristicRing.residues in
    c.fold_onto-first.ensures.sum ∙ ap (total r)
    (front-half r c.args.x c.args.table.now _ _ _ _ _ _ _ _ c.args.half c.requires
    c.split_at_mut-low.ensures.front c.split_at_mut-low.ensures.back c.split_at_mut-low_front.ensures.front
    c.split_at_mut-low_front.ensures.back c.split_at.ensures.front c.split_at.ensures.back
    c.fold_onto-first.ensures.folded c.fold_onto-second.ensures.folded)

pub returns-clause-second : goal.returns-clause-second
returns-clause-second g c =
    let r = g.F.PrimeCharacteristicRing.residues in
    c.fold_onto-second.ensures.sum ∙ ap (total r)
    (back-half r c.args.x c.args.table.now _ _ _ _ _ _ _ _ c.args.half c.requires
    c.split_at_mut-low.ensures.front c.split_at_mut-low.ensures.back c.split_at_mut-low_front.ensures.front
    c.split_at_mut-low_front.ensures.back c.split_at.ensures.front c.split_at.ensures.back
    c.fold_onto-first.ensures.folded c.fold_onto-second.ensures.folded)
