use Rattle.std.proofs.{Common.{◌+◌, ◌%◌, ◌∙◌, take, sum_by, sym, ap}, Math.Nat.mod-add-mod}
use Rattle.std.proofs.lemmas.List.Sums.{sum_by_more}
use Rattle.tests_fields.proofs.tests.total.Goals as goal

-- the next value is added to the sum of those before
pub loop-value-preserved : goal.loop-value-preserved
loop-value-preserved g c =
    let ring = g.met.F.PrimeCharacteristicRing in
    let r = g.F.PrimeCharacteristicRing.residues in
    let item = c.value-item.result in
    let so_far = sum_by r.number (take c.loop-value.value-index c.args.values.now) in
    let more = sum_by_more r.number c.args.values.now c.loop-value.value-index item c.loop-value-test.true in
    ap r.number (ring.add_law _ _ _ c.add-total.ensures)
    ∙ ring.are_residues.number_of _
    ∙ ap (λ n. (n + r.number item) % r.order) c.loop-value.invariant
    ∙ mod-add-mod so_far r.order (r.number item)
    ∙ ap (λ n. n % r.order) (ap (λ x. so_far + r.number x) c.value-item.is ∙ sym more)
