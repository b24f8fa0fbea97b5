use Rattle.std.proofs.{Common.{rules, ◌≡◌, ◌<◌, ◌≤◌, length, take, ap, ◌∙◌, arith}, lemmas.List.length-take-le}
use Rattle.p3_multi_field.{specs.MultiFieldState.MultiFieldState, proofs.Pairs.pair_over}
use Rattle.p3_multi_field.proofs.WordBlocks.{absorbed-some}
use Rattle.p3_multi_field.proofs.multi_field_challenger.MultiField32Challenger.empty.Goals as goal

-- something is pending, and it is absorbed
pub returns-else-self-eq0-clause-absorbed : goal.returns-else-self-eq0-clause-absorbed
returns-else-self-eq0-clause-absorbed g c =
    let pair = pair_over g.F.PrimeCharacteristicRing.residues g.PF.PrimeCharacteristicRing.residues g.PF.FieldBridge in
    let before = c.args.self.now in
    let inside = c.self.inside in
    let within : inside.scalars ≤ length inside.pending = search rules in
    let long : length (take inside.scalars inside.pending) ≡ inside.scalars =
    length-take-le inside.scalars inside.pending within in
    let same : length (take inside.scalars inside.pending) ≡ length before.sponge.pending =
    ap (λ (s : MultiFieldState g.row.F.Denot g.row.PF.Denot g.row.P.Denot). length s.sponge.pending) c.self.view_is in
    let some : 0 < length before.sponge.pending = omega (arith, long, same, c.if-self-eq0.false) in
    c.duplex.ensures
    ∙ ap (λ s. record before { sponge = s })
    (absorbed-some pair (g.P.CryptographicPermutation.permutation before.permutation) g.row.RATE before.sponge.cells
    before.sponge.pending some)
