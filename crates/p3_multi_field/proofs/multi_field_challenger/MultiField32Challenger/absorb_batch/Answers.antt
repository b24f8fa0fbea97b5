use Rattle.std.proofs.Common.{rules, ◌≡◌, ◌<◌, ◌≤◌, ◌+◌, [], ◌++◌, length, take, sym, ap, ◌∙◌, arith}
use Rattle.std.proofs.lemmas.List.{length-take-le}
use Rattle.p3_sponge.specs.{SpongeCalls.permutation_input, SpongeStepLaws.permutation_input-some}
use Rattle.p3_multi_field.proofs.Numbers.{some_product, keeps_all}
use Rattle.p3_multi_field.{specs.MultiFieldCalls.{batch_of, row_of, scalars_rule}, proofs.Pairs.pair_over}
use Rattle.p3_multi_field.{specs.MultiFieldState.{MultiFieldState, scalars_observed}, proofs.Batches.observed-absorbed}
use Rattle.p3_multi_field.proofs.multi_field_challenger.MultiField32Challenger.absorb_batch.Goals as goal

pub invariant_of-self : goal.invariant_of-self
invariant_of-self g c =
    let inside = c.self.inside in
    let pending = take inside.scalars inside.pending in
    let within : inside.scalars ≤ length inside.pending = search rules in
    let long : length pending ≡ inside.scalars = length-take-le inside.scalars inside.pending within in
    let none : pending ≡ [] =
    ap (λ (s : MultiFieldState g.row.F.Denot g.row.PF.Denot g.row.P.Denot). s.sponge.pending) c.self.view_is
    ∙ c.requires.none in
    let no_length : length pending ≡ 0 = ap length none in
    keeps_all _ _ _ _ _ _ _ _ c.self.invariant c.row_len-row_len.result (omega (arith, long, no_length))
    c.row_len-row_len.ensures

-- with nothing pending the batch alone is absorbed
pub returns-clause-fed : goal.returns-clause-fed
returns-clause-fed g c =
    let bridge = g.PF.FieldBridge in
    let pair = pair_over g.F.PrimeCharacteristicRing.residues g.PF.PrimeCharacteristicRing.residues bridge in
    let permutation = g.P.CryptographicPermutation.permutation in
    let rate = g.row.RATE in
    let inside = c.self.inside in
    let rule = scalars_rule pair (permutation inside.permutation) rate in
    let batch = c.args.batch.now in
    let pending = take inside.scalars inside.pending in
    let none : pending ≡ [] =
    ap (λ (s : MultiFieldState g.row.F.Denot g.row.PF.Denot g.row.P.Denot). s.sponge.pending) c.self.view_is
    ∙ c.requires.none in
    let before : MultiFieldState g.row.F.Denot g.row.PF.Denot g.row.P.Denot = record {
      sponge = record { cells = inside.sponge_state; pending = pending; outputs_left = inside.outputs_left };
      permutation = inside.permutation;
    } in
    let full : length pending + length batch ≡ batch_of pair rate = omega (arith, ap length none, c.requires.whole) in
    let product = some_product bridge.ABSORB_COUNT rate c.self.invariant.some_packed c.self.invariant.positive in
    let some : 0 < length batch = omega (arith, c.requires.whole, product) in
    let cells = c.permute_mut.ensures
    ∙ ap (permutation inside.permutation)
    (c.pack_over.ensures ∙ permutation_input-some rule inside.sponge_state batch some)
    ∙ ap (λ p. permutation inside.permutation (permutation_input rule inside.sponge_state (p ++ batch))) (sym none) in
    let row : c.row_len-row_len.result ≡ row_of pair rate = c.row_len-row_len.ensures in
    (λ i. record {
      sponge = record { cells = cells i; pending = none i; outputs_left = row i };
      permutation = inside.permutation;
    })
    ∙ sym (observed-absorbed pair permutation rate before batch some full)
    ∙ ap (λ s. scalars_observed pair permutation rate s batch) c.self.view_is
