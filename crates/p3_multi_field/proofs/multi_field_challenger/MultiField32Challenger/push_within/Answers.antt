use Rattle.std.proofs.Common.{rules, ◌≡◌, ◌<◌, ◌≤◌, ◌+◌, [], length, take, sym, ap, ◌∙◌, arith}
use Rattle.std.proofs.lemmas.{Bool.Decides.nat_tests, List.length-take-le}
use Rattle.p3_sponge.specs.SpongeCalls.{permutation_input}
use Rattle.p3_multi_field.specs.MultiFieldState.{MultiFieldState, scalars_observed}
use Rattle.p3_multi_field.proofs.Batches.{observed-pending, observed-absorbed}
use Rattle.p3_multi_field.{specs.MultiFieldCalls.{batch_of, row_of, scalars_rule}, proofs.Pairs.pair_over}
use Rattle.p3_multi_field.proofs.multi_field_challenger.MultiField32Challenger.push_within.Goals as goal

-- the scalars fill the rate, so all that is pending is absorbed
pub returns-then-end-batch_len-clause-fed : goal.returns-then-end-batch_len-clause-fed
returns-then-end-batch_len-clause-fed g c =
    let pair = pair_over g.F.PrimeCharacteristicRing.residues g.PF.PrimeCharacteristicRing.residues g.PF.FieldBridge in
    let permutation = g.P.CryptographicPermutation.permutation in
    let rate = g.row.RATE in
    let inside = c.self.inside in
    let values = c.args.values.now in
    let n = length values in
    let pending = take inside.scalars inside.pending in
    let before : MultiFieldState g.row.F.Denot g.row.PF.Denot g.row.P.Denot = record {
      sponge = record { cells = inside.sponge_state; pending = pending; outputs_left = inside.outputs_left };
      permutation = inside.permutation;
    } in
    let within : inside.scalars ≤ length inside.pending = search rules in
    let long : length pending ≡ inside.scalars = length-take-le inside.scalars inside.pending within in
    let now_pending = c.write_after.ensures.front in
    let some : 0 < n = grind (arith, nat_tests, c.if-is_empty.ensures) in
    let full : length pending + n ≡ batch_of pair rate =
    omega (arith, long, c.if-end-batch_len.true, c.batch_len-batch_len.ensures) in
    let rule = scalars_rule pair (permutation inside.permutation) rate in
    let cells = c.absorb.ensures
    ∙ ap (λ p. permutation inside.permutation (permutation_input rule inside.sponge_state p)) now_pending in
    let row : c.row_len-row_len.result ≡ row_of pair rate = c.row_len-row_len.ensures in
    (λ i. record {
      sponge = record { cells = cells i; pending = []; outputs_left = row i };
      permutation = inside.permutation;
    })
    ∙ sym (observed-absorbed pair permutation rate before values some full)
    ∙ ap (λ s. scalars_observed pair permutation rate s values) c.self.view_is

-- they do not, and are pending
pub returns-else-end-batch_len-clause-fed : goal.returns-else-end-batch_len-clause-fed
returns-else-end-batch_len-clause-fed g c =
    let pair = pair_over g.F.PrimeCharacteristicRing.residues g.PF.PrimeCharacteristicRing.residues g.PF.FieldBridge in
    let permutation = g.P.CryptographicPermutation.permutation in
    let rate = g.row.RATE in
    let inside = c.self.inside in
    let values = c.args.values.now in
    let n = length values in
    let pending = take inside.scalars inside.pending in
    let before : MultiFieldState g.row.F.Denot g.row.PF.Denot g.row.P.Denot = record {
      sponge = record { cells = inside.sponge_state; pending = pending; outputs_left = inside.outputs_left };
      permutation = inside.permutation;
    } in
    let within : inside.scalars ≤ length inside.pending = search rules in
    let long : length pending ≡ inside.scalars = length-take-le inside.scalars inside.pending within in
    let now_pending = c.write_after.ensures.front in
    let some : 0 < n = grind (arith, nat_tests, c.if-is_empty.ensures) in
    let fits : length pending + n ≤ batch_of pair rate =
    omega (
      arith,
      ap (λ (s : MultiFieldState g.row.F.Denot g.row.PF.Denot g.row.P.Denot). length s.sponge.pending) c.self.view_is,
      c.requires,
    ) in
    let short : length pending + n < batch_of pair rate =
    omega (arith, long, fits, c.if-end-batch_len.false, c.batch_len-batch_len.ensures) in
    (λ i. record {
      sponge = record { cells = inside.sponge_state; pending = now_pending i; outputs_left = 0 };
      permutation = inside.permutation;
    })
    ∙ sym (observed-pending pair permutation rate before values some short)
    ∙ ap (λ s. scalars_observed pair permutation rate s values) c.self.view_is
