use Rattle.std.proofs.{Common.{◌≡◌, ◌<◌, [], length, take, sym, ap, ◌∙◌, arith}, lemmas.Bool.Decides.nat_tests}
use Rattle.std.proofs.lemmas.List.{length-take-le}
use Rattle.p3_sponge.specs.SpongeCalls.{permutation_input}
use Rattle.p3_duplex.proofs.Blocks.{fed-pending, fed-absorbed}
use Rattle.p3_duplex.specs.{DuplexCalls.duplex, DuplexState.{DuplexState, fed}}
use Rattle.p3_duplex.proofs.duplex_challenger.DuplexChallenger.push_within.Goals as goal

-- the values fill the rate, so all that is pending is absorbed
pub returns-then-end-clause-fed : goal.returns-then-end-clause-fed
returns-then-end-clause-fed g c =
    let r = g.F.PrimeCharacteristicRing.residues in
    let permutation = g.P.CryptographicPermutation.permutation in
    let rate = g.row.RATE in
    let inside = c.self.inside in
    let before : DuplexState g.row.F.Denot g.row.P.Denot = record {
      sponge = record {
        cells = inside.sponge_state;
        pending = take inside.inputs inside.input_buffer;
        outputs_left = inside.outputs_left;
      };
      permutation = inside.permutation;
      draw_limit = inside.draw_limit;
    } in
    let long : length before.sponge.pending ≡ inside.inputs =
    length-take-le inside.inputs inside.input_buffer (omega (arith, c.self.invariant.short, c.self.told2)) in
    let some : 0 < length c.args.values.now = grind (arith, nat_tests, c.if-is_empty.ensures) in
    let cells = c.absorb.ensures
    ∙ ap (λ p. permutation inside.permutation
    (permutation_input (duplex r (permutation inside.permutation) rate) inside.sponge_state p)) c.write_after.ensures.front in
    (λ i. record {
      sponge = record { cells = cells i; pending = []; outputs_left = rate };
      permutation = inside.permutation;
      draw_limit = inside.draw_limit;
    })
    ∙ sym (fed-absorbed r permutation rate before c.args.values.now some (omega (arith, long, c.if-end.true)))
    ∙ ap (λ s. fed r permutation rate s c.args.values.now) c.self.view_is

-- they do not, and are pending
pub returns-else-end-clause-fed : goal.returns-else-end-clause-fed
returns-else-end-clause-fed g c =
    let r = g.F.PrimeCharacteristicRing.residues in
    let permutation = g.P.CryptographicPermutation.permutation in
    let rate = g.row.RATE in
    let inside = c.self.inside in
    let before : DuplexState g.row.F.Denot g.row.P.Denot = record {
      sponge = record {
        cells = inside.sponge_state;
        pending = take inside.inputs inside.input_buffer;
        outputs_left = inside.outputs_left;
      };
      permutation = inside.permutation;
      draw_limit = inside.draw_limit;
    } in
    let long : length before.sponge.pending ≡ inside.inputs =
    length-take-le inside.inputs inside.input_buffer (omega (arith, c.self.invariant.short, c.self.told2)) in
    let some : 0 < length c.args.values.now = grind (arith, nat_tests, c.if-is_empty.ensures) in
    let fits = ap (λ (s : DuplexState g.row.F.Denot g.row.P.Denot). length s.sponge.pending) c.self.view_is in
    (λ i. record before {
      sponge = record {
        cells = inside.sponge_state;
        pending = c.write_after.ensures.front i;
        outputs_left = 0;
      };
    })
    ∙ sym (fed-pending r permutation rate before c.args.values.now some
    (omega (arith, long, fits, c.requires, c.if-end.false)))
    ∙ ap (λ s. fed r permutation rate s c.args.values.now) c.self.view_is
