use Rattle.std.proofs.Common.{◌≡◌, ◌<◌, ◌+◌, [], ◌++◌, length, take, sym, ap, ◌∙◌, arith}
use Rattle.p3_sponge.specs.{SpongeCalls.permutation_input, SpongeStepLaws.permutation_input-some}
use Rattle.p3_duplex.{specs.DuplexCalls.duplex, specs.DuplexState.{DuplexState, fed}, proofs.Blocks.fed-absorbed}
use Rattle.p3_duplex.proofs.duplex_challenger.DuplexChallenger.absorb_block.Goals as goal

-- with nothing pending the block alone is absorbed
pub returns-clause-fed : goal.returns-clause-fed
returns-clause-fed g c =
    let r = g.F.PrimeCharacteristicRing.residues in
    let permutation = g.P.CryptographicPermutation.permutation in
    let rate = g.row.RATE in
    let inside = c.self.inside in
    let rule = duplex r (permutation inside.permutation) rate in
    let block = c.args.block.now in
    let pending = take inside.inputs inside.input_buffer in
    let none : pending ≡ [] = ap (λ (s : DuplexState g.row.F.Denot g.row.P.Denot). s.sponge.pending) c.self.view_is
    ∙ c.requires.none in
    let before : DuplexState g.row.F.Denot g.row.P.Denot = record {
      sponge = record { cells = inside.sponge_state; pending = pending; outputs_left = inside.outputs_left };
      permutation = inside.permutation;
      draw_limit = inside.draw_limit;
    } in
    let full : length pending + length block ≡ rate = omega (arith, ap length none, c.requires.whole) in
    let some : 0 < length block = omega (arith, c.requires.whole, c.self.invariant.positive) in
    let cells = c.permute_mut.ensures
    ∙ ap (permutation inside.permutation) (c.overwrite.ensures ∙ permutation_input-some rule inside.sponge_state block some)
    ∙ ap (λ p. permutation inside.permutation (permutation_input rule inside.sponge_state (p ++ block))) (sym none) in
    (λ i. record {
      sponge = record { cells = cells i; pending = none i; outputs_left = rate };
      permutation = inside.permutation;
      draw_limit = inside.draw_limit;
    })
    ∙ sym (fed-absorbed r permutation rate before block some full)
    ∙ ap (λ s. fed r permutation rate s block) c.self.view_is
