use Rattle.std.proofs.Common.{subst, take}
use Rattle.p3_sponge.specs.{SpongePlaceLaws.draws-places, SpongeStepLaws.Fits}
use Rattle.p3_duplex.{specs.DuplexCalls.duplex, specs.DuplexState.DuplexState, proofs.Keeping.kept-fits}
use Rattle.p3_duplex.proofs.duplex_challenger.DuplexChallenger.draws_have_places.Goals as goal

pub returns : goal.returns
returns g c =
    let r = g.F.PrimeCharacteristicRing.residues in
    let rate = g.row.RATE in
    let inside = c.self.inside in
    let keeps = c.self.invariant in
    let state = c.args.self.now in
    let permute = g.P.CryptographicPermutation.permutation state.permutation in
    let fits : Fits (duplex r permute rate) state.sponge =
    subst (λ (d : DuplexState g.row.F.Denot g.row.P.Denot). Fits (duplex r permute rate) d.sponge) c.self.view_is
    (kept-fits r permute g.row.WIDTH rate inside.inputs inside.outputs_left inside.draw_limit inside.sponge_state
    inside.input_buffer c.self.told2 keeps) in
    draws-places (duplex r permute rate) keeps.positive keeps.positive (take rate) state.sponge fits
