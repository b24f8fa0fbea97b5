use Rattle.std.proofs.Common.{refl, subst}
use Rattle.p3_challenger_core.specs.Sampling.{DrawsOrRefuses}
use Rattle.p3_serializing.specs.{SerializingState.{state_of, element_drawn, element_of_groups}, SerializingStateLaws.drawn-under_limit}
use Rattle.p3_serializing.proofs.challenger.SerializingChallenger.draw.Goals as goal

pub returns : goal.returns
returns g c =
    let r = g.F.PrimeCharacteristicRing.residues in
    let sampling = g.Inner.CanSample.sampling in
    let state = state_of g.Inner.Sponge.state in
    let inside = c.self.inside in
    let there = state (record { inner = c.draw_element.new.inner; draw_limit = inside.draw_limit }) in
    subst (λ v. DrawsOrRefuses (element_drawn sampling g.row.BYTES r) (state v) c.draw_element.result there) c.self.view_is
    (drawn-under_limit (element_of_groups sampling g.row.BYTES r) c.draw_element.result
    (state (record { inner = inside.inner; draw_limit = inside.draw_limit })) there refl c.draw_element.ensures)
