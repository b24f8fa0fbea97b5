use Rattle.std.proofs.Common.{◌≡◌, ap, arith, refl, sym, ◌∙◌}
use Rattle.p3_keccak.specs.Keccak.{add_lanes, keccak_f, absorb}
use Rattle.p3_keccak.proofs.Blocks.{add_lanes_next}
use Rattle.p3_keccak.proofs.sponge.absorb.Goals as goal

pub lanes-init : goal.lanes-init
unfolding add_lanes
lanes-init c = refl

pub lanes-preserved : goal.lanes-preserved
lanes-preserved c =
    let before : c.lanes.a ≡ add_lanes c.args.state.now c.args.block.now c.lanes.i = c.lanes.invariant in
    rw (c.lane_at.ensures, before) (sym (add_lanes_next c.args.state.now c.args.block.now c.lanes.i))

pub returns : goal.returns
unfolding absorb
returns c =
    let done : c.lanes.i ≡ 17 = omega arith in
    c.keccak_f.ensures ∙ ap keccak_f (rw done at c.lanes.invariant)
