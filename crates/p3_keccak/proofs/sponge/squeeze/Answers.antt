use Rattle.std.proofs.Common.{rules, ◌≡◌, ◌∙◌, arith, sym}
use Rattle.std.proofs.lemmas.List.{take_all}
use Rattle.std.proofs.lemmas.Slice.{overwrites}
use Rattle.p3_keccak.specs.Keccak.{lane_bytes}
use Rattle.p3_keccak.proofs.Blocks.{digest_more}
use Rattle.p3_keccak.proofs.sponge.squeeze.Goals as goal

pub lanes-init : goal.lanes-init
unfolding lane_bytes
lanes-init c = search rules

pub lanes-preserved : goal.lanes-preserved
lanes-preserved c = (
  search (rules, overwrites),
  digest_more c.lanes.digest c.args.state.now _ c.lanes.i _ c.lanes.invariant.1 (omega arith)
      (c.copy_from_slice.ensures.after ∙ c.to_le_bytes.ensures),
)

pub returns : goal.returns
returns c =
    let done : c.lanes.i ≡ 4 = omega arith in
    sym (take_all 32 c.lanes.digest (omega arith)) ∙ rw done at c.lanes.invariant.1
