use Rattle.p3_script_binding.proofs.Agreeing.{verified-fronts, proved-fronts}
use Rattle.p3_script_binding.proofs.bound.challenges_bind_what_came_before.Goals as goal

pub returns : goal.returns
returns g c = record {
  verified = verified-fronts _ _ _ _ _ _ _ _ _ _ g.S.Challenger.Sponge.state c.binding.ensures.equal_symbols_bind;
  proved = proved-fronts _ _ _ _ _ _ _ _ _ _ g.S.Challenger.Sponge.state c.binding.ensures.equal_symbols_bind;
}
