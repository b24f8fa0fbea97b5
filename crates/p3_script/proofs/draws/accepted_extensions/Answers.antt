use Rattle.p3_script.proofs.draws.accepted_extensions.Goals as goal

pub returns : goal.returns
returns g c = (
  c.challenge_extensions_rejecting.ensures.played (g.A.AcceptRule.rule c.args.accept.now) (λ x kept r post. post),
  c.challenge_extensions_rejecting.ensures.bytes,
)
