use Rattle.p3_sumcheck.proofs.pattern.declared_rounds_are_next.Goals as goal

pub returns : goal.returns
returns g c n before after playing has at going =
    c.listed_steps_are_next.ensures.listed before _ after playing has at going
