use Rattle.std.proofs.Common.{lit<, ◌∙◌, sym}
use Rattle.uses.{specs.TwoRounds.two_rounds, proofs.TwoRounds.rounds-observe}
use Rattle.uses.proofs.read_back.begin_with_zeros.Goals as goal

pub returns-clause-tells : goal.returns-clause-tells
returns-clause-tells g c = c.new.ensures.reads_back (lit< tt)

pub returns-clause-or_collides : goal.returns-clause-or_collides
returns-clause-or_collides g c = c.new.ensures.or_collides (lit< tt)

pub returns-clause-rounds : goal.returns-clause-rounds
returns-clause-rounds g c one other third fourth queries pending =
    sym (rounds-observe one other)
    ∙ c.new.ensures.reads_back (lit< tt) (two_rounds one other) (two_rounds third fourth) queries pending
    ∙ rounds-observe third fourth
