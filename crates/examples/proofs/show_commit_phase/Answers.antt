use Rattle.examples.proofs.Bits.{eight-drawn, four-drawn}
use Rattle.examples.proofs.show_commit_phase.Goals as goal

pub prove-requires-clause-work : goal.prove-requires-clause-work
prove-requires-clause-work c = eight-drawn

pub prove-requires-clause-index : goal.prove-requires-clause-index
prove-requires-clause-index c = four-drawn
