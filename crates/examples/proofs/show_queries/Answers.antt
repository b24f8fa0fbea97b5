use Rattle.examples.proofs.Bits.{eight-drawn, four-drawn}
use Rattle.examples.proofs.show_queries.Goals as goal

pub verify-requires-clause-work : goal.verify-requires-clause-work
verify-requires-clause-work c = eight-drawn

pub verify-requires-clause-index : goal.verify-requires-clause-index
verify-requires-clause-index c = four-drawn
