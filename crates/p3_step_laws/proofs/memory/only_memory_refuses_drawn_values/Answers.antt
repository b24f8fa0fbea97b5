use Rattle.p3_step_laws.proofs.{LimitLaws.{drawing_list-tells, rejecting-tells}, OnlyMemory.only_memory}
use Rattle.p3_step_laws.proofs.memory.only_memory_refuses_drawn_values.Goals as goal

pub returns-clause-list : goal.returns-clause-list
returns-clause-list g c = λ step n. only_memory _ (drawing_list-tells g.met.Cdc.Codec.is_codec.samples n)

pub returns-clause-rejecting : goal.returns-clause-rejecting
returns-clause-rejecting g c = λ step rule limit n.
    only_memory _ (rejecting-tells g.met.Cdc.Codec.is_codec.samples rule limit n)
