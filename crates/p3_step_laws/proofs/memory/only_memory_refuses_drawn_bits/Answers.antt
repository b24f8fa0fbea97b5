use Rattle.p3_step_laws.proofs.{LimitLaws.drawing_list-tells, OnlyMemory.only_memory}
use Rattle.p3_step_laws.proofs.memory.only_memory_refuses_drawn_bits.Goals as goal

pub returns : goal.returns
returns g c = λ step width n. only_memory _ (drawing_list-tells (g.met.C.CanSampleBits.samples_bits width) n)
