use Rattle.p3_driver_core.specs.WorkingLaws.{work-feeds}
use Rattle.p3_driver_core.proofs.feeding.work_feeds_its_witness.Goals as goal

pub returns-clause-feeds : goal.returns-clause-feeds
returns-clause-feeds g c = λ step bits x. work-feeds g.C.Sponge.next g.C.Sponge.fed
    g.C.Sponge.fed_nothing g.C.Sponge.fed_more g.C.BeforeWitness.before_witness g.met.C.BeforeWitness.prepares
    g.C.CanObserve.observation g.met.C.CanObserve.observes g.C.CanSampleBits.bits_sampling
    g.met.C.CanSampleBits.samples_bits step g.C.Witness.PrimeCharacteristicRing.residues bits x
