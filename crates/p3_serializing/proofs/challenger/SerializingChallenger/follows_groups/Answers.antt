use Rattle.p3_serializing.proofs.ReadingGroups.{calls-read}
use Rattle.p3_serializing.proofs.challenger.SerializingChallenger.follows_groups.Goals as goal

pub returns : goal.returns
returns g c =
    let observes = g.Inner.CanObserve in
    let r = g.F.PrimeCharacteristicRing.residues in
    λ gives. calls-read observes.observation observes.slice_may_leave g.Inner.CanSample.sampling gives r g.row.BYTES
    (r.of 0)
