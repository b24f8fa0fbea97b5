use Rattle.std.proofs.Common.{rules}
use Rattle.p3_challenger_core.specs.Observation.{in_slice}
use Rattle.p3_grinding.specs.CheckLaws.{byte_check-limit}
use Rattle.p3_grinding.proofs.byte_grinding_challenger.find_witness_plainly.Goals as goal

pub loop-candidate-preserved : goal.loop-candidate-preserved
loop-candidate-preserved g c =
    let observation = in_slice g.C.CanObserve.observation g.C.CanObserve.slice_may_leave in
    let limit = byte_check-limit g.C.Sponge.next observation g.C.CanSample.sampling g.met.C.CanSample.samples
    g.row.S (g.K.ByteCandidates.encoded c.args.candidates.now) (g.K.ByteCandidates.accepted c.args.candidates.now) in
    search (rules, limit)
