use Rattle.std.proofs.lemmas.Result.{MatchResult-weaker}
use Rattle.p3_serializing.specs.{SerializingState.state_of, SerializingGrindingLaws.refused-search}
use Rattle.p3_serializing.proofs.challenger.grinding.SerializingChallengerGrindingChallenger.grind.Goals as goal

pub returns-clause-found : goal.returns-clause-found
returns-clause-found g c =
    let observes = g.Inner.CanObserve in
    let state = state_of g.Inner.Sponge.state in
    MatchResult-weaker c.least_witness_by_own_search.result c.least_witness_by_own_search.ensures.found (λ _ h. h)
    (λ e. refused-search observes.observation observes.slice_may_leave g.Inner.CanSample.sampling
    g.F.PrimeCharacteristicRing.residues g.row.BYTES g.Inner.CanCopy.copies_may_fail c.args.bits e
    (state c.args.self.now) (state c.least_witness_by_own_search.new.challenger))
