use Rattle.p3_drivers.specs.Drivers.{verifying_of}
use Rattle.p3_runs.specs.{FollowingLaws.Follows, Verdicts.script_of}
use Rattle.p3_script.specs.{Scripts.{play_of, values_received, challenges_of}, SuiteRules.rules_of}
use Rattle.p3_script_verifier.proofs.verifying.verify.Given as goal

-- the steps so far were played, and what is received and drawn is theirs
abbrev pub invariant-loop-position : goal.invariant-loop-position
invariant-loop-position g l =
    let field = g.S.Field in
    let space = g.S.Extension in
    let challenger = g.S.Challenger in
    let state = challenger.Sponge.state in
    let rules = rules_of g.S.Codec.Codec field.PrimeCharacteristicRing field.Field field.BasedVectorSpace.DIMENSION
    field.AlgebraIdentity field.Named space.BasedVectorSpace space.AlgebraIdentity space.Named g.S.Unit.Unit
    challenger.CanObserve-1 challenger.CanObserve-2 g.S.Suite.is_own g.S.Accept.AcceptRule-1 g.S.Accept.AcceptRule-2
    g.S.Group.StepGroup g.S.Digest.DigestHasher in
    Follows rules (play_of rules) (script_of (state l.fn.challenger) l.separator l.steps) l.narg l.carried l.position
    l.used (verifying_of state l.verifier) (values_received l.received.items) (challenges_of l.challenges.items)
