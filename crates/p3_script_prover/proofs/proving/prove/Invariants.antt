use Rattle.p3_drivers.specs.Drivers.{proving_of}
use Rattle.p3_runs.specs.{ProvingLaws.Proves, Verdicts.script_of}
use Rattle.p3_script.specs.{Scripts.{play_of, values_sent, challenges_of}, SuiteRules.rules_of}
use Rattle.p3_script_prover.proofs.proving.prove.Given as goal

-- the steps so far were played
abbrev pub invariant-loop-i : goal.invariant-loop-i
invariant-loop-i g l =
    let field = g.S.Field in
    let space = g.S.Extension in
    let challenger = g.S.Challenger in
    let state = challenger.Sponge.state in
    let rules = rules_of g.S.Codec.Codec field.PrimeCharacteristicRing field.Field field.BasedVectorSpace.DIMENSION
    field.AlgebraIdentity field.Named space.BasedVectorSpace space.AlgebraIdentity space.Named g.S.Unit.Unit
    challenger.CanObserve-1 challenger.CanObserve-2 g.S.Suite.is_own g.S.Accept.AcceptRule-1 g.S.Accept.AcceptRule-2
    g.S.Group.StepGroup g.S.Digest.DigestHasher in
    Proves rules (play_of rules) (script_of (state l.fn.challenger) l.separator l.steps) (values_sent l.sent) l.i l.next
    (proving_of state l.prover) l.made.witnesses.items l.made.carried.items (challenges_of l.made.challenges.items)
