use Rattle.std.proofs.Common.{◌≤◌, drop, length, map}
use Rattle.p3_runs.specs.Provings.{AreHanded}
use Rattle.p3_script.specs.{Scripts.{play_of, value_sent}, SuiteRules.rules_of}
use Rattle.p3_script_checks.proofs.matching.sent_matches.Given as goal

-- what is so of the steps and the values that are left is so of all
abbrev pub invariant-loop-step : goal.invariant-loop-step
invariant-loop-step g l =
    let field = g.S.Field in
    let space = g.S.Extension in
    let challenger = g.S.Challenger in
    let rules = rules_of g.S.Codec.Codec field.PrimeCharacteristicRing field.Field field.BasedVectorSpace.DIMENSION
    field.AlgebraIdentity field.Named space.BasedVectorSpace space.AlgebraIdentity space.Named g.S.Unit.Unit
    challenger.CanObserve-1 challenger.CanObserve-2 g.S.Suite.is_own g.S.Accept.AcceptRule-1 g.S.Accept.AcceptRule-2
    g.S.Group.StepGroup g.S.Digest.DigestHasher in
    record {
      within : l.at ≤ length l.sent;
      back : AreHanded (play_of rules) (drop l.step-index l.steps) (map value_sent (drop l.at l.sent)) →
          AreHanded (play_of rules) l.steps (map value_sent l.sent);
      on : AreHanded (play_of rules) l.steps (map value_sent l.sent) →
          AreHanded (play_of rules) (drop l.step-index l.steps) (map value_sent (drop l.at l.sent));
    }
