use Rattle.std.proofs.Common.{◌≡◌, drop, map}
use Rattle.p3_fs_core.specs.Interactions.{step_of}
use Rattle.p3_runs.specs.Runs.{interactions}
use Rattle.p3_script.specs.{Scripts.play_of, SuiteRules.rules_of}
use Rattle.p3_script_checks.specs.Places.{CarryRules}
use Rattle.p3_script_checks.proofs.fitting.are_steps.Given as goal

-- what is so of the steps that are left is so of all
abbrev pub invariant-loop-i : goal.invariant-loop-i
invariant-loop-i g l =
    let field = g.S.Field in
    let space = g.S.Extension in
    let challenger = g.S.Challenger in
    let rules = rules_of g.S.Codec.Codec field.PrimeCharacteristicRing field.Field field.BasedVectorSpace.DIMENSION
    field.AlgebraIdentity field.Named space.BasedVectorSpace space.AlgebraIdentity space.Named g.S.Unit.Unit
    challenger.CanObserve-1 challenger.CanObserve-2 g.S.Suite.is_own g.S.Accept.AcceptRule-1 g.S.Accept.AcceptRule-2
    g.S.Group.StepGroup g.S.Digest.DigestHasher in
    record {
      back : CarryRules rules l.carriers.scalars l.carriers.extensions →
          interactions (play_of rules) (drop l.i l.steps) ≡ map step_of (drop l.i l.expected) →
          interactions (play_of rules) l.steps ≡ map step_of l.expected;
      on : interactions (play_of rules) l.steps ≡ map step_of l.expected →
          interactions (play_of rules) (drop l.i l.steps) ≡ map step_of (drop l.i l.expected);
    }
