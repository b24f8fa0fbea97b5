use Rattle.std.proofs.Common.{◌≡◌, length, take, vec_len, vec_capacity, map}
use Rattle.p3_fs_core.specs.Interactions.{step_of}
use Rattle.p3_runs.specs.Runs.{interactions}
use Rattle.p3_script.specs.{Scripts.play_of, SuiteRules.rules_of}
use Rattle.p3_script_checks.proofs.fitting.pattern.Given as goal

-- the steps so far
abbrev pub invariant-loop-step : goal.invariant-loop-step
invariant-loop-step g l =
    let field = g.S.Field in
    let space = g.S.Extension in
    let challenger = g.S.Challenger in
    let rules = rules_of g.S.Codec.Codec field.PrimeCharacteristicRing field.Field field.BasedVectorSpace.DIMENSION
    field.AlgebraIdentity field.Named space.BasedVectorSpace space.AlgebraIdentity space.Named g.S.Unit.Unit
    challenger.CanObserve-1 challenger.CanObserve-2 g.S.Suite.is_own g.S.Accept.AcceptRule-1 g.S.Accept.AcceptRule-2
    g.S.Group.StepGroup g.S.Digest.DigestHasher in
    record {
      made : map step_of l.interactions.items ≡ interactions (play_of rules) (take l.step-index l.steps);
      count : vec_len l.interactions ≡ l.step-index;
      room : vec_capacity l.interactions ≡ length l.steps;
    }
