use Rattle.p3_drivers.specs.Drivers.{proving_of}
use Rattle.p3_runs.specs.{Verdicts.script_of}
use Rattle.p3_script.specs.{Scripts.{play_of, values_sent, challenges_of}, SuiteRules.rules_of}
use Rattle.p3_script_answers.proofs.{AnsweringLaws.ProvesFirst, Turning.HasAnswered}
use Rattle.p3_script_answers.proofs.answering.prove_by.Given as goal

-- The steps so far were played, with the values that were answered, each at its turn; and more may be asked for.
abbrev pub invariant-loop-position : goal.invariant-loop-position
invariant-loop-position g l =
    let field = g.S.Field in
    let space = g.S.Extension in
    let challenger = g.S.Challenger in
    let state = challenger.Sponge.state in
    let rules = rules_of g.S.Codec.Codec field.PrimeCharacteristicRing field.Field field.BasedVectorSpace.DIMENSION
    field.AlgebraIdentity field.Named space.BasedVectorSpace space.AlgebraIdentity space.Named g.S.Unit.Unit
    challenger.CanObserve-1 challenger.CanObserve-2 g.S.Suite.is_own g.S.Accept.AcceptRule-1 g.S.Accept.AcceptRule-2
    g.S.Group.StepGroup g.S.Digest.DigestHasher in
    let script = script_of (state l.fn.challenger) l.separator l.steps in
    record {
      callable : goal.F-IsAlwaysCallable g l.answers;
      played : ProvesFirst rules (play_of rules) script (values_sent l.made.sent.items) l.position
          (proving_of state l.prover) l.made.witnesses.items l.made.carried.items
          (challenges_of l.made.challenges.items);
      answered : HasAnswered rules script (goal.F-step g) l.fn.answers l.made.sent.items l.answers;
    }
