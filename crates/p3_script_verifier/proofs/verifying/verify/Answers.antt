use Rattle.std.proofs.Common.{arith, ◌<◌, ◌≤◌, length, refl, inl, inr}
use Rattle.p3_runs.specs.{FollowingLaws.{follows-start, follows-refused, follows-not_ended}, NoProofLaws.refused-so}
use Rattle.p3_runs.specs.Verdicts.{script_under}
use Rattle.p3_script_verifier.proofs.Following.{part-on, next-admitted, next-carried, follows-kept}
use Rattle.p3_script_verifier.proofs.Following.{follows-accepts}
use Rattle.p3_script_verifier.proofs.verifying.verify.Goals as goal

pub new-requires : goal.new-requires
new-requires g c = g.met.S.Suite.alphabet

pub loop-position-init : goal.loop-position-init
loop-position-init g c =
    rw (c.new-received.ensures.items, c.new-challenges.ensures.items)
    (follows-start _ _ _ _ _ _ c.in-Ok.ensures.ok c.in-Ok.ensures.fits c.requires.carried)

pub take_step-taken-requires-clause-carried : goal.take_step-taken-requires-clause-carried
take_step-taken-requires-clause-carried g c =
    let here : c.loop-position.position < length c.args.steps.now = omega arith in
    c.witness_for-witness.ensures.carried
    (next-carried _ _ _ _ _ c.loop-position.position c.loop-position.used _ _ _ _ _ c.loop-position.invariant
    (part-on c.args.steps.now c.loop-position.position c.index-steps-position.result here c.index-steps-position.is))

pub take_step-taken-requires-clause-admitted : goal.take_step-taken-requires-clause-admitted
take_step-taken-requires-clause-admitted g c =
    let here : c.loop-position.position < length c.args.steps.now = omega arith in
    next-admitted _ _ _ _ _ c.loop-position.position c.loop-position.used _ _ _ _ _ c.loop-position.invariant
    (part-on c.args.steps.now c.loop-position.position c.index-steps-position.result here c.index-steps-position.is)
    c.requires.admitted

pub loop-position-preserved : goal.loop-position-preserved
loop-position-preserved g c =
    let here : c.loop-position.position < length c.args.steps.now = omega arith in
    follows-kept _ _ _ _ _ c.loop-position.position c.loop-position.used _ _ _ _ _ _ _ _ _
    (part-on c.args.steps.now c.loop-position.position c.index-steps-position.result here c.index-steps-position.is)
    c.witness_for-witness.ensures.uses
    (c.witness_for-witness.ensures.carried
    (next-carried _ _ _ _ _ c.loop-position.position c.loop-position.used _ _ _ _ _ c.loop-position.invariant
    (part-on c.args.steps.now c.loop-position.position c.index-steps-position.result here c.index-steps-position.is)))
    c.loop-position.invariant
    c.in_default.ensures.ok

pub returns-in-Ok-finish-clause-accepted : goal.returns-in-Ok-finish-clause-accepted
returns-in-Ok-finish-clause-accepted g c =
    let past : length c.args.steps.now ≤ c.loop-position.position = omega arith in
    follows-accepts _ _ _ _ _ c.script_steps_are_lawful.ensures.canonical
    c.loop-position.position c.loop-position.used _ _ _ _ past c.loop-position.invariant c.in-Ok-finish.ensures.ok.0
    c.in-Ok-finish.ensures.ok.1

pub returns-in-Err-clause-refused : goal.returns-in-Err-clause-refused
returns-in-Err-clause-refused g c =
    refused-so _ _ c.script_steps_are_lawful.ensures.canonical _ c.script_steps_are_lawful.ensures.taken (script_under _ _ _) _
    _ 0 _ c.requires.admitted (inl (refl, c.in-Err.ensures.err))

pub returns-in-Err-taken-clause-refused : goal.returns-in-Err-taken-clause-refused
returns-in-Err-taken-clause-refused g c =
    let here : c.loop-position.position < length c.args.steps.now = omega arith in
    refused-so _ _ c.script_steps_are_lawful.ensures.canonical _ c.script_steps_are_lawful.ensures.taken (script_under _ _ _)
    _ _ c.loop-position.position _ c.requires.admitted
    (inr (inl (follows-refused _ _ _ _ _ _ c.loop-position.position c.loop-position.used _ _ _ _ _ _ _ _
    (part-on c.args.steps.now c.loop-position.position c.index-steps-position.result here c.index-steps-position.is)
    c.witness_for-witness.ensures.uses
    (c.witness_for-witness.ensures.carried
    (next-carried _ _ _ _ _ c.loop-position.position c.loop-position.used _ _ _ _ _ c.loop-position.invariant
    (part-on c.args.steps.now c.loop-position.position c.index-steps-position.result here c.index-steps-position.is)))
    c.loop-position.invariant
    c.in-Err-taken.ensures.err.refuses)))

pub returns-clause-refused : goal.returns-clause-refused
returns-clause-refused g c =
    let past : length c.args.steps.now ≤ c.loop-position.position = omega arith in
    refused-so _ _ c.script_steps_are_lawful.ensures.canonical _ c.script_steps_are_lawful.ensures.taken (script_under _ _ _)
    _ _ _ _ c.requires.admitted
    (inr (inr (follows-not_ended _ _ _ _ _ c.loop-position.position c.loop-position.used _ _ _ past
    c.loop-position.invariant _ c.in-Err-finish.ensures.err)))
