use Rattle.std.proofs.Common.{ap, arith, rules, refl, ◌≡◌, ◌<◌, ◌≤◌, ◌++◌, [], length}
use Rattle.p3_runs.specs.{CarriedLaws.proved-count, Stepping.one_of, Verdicts.script_under}
use Rattle.p3_script.specs.Scripts.{challenges_of, values_sent}
use Rattle.p3_script_answers.proofs.AnsweringLaws.{first-empty, first-on, first-refused, first-end, next-admitted}
use Rattle.p3_script_answers.proofs.AnsweringLaws.{seed-refused, end-refused}
use Rattle.p3_script_answers.proofs.Turning.{answer-adds, answered-none, asked-answer, asked-on, asked-stops, part-on}
use Rattle.p3_script_answers.proofs.answering.prove_by.Goals as goal

pub returns-in-Err-clause-stopped : goal.returns-in-Err-clause-stopped
returns-in-Err-clause-stopped g c =
    record {
      given = [];
      last = c.args.answers;
      in_turn = refl;
      stops = seed-refused _ _ _ _ c.script_steps_are_lawful.ensures.determined c.script_steps_are_lawful.ensures.sent
          c.requires.admitted _ c.in-Err.ensures.err;
    }

pub loop-position-init : goal.loop-position-init
loop-position-init g c =
    record {
      callable = c.requires.callable;
      played = first-empty _ _ _ _ _ _ _ _ (ap values_sent c.new-made.ensures.sent) c.new-made.ensures.witnesses
          c.new-made.ensures.carried (ap challenges_of c.new-made.ensures.challenges) c.in-Ok.ensures.ok c.in-Ok.ensures.fits;
      answered = answered-none _ _ _ _ _ c.new-made.ensures.sent;
    }

pub returns-in-Err-ask-clause-stopped : goal.returns-in-Err-ask-clause-stopped
returns-in-Err-ask-clause-stopped g c =
    let here : c.loop-position.position < length c.args.steps.now = omega arith in
    let lent : c.deref.result.now ≡ c.loop-position.made.challenges.items = search rules in
    asked-stops _ _ _ _ _ _ _ c.loop-position.position _
    (part-on c.args.steps.now c.loop-position.position c.index-steps-position.result here c.index-steps-position.is) _ _ _
    _ _ lent c.loop-position.invariant.played c.loop-position.invariant.answered _ c.in-Err-ask.ensures.asked

pub play_answered-requires-clause-admitted : goal.play_answered-requires-clause-admitted
play_answered-requires-clause-admitted g c =
    let here : c.loop-position.position < length c.args.steps.now = omega arith in
    next-admitted _ _ _ c.loop-position.position _
    (part-on c.args.steps.now c.loop-position.position c.index-steps-position.result here c.index-steps-position.is) _ _
    _ _ _ c.loop-position.invariant.played c.requires.admitted

pub play_answered-requires-clause-answered : goal.play_answered-requires-clause-answered
play_answered-requires-clause-answered g c = asked-answer _ _ _ _ _ _ _ c.in-Ok-ask.ensures.asked

pub returns-in-Err-play_answered-clause-stopped : goal.returns-in-Err-play_answered-clause-stopped
returns-in-Err-play_answered-clause-stopped g c =
    let here : c.loop-position.position < length c.args.steps.now = omega arith in
    let at = part-on c.args.steps.now c.loop-position.position c.index-steps-position.result here c.index-steps-position.is in
    let lent : c.deref.result.now ≡ c.loop-position.made.challenges.items = search rules in
    record {
      given = c.loop-position.made.sent.items ++ one_of c.in-Ok-ask.value;
      last = c.ask.new.answers;
      in_turn = (asked-on _ _ _ _ _ _ _ c.loop-position.position _ at _ _ _ _ _ lent c.loop-position.invariant.played
          c.loop-position.invariant.answered _ c.in-Ok-ask.ensures.asked _ refl).so;
      stops = first-refused _ _ _ _ c.script_steps_are_lawful.ensures.determined c.script_steps_are_lawful.ensures.sent
          c.requires.admitted _ c.loop-position.position _ _ _ _ c.loop-position.invariant.played _ at _ _
          (answer-adds _ c.in-Ok-ask.value _ _ (asked-answer _ _ _ _ _ _ _ c.in-Ok-ask.ensures.asked) refl) _ _
          c.in-Err-play_answered.ensures.played.comes;
    }

pub loop-position-preserved : goal.loop-position-preserved
loop-position-preserved g c =
    let here : c.loop-position.position < length c.args.steps.now = omega arith in
    let at = part-on c.args.steps.now c.loop-position.position c.index-steps-position.result here c.index-steps-position.is in
    let lent : c.deref.result.now ≡ c.loop-position.made.challenges.items = search rules in
    let may = asked-answer _ _ _ _ _ _ _ c.in-Ok-ask.ensures.asked in
    record {
      callable = c.ask.ensures.callable;
      played = first-on _ _ _ c.loop-position.position _ at _ _ _ _ _ c.loop-position.invariant.played _ _
          (answer-adds _ c.in-Ok-ask.value _ _ may c.in_default.ensures.sent) _ _ _ _ c.in_default.ensures.played.comes;
      answered = asked-on _ _ _ _ _ _ _ c.loop-position.position _ at _ _ _ _ _ lent
          c.loop-position.invariant.played c.loop-position.invariant.answered _ c.in-Ok-ask.ensures.asked _
          c.in_default.ensures.sent;
    }

pub returns-in-Ok-finish-clause-proved : goal.returns-in-Ok-finish-clause-proved
returns-in-Ok-finish-clause-proved g c =
    let past : length c.args.steps.now ≤ c.loop-position.position = omega arith in
    let p = first-end _ _ _ _ c.script_steps_are_lawful.ensures.determined c.script_steps_are_lawful.ensures.sent
    c.requires.admitted _ c.loop-position.position _ _ _ _ c.loop-position.invariant.played past _ _
    c.in-Ok-finish.ensures.ok.0 c.in-Ok-finish.ensures.ok.1 c.in-Ok-finish.ensures.ok.2 in
    rw (c.assemble.ensures.narg, c.assemble.ensures.sent, c.assemble.ensures.witnesses, c.assemble.ensures.carried, c.assemble.ensures.challenges, c.assemble.ensures.challenger)
    (p, proved-count _ _ (script_under _ _ _) _ _ _ _ _ _ p)

pub returns-clause-stopped : goal.returns-clause-stopped
returns-clause-stopped g c =
    let past : length c.args.steps.now ≤ c.loop-position.position = omega arith in
    record {
      given = c.loop-position.made.sent.items;
      last = c.loop-position.answers;
      in_turn = c.loop-position.invariant.answered.so;
      stops = end-refused _ _ _ _ c.script_steps_are_lawful.ensures.determined c.script_steps_are_lawful.ensures.sent
          c.requires.admitted _ c.loop-position.position _ _ _ _ c.loop-position.invariant.played past _
          c.in-Err-finish.ensures.err;
    }
