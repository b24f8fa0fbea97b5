-- Answers of runs that feed the same symbols.
use Rattle.std.proofs.Common.{◌≡◌, ℕ, List, inl, inr, refl, sym, ◌∙◌, subst}
use Rattle.p3_challenger_core.specs.Reading.{AreBytes}
use Rattle.p3_binding.specs.Binding.{AreHeld, AreBound, ScriptSymbolsBind, ScriptHintsDoNotInfluence}
use Rattle.p3_binding.specs.Hints.{ReceivedButHints}
use Rattle.p3_runs.specs.{Fronts.{Run, IsFinished, absorbed, seeded}, Rules.Rules, Values.Value, Verdicts.with_steps}
use Rattle.p3_script.specs.Scripts.{play_of, values_received}
use Rattle.p3_script_binding.specs.AnswersBound.{EqualSymbolsHaveEqualValues, VerifiedFrontsBind, ProvedFrontsBind}
use Rattle.p3_script_binding.{specs.AnswersBound.HoldsProof, proofs.{Fronts.fronts-feed, Held.{steps-held, step-held}}}
use Rattle.p3_script_binding.proofs.Telling.{AreTold, steps-tell, step-tells, received-same}
use Rattle.p3_runs.specs.Runs as runs
use Rattle.p3_script.specs.declared.steps.Step as script

module _ {F EF O Ac : Type 0} (Su U C K D G It S Symbol : Type 0) (r : Rules S Symbol It F EF O Ac) (state : C → S)
    (bind : ScriptSymbolsBind Su U C K D G It S Symbol r) where
  abbrev Script : Type 0
  Script = Run (script.Step Su F EF U O C K Ac D G It S Symbol) F EF S

  -- a program can hold what an accepted run absorbs
  run-held : (s : Script) (values : List (Value F EF)) (bytes : List ℕ) → HoldsProof r (play_of r) s.steps bytes →
      IsFinished r (play_of r) (with_steps s s.steps values) → bytes ≡ runs.wires (play_of r) s.steps values →
      AreHeld r.IsOwn (absorbed r (play_of r) (with_steps s s.steps values))
  run-held s values bytes holds finished wire_is =
      steps-held r (play_of r) (step-held r) s.steps values (seeded r (play_of r) s) finished.finishes holds.steps_are
      (subst AreBytes wire_is holds.bytes_are)

  pub verified-fronts : VerifiedFrontsBind Su U C K D G It S Symbol r state
  verified-fronts s t bytes others carried brought v w a b holds holds_too n feed =
      bind _ _ (fronts-feed r (play_of r) n _ _ a.proof.finished a.proof.whole
      (run-held s a.values bytes holds a.proof.finished a.proof.wire_is) b.proof.finished b.proof.whole
      (run-held t b.values others holds_too b.proof.finished b.proof.wire_is) feed)

  pub proved-fronts : ProvedFrontsBind Su U C K D G It S Symbol r state
  proved-fronts s t sent handed v w a b holds holds_too n feed =
      let p = a.0.outcome in
      let q = b.0.outcome in
      bind _ _ (fronts-feed r (play_of r) n _ _ p.is_run.finished p.is_run.whole
      (run-held s a.0.values v.narg.items holds p.is_run.finished p.narg_is) q.is_run.finished q.is_run.whole
      (run-held t b.0.values w.narg.items holds_too q.is_run.finished q.narg_is) feed)

  -- runs of one script, whose pattern has one rendering
  same-absorbed : (s : Script) (vs ws : List (Value F EF)) →
      AreBound r (play_of r) (with_steps s s.steps vs) (with_steps s s.steps ws) →
      runs.absorbed (play_of r) s.steps vs ≡ runs.absorbed (play_of r) s.steps ws
  same-absorbed s vs ws bound =
      elim bound.steps [
        | inl steps ↦ steps.values
        | inr collide ↦ absurd (collide.differ refl)
      ]

  module _ (free : ScriptHintsDoNotInfluence Su U C K D G It S Symbol r) (told : AreTold r) where
    pub verified-agree : EqualSymbolsHaveEqualValues Su U C K D G It S Symbol r state
    verified-agree s bytes others carried brought v w a b holds holds_too e =
        let p = a.proof in
        let q = b.proof in
        let bound = bind (with_steps s s.steps a.values) (with_steps s s.steps b.values) (record {
          finished = (p.finished, q.finished);
          held = (
            run-held s a.values bytes holds p.finished p.wire_is,
            run-held s b.values others holds_too q.finished q.wire_is,
          );
          as_far = inl (p.whole, q.whole);
          same = e;
        }) in
        let values = steps-tell (play_of r) (step-tells r told) s.steps a.values b.values _ _ p.finished.finishes
        q.finished.finishes (same-absorbed s a.values b.values bound) in
        let ends = free (with_steps s s.steps a.values) b.values p.finished q.finished values in
        let received = received-same (play_of r) s.steps a.values b.values values in
        record {
          received = subst (λ l. ReceivedButHints (play_of r) s.steps l (values_received w.received.items))
              (sym a.outcome.received_is)
              (subst (λ l. ReceivedButHints (play_of r) s.steps (runs.in_proof (play_of r) s.steps a.values) l)
              (sym b.outcome.received_is) received);
          challenges = a.outcome.drawn_is ∙ ends.draws ∙ sym b.outcome.drawn_is;
          challengers = a.outcome.end_is ∙ ends.ends ∙ sym b.outcome.end_is;
        }
