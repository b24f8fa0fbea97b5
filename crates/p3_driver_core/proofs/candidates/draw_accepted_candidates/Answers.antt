use Rattle.std.proofs.Common.{[], ◌∷◌, ◌++◌, ◌∙◌, sym, rules, ap, inr, arith}
use Rattle.p3_driver_core.{specs.BoundLaws.values-more, proofs.Rejections.{keeps-next, keeps-refused, keeps-all}}
use Rattle.p3_driver_core.proofs.candidates.draw_accepted_candidates.Goals as goal

pub returns-in_err-value-clause-kept : goal.returns-in_err-value-clause-kept
returns-in_err-value-clause-kept g c = λ rule computes.
    let stops = keeps-refused (omega arith) c.deref.ensures.value (c.loop.invariant.keeps rule computes)
    c.in_err-value.field-0.0 (g.C.Sponge.state c.draw_taken.new.challenger) (c.in_err-value.ensures rule computes) in
    search (rules, stops, inr)

pub loop-preserved : goal.loop-preserved
loop-preserved g c = record {
  keeps = λ rule computes. keeps-next (omega arith) c.deref.ensures.value c.push_reserved.ensures.items
      (c.in_ok-value.ensures rule computes) (c.loop.invariant.keeps rule computes);
  bound = values-more c.loop.bounds.items c.push_reserved-in-loop.new.self.items c.bind.result c.in_ok-value.value
      c.push_reserved-in-loop.ensures.items c.bind.ensures
      ∙ ap (λ xs. xs ++ (c.in_ok-value.value ∷ [])) c.loop.invariant.bound ∙ sym c.push_reserved.ensures.items;
  count = cc;
  room = cc;
  kept_count = cc;
  kept_room = cc;
}

pub returns-clause-kept : goal.returns-clause-kept
returns-clause-kept g c = λ rule computes.
    keeps-all (omega arith) c.loop.invariant.bound (c.loop.invariant.keeps rule computes)
