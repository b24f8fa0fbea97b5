use Rattle.std.proofs.Common.{List, ℕ, ap, codes, subst, ◌∙◌}
use Rattle.p3_challenger.specs.{Kind.Kind, Kind.TheVariants.{Challenge, Message}, Hierarchy.TheVariants.Atomic}
use Rattle.p3_challenger.specs.{Length.Length, Length.TheVariants.{Fixed, Scalar}, Recording.Records}
use Rattle.p3_challenger.specs.Steps.{Step, carried_by, step_with}
use Rattle.uses.proofs.Accepting.{once-ok, recorded-five}
use Rattle.uses.proofs.protocol.record.Goals as goal

-- a step of the same type as another
alike : Kind → List ℕ → Length → Step → Step
alike kind label length s = step_with Atomic kind label s.type_tag s.type_name (carried_by s.type_tag length)

pub returns : goal.returns
unfolding alike
returns c =
    let slope = c.algebra-slope.ensures in
    let offset = c.of_same_type.ensures ∙ ap (alike Message (codes "offset") Scalar) slope in
    let place = c.of_same_type-2.ensures ∙ ap (alike Challenge (codes "place") Scalar) slope in
    let divisor = c.of_same_type-3.ensures ∙ ap (alike Challenge (codes "divisor") (Fixed 1)) slope in
    once-ok c.interact-5.result c.interact-5.ensures.ok
    (λ last. recorded-five _ _ _ _ _ _ _ _ _ _ _
    (subst (λ s. Records c.args.recorder.now s c.interact.new.self) slope c.in_ok-interact.ensures.ok)
    (subst (λ s. Records c.interact.new.self s c.interact-2.new.self) offset c.in_ok-interact-2.ensures.ok)
    (subst (λ s. Records c.interact-2.new.self s c.interact-3.new.self) place c.in_ok-interact-3.ensures.ok)
    (subst (λ s. Records c.interact-3.new.self s c.interact-4.new.self) divisor c.in_ok-interact-4.ensures.ok)
    (subst (λ s. Records c.interact-4.new.self s c.interact-5.new.self) c.bytes.ensures last))
