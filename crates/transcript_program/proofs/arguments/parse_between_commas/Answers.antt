use Rattle.std.proofs.Common.{◌≡◌, ℕ, List, ◌==◌, length, map, lit<, ap, sym, ◌∙◌, arith, rules, subst, Bor, IfSome}
use Rattle.std.{specs.List.slice_split, proofs.lemmas.Iterator.Splits.YieldsList-from_str_split}
use Rattle.std.proofs.lemmas.Iterator.Consumers.{YieldsList-at, YieldsList-turn, YieldsList-end}
use Rattle.transcript_program.specs.Arguments.{AreScalarTexts}
use Rattle.transcript_program.proofs.ArgumentLemmas.{scalar_texts-as_many, none_weaker}
use Rattle.transcript_program.proofs.arguments.parse_between_commas.Goals as goal

-- a fifth part is one too many
pub returns-then-is_full-clause-none : goal.returns-then-is_full-clause-none
returns-then-is_full-clause-none c =
    let parts = YieldsList-at c.into_iter-part-iterator.ensures.into_iter_gives
    (YieldsList-from_str_split 44 c.args.text.now (lit< tt) c.split-part-items.ensures.text
    c.split-part-items.ensures.has_more c.split-part-items.ensures.pattern) in
    let turn = YieldsList-turn parts c.loop-part.yielded _ c.loop-part.yielded_by _ _ c.in-Some.part c.in-Some.is
    c.next.ensures.steps in
    let full : length c.loop-part.parts.items ≡ 4 = search rules in
    λ xs few are. absurd (omega (arith, few, scalar_texts-as_many _ xs are, turn.0, full, ap length c.loop-part.invariant.kept))

pub returns-clause-some : goal.returns-clause-some
returns-clause-some c =
    let parts = YieldsList-at c.into_iter-part-iterator.ensures.into_iter_gives
    (YieldsList-from_str_split 44 c.args.text.now (lit< tt) c.split-part-items.ensures.text
    c.split-part-items.ensures.has_more c.split-part-items.ensures.pattern) in
    let all = YieldsList-end parts c.loop-part.yielded _ c.loop-part.yielded_by _ _ c.in-None.is c.next.ensures.steps in
    let texts : map (λ (text : Bor (List ℕ)). text.now) c.as_slice.result.now ≡ slice_split (λ byte. byte == 44) c.args.text.now
    = ap (map (λ (text : Bor (List ℕ)). text.now)) (c.as_slice.ensures.value ∙ c.loop-part.invariant.kept) ∙ all.0 in
    subst (λ ts. IfSome c.parse_values.result (λ inputs. AreScalarTexts ts inputs.items)) texts c.parse_values.ensures.some

pub returns-clause-none : goal.returns-clause-none
returns-clause-none c =
    let parts = YieldsList-at c.into_iter-part-iterator.ensures.into_iter_gives
    (YieldsList-from_str_split 44 c.args.text.now (lit< tt) c.split-part-items.ensures.text
    c.split-part-items.ensures.has_more c.split-part-items.ensures.pattern) in
    let all = YieldsList-end parts c.loop-part.yielded _ c.loop-part.yielded_by _ _ c.in-None.is c.next.ensures.steps in
    let same = c.as_slice.ensures.value ∙ c.loop-part.invariant.kept in
    let texts : map (λ (text : Bor (List ℕ)). text.now) c.as_slice.result.now ≡ slice_split (λ byte. byte == 44) c.args.text.now
    = ap (map (λ (text : Bor (List ℕ)). text.now)) same ∙ all.0 in
    none_weaker c.parse_values.result
    (λ none xs few are. none xs (omega (arith, ap length same, c.loop-part.invariant.few))
    (subst (λ ts. AreScalarTexts ts xs) (sym texts) are))
    c.parse_values.ensures.none
