use Rattle.std.proofs.Common.{◌∷◌, ap, sym, ◌∙◌}
use Rattle.tealmuze_calls.proofs.Dues.{due_passed}
use Rattle.tealmuze_calls.proofs.prepared.prepare.Goals as goal

pub returns-in_err-parse-in-0-clause-err : goal.returns-in_err-parse-in-0-clause-err
returns-in_err-parse-in-0-clause-err c =
    due_passed c.from_residual-in_err-parse-in-0.result _ _ _ (λ none asked. let some = rw (sym c.new-from.ensures
    ∙ c.in_ok-suite.ensures.read ∙ ap (λ suite. suite ∷ c.byte.new.self.left.now) c.in-0.is) at asked in
    none (some.separator, some.steps) some.describes) c.from_residual-in_err-parse-in-0.ensures.1 c.in_err-parse-in-0.ensures.err

pub returns-in_err-parse-in-1-clause-err : goal.returns-in_err-parse-in-1-clause-err
returns-in_err-parse-in-1-clause-err c =
    due_passed c.from_residual-in_err-parse-in-1.result _ _ _ (λ none asked. let some = rw (sym c.new-from.ensures
    ∙ c.in_ok-suite.ensures.read ∙ ap (λ suite. suite ∷ c.byte.new.self.left.now) c.in-1.is) at asked in
    none (some.separator, some.steps) some.describes) c.from_residual-in_err-parse-in-1.ensures.1 c.in_err-parse-in-1.ensures.err

pub returns-in_err-parse-in-2-clause-err : goal.returns-in_err-parse-in-2-clause-err
returns-in_err-parse-in-2-clause-err c =
    due_passed c.from_residual-in_err-parse-in-2.result _ _ _ (λ none asked. let some = rw (sym c.new-from.ensures
    ∙ c.in_ok-suite.ensures.read ∙ ap (λ suite. suite ∷ c.byte.new.self.left.now) c.in-2.is) at asked in
    none (some.separator, some.steps) some.describes) c.from_residual-in_err-parse-in-2.ensures.1 c.in_err-parse-in-2.ensures.err

pub returns-in_err-parse-in-3-clause-err : goal.returns-in_err-parse-in-3-clause-err
returns-in_err-parse-in-3-clause-err c =
    due_passed c.from_residual-in_err-parse-in-3.result _ _ _ (λ none asked. let some = rw (sym c.new-from.ensures
    ∙ c.in_ok-suite.ensures.read ∙ ap (λ suite. suite ∷ c.byte.new.self.left.now) c.in-3.is) at asked in
    none (some.separator, some.steps) some.describes) c.from_residual-in_err-parse-in-3.ensures.1 c.in_err-parse-in-3.ensures.err

pub returns-in_err-parse-in-4-clause-err : goal.returns-in_err-parse-in-4-clause-err
returns-in_err-parse-in-4-clause-err c =
    due_passed c.from_residual-in_err-parse-in-4.result _ _ _ (λ none asked. let some = rw (sym c.new-from.ensures
    ∙ c.in_ok-suite.ensures.read ∙ ap (λ suite. suite ∷ c.byte.new.self.left.now) c.in-4.is) at asked in
    none (some.separator, some.steps) some.describes) c.from_residual-in_err-parse-in-4.ensures.1 c.in_err-parse-in-4.ensures.err

pub returns-in_err-parse-in-5-clause-err : goal.returns-in_err-parse-in-5-clause-err
returns-in_err-parse-in-5-clause-err c =
    due_passed c.from_residual-in_err-parse-in-5.result _ _ _ (λ none asked. let some = rw (sym c.new-from.ensures
    ∙ c.in_ok-suite.ensures.read ∙ ap (λ suite. suite ∷ c.byte.new.self.left.now) c.in-5.is) at asked in
    none (some.separator, some.steps) some.describes) c.from_residual-in_err-parse-in-5.ensures.1 c.in_err-parse-in-5.ensures.err

pub returns-in_err-parse-in-6-clause-err : goal.returns-in_err-parse-in-6-clause-err
returns-in_err-parse-in-6-clause-err c =
    due_passed c.from_residual-in_err-parse-in-6.result _ _ _ (λ none asked. let some = rw (sym c.new-from.ensures
    ∙ c.in_ok-suite.ensures.read ∙ ap (λ suite. suite ∷ c.byte.new.self.left.now) c.in-6.is) at asked in
    none (some.separator, some.steps) some.describes) c.from_residual-in_err-parse-in-6.ensures.1 c.in_err-parse-in-6.ensures.err

pub returns-in_err-parse-in-7-clause-err : goal.returns-in_err-parse-in-7-clause-err
returns-in_err-parse-in-7-clause-err c =
    due_passed c.from_residual-in_err-parse-in-7.result _ _ _ (λ none asked. let some = rw (sym c.new-from.ensures
    ∙ c.in_ok-suite.ensures.read ∙ ap (λ suite. suite ∷ c.byte.new.self.left.now) c.in-7.is) at asked in
    none (some.separator, some.steps) some.describes) c.from_residual-in_err-parse-in-7.ensures.1 c.in_err-parse-in-7.ensures.err
