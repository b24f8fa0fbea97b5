use Rattle.std.proofs.Common.{rules, ◌≡◌, ◌++◌, take, drop, take-append-drop, ap, sym, ◌∙◌}
use Rattle.tealmuze_calls.specs.Forms.{number_bytes}
use Rattle.tealmuze_calls.proofs.cursor.Cursor.number.Goals as goal

pub returns-in-Some-clause-read : goal.returns-in-Some-clause-read
returns-in-Some-clause-read c =
    let all = c.args.self.now.left.now in
    let n = c.number_of.result in
    let head_is : c.in-Some.head.now ≡ take 8 all = search rules in
    let left_is : c.in-Some.left.now ≡ drop 8 all = search rules in
    sym (take-append-drop 8 all) ∙ ap (λ h. h ++ drop 8 all) (sym head_is ∙ sym c.number_of.ensures)
    ∙ ap (λ l. number_bytes n ++ l) (sym left_is)
