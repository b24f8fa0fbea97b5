use Rattle.std.{proofs.Common.{◌++◌, codes, rules}, specs.Fmt.{HasWritten, decimal}, specs.List.repeat}
use Rattle.std.proofs.Output.{has_written_append, has_written_of_eq}
use Rattle.p3_fs_core.specs.{Steps.{plain_text, alternate_text}, Interactions.step_of}
use Rattle.p3_patterns.proofs.Rendered.{line-front}
use Rattle.p3_patterns.proofs.rendering.LineDisplay.fmt.Goals as goal

pub returns-then-self-clause-writes : goal.returns-then-self-clause-writes
returns-then-self-clause-writes g c plain ok =
    let l = c.args.self.now in
    let front : HasWritten g.W.Write.write_str_gives c.args.f.now
    (repeat c.saturating_sub.result (codes "0") ++ (decimal l.position ++ (codes " " ++ repeat l.indentation (codes
    "  ")))) c.write.new.self = search rules in
    let following : HasWritten g.W.Write.write_str_gives c.write.new.self
    (alternate_text (step_of l.step.now) ++ codes "\n") c.writeln.new.self = search rules in
    rw c.if-self.true (has_written_of_eq _ _ _ _ _ (line-front _ l.digits l.position l.indentation _
    (rw c.decimal_digits.ensures at c.saturating_sub.ensures)) (has_written_append _ _ _ _ _ _ front following))

pub returns-else-self-clause-writes : goal.returns-else-self-clause-writes
returns-else-self-clause-writes g c plain ok =
    let l = c.args.self.now in
    let front : HasWritten g.W.Write.write_str_gives c.args.f.now
    (repeat c.saturating_sub.result (codes "0") ++ (decimal l.position ++ (codes " " ++ repeat l.indentation (codes
    "  ")))) c.write.new.self = search rules in
    let following : HasWritten g.W.Write.write_str_gives c.write.new.self
    (plain_text (step_of l.step.now) ++ codes "\n") c.writeln-else-self.new.self = search rules in
    rw c.if-self.false (has_written_of_eq _ _ _ _ _ (line-front _ l.digits l.position l.indentation _
    (rw c.decimal_digits.ensures at c.saturating_sub.ensures)) (has_written_append _ _ _ _ _ _ front following))
