use Rattle.std.proofs.Common.{◌∙◌}
use Rattle.transcript_program.proofs.program.pattern_text.Goals as goal

pub returns-clause-ok : goal.returns-clause-ok
returns-clause-ok c =
    c.in_ok-format.ensures.ok
    ∙ rw (c.in_ok-text.ensures.ok, c.in_ok-digest.ensures, c.in_ok-pattern_hash.ensures.digest, c.in_ok-pattern.ensures.ok)
