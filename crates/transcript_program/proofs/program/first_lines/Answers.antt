use Rattle.std.proofs.{Common.{◌≡◌, string_bytes, ◌∙◌}, lemmas.Result.IfOk-weaker}
use Rattle.transcript_program.specs.Program.{lines}
use Rattle.transcript_program.proofs.program.first_lines.Goals as goal

pub returns : goal.returns
returns c = IfOk-weaker c.format.result _ (λ text. string_bytes text ≡ lines c.args.wire.now c.args.challenge)
    (λ text h. h ∙ rw (c.in_ok-wire.ensures, c.as_canonical_u32-challenge.ensures)) c.format.ensures.ok
