use Rattle.transcript_program.proofs.InputLemmas.{consumes-more}
use Rattle.transcript_program.proofs.input.read_all.Goals as goal

-- what was read before, and what the last read gave
pub returns-in-Err-extend_from_slice-clause-err : goal.returns-in-Err-extend_from_slice-clause-err
returns-in-Err-extend_from_slice-clause-err g c =
    (_, consumes-more _ _ _ _ _ c.loop.invariant c.in-Ok.ensures.bytes.0)
