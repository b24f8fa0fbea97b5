use Rattle.std.proofs.Common.{refl, lit≤}
use Rattle.transcript_program.proofs.ScriptLemmas.{eight-drawn, four-drawn}
use Rattle.transcript_program.proofs.script.steps.Goals as goal

pub returns-clause-script : goal.returns-clause-script
returns-clause-script c = (
  record {
    opener = record { label = _; says = refl };
    inputs = record { label = _; says = refl };
    salt = record { label = _; says = refl };
    values = record { label = _; says = refl };
    work = record { label = _; says = refl };
    alpha = record { label = _; says = refl };
    note = record { label = _; says = refl };
    indices = record { label = _; says = refl };
    closer = record { label = _; says = refl };
  },
  refl,
)

-- the proof of work asks for 8 bits at once, and the last draw for 4
pub returns-clause-admitted : goal.returns-clause-admitted
returns-clause-admitted c =
    (tt, (tt, (tt, (tt, ((refl, eight-drawn), (lit≤ tt, (tt, ((refl, four-drawn), (tt, tt)))))))))
