use Rattle.std.proofs.Common.{refl, lit≤}
use Rattle.uses.proofs.DemoLemmas.{eight-drawn, four-drawn}
use Rattle.uses.proofs.demo_script.steps.Goals as goal

pub returns-clause-steps : goal.returns-clause-steps
returns-clause-steps c =
    record {
      opener = record { label = _; says = refl };
      numbers = record { label = _; says = refl };
      salt = record { label = _; says = refl };
      values = record { label = _; says = refl };
      work = record { label = _; says = refl };
      alpha = record { label = _; says = refl };
      note = record { label = _; says = refl };
      indices = record { label = _; says = refl };
      closer = record { label = _; says = refl };
      are = refl;
    }

-- the proof of work asks for 8 bits at once, and the last draw for 4
pub returns-clause-admitted : goal.returns-clause-admitted
returns-clause-admitted c =
    (tt, (tt, (tt, (tt, ((refl, eight-drawn), (lit≤ tt, (tt, ((refl, four-drawn), (tt, tt)))))))))
