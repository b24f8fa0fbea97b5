use Rattle.std.proofs.Common.{◌≡◌, ◌≤◌, length, map, take}
use Rattle.transcript_program.specs.Arguments.{AreScalarTexts}
use Rattle.transcript_program.proofs.arguments.parse_values.Given as goal

-- the texts so far are written by the values so far
abbrev pub invariant-loop-text : goal.invariant-loop-text
invariant-loop-text l =
    record {
      written : AreScalarTexts (map (λ text. text.now) (take l.text-index l.texts)) l.values.items;
      as_many : length l.values.items ≡ l.text-index;
      few : l.text-index ≤ 4;
    }
