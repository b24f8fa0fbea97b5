use Rattle.std.proofs.Common.{◌≡◌, ◌<◌, ℕ, map, take, get_or}
use Rattle.tealmuze_calls.proofs.words.words.Given as goal

-- the words so far
abbrev pub invariant-loop-number : goal.invariant-loop-number
invariant-loop-number g l =
    record {
      numbers_are : map g.T.Word.encoded l.words.items ≡ take l.number-index l.numbers;
      each : (k : ℕ) → k < l.number-index → g.T.Word.is_encoded (get_or l.numbers k 0);
    }
