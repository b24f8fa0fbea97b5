-- Two rounds of a protocol: in each, values are observed and one is drawn.
use Rattle.std.specs.Prelude.{◌≡◌, List, [], ◌∷◌, ◌++◌, map}
use Rattle.p3_challenger.specs.{DuplexCalls.DuplexRun, Segments.{Call, observe, draw}}

abbrev pub two_rounds : {T : Type 0} → List T → List T → List (Call T)
two_rounds first second = map observe first ++ (draw ∷ (map observe second ++ draw ∷ []))

-- two runs of such rounds that permute the same states and leave the same pending observe the same values
abbrev pub RoundsReadBack : {T : Type 0} → (List (Call T) → DuplexRun T) → Type 0
RoundsReadBack {T} run = (a b c d : List T) → (run (two_rounds a b)).queries ≡ (run (two_rounds c d)).queries →
    (run (two_rounds a b)).after.pending ≡ (run (two_rounds c d)).after.pending → a ++ b ≡ c ++ d
