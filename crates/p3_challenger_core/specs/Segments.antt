-- Lists of calls on a challenger, their cuts into segments, and their effects, call by call and segment
-- by segment.
use Rattle.std.specs.Prelude.{◌≡◌, ℕ, suc, ◌<◌, List, [], ◌∷◌, ◌++◌, ◌⊎◌, map, replicate}
use Rattle.p3_challenger_core.specs.Sponge.{IsNonEmpty}

-- a call on a challenger: a value is observed, an empty array is observed, or a value is drawn
pub data Call (T : Type 0) : Type 0 where
  observe : T → Call T
  observe_empty_array : Call T
  draw : Call T

-- values that are observed one after another, followed by a number of draws
pub record Segment (T : Type 0) : Type 0 where
  pub values : List T
  pub draws : ℕ

-- a list of calls cut into at least one segment
pub record Segments (T : Type 0) : Type 0 where
  pub first : Segment T
  pub others : List (Segment T)

-- ---- the cut

abbrev pub nothing : {T : Type 0} → Segment T
nothing = record { values = []; draws = 0 }

-- a value observed before a cut list stands first in its first segment
abbrev pub value_before : {T : Type 0} → T → Segments T → Segments T
value_before x cut = record cut { first = record { values = x ∷ cut.first.values; draws = cut.first.draws } }

-- an empty array ends a segment
abbrev pub segment_before : {T : Type 0} → Segment T → Segments T → Segments T
segment_before segment cut = record { first = segment; others = cut.first ∷ cut.others }

-- a draw before a cut list belongs to the first segment if that observes nothing, and else ends a
-- segment of its own
abbrev pub draw_before : {T : Type 0} → Segment T → List (Segment T) → List T → Segments T
draw_before first others [] = record { first = record { values = []; draws = suc first.draws }; others = others }
draw_before first others (x ∷ xs) = record { first = record { values = []; draws = 1 }; others = first ∷ others }

abbrev pub segments : {T : Type 0} → List (Call T) → Segments T
segments [] = record { first = nothing; others = [] }
segments (observe x ∷ calls) = value_before x (segments calls)
segments (observe_empty_array ∷ calls) = segment_before nothing (segments calls)
segments (draw ∷ calls) = draw_before (segments calls).first (segments calls).others (segments calls).first.values

-- ---- when segments are a cut of calls

-- the calls of one segment: its values in order, followed by its draws
abbrev pub calls_of : {T : Type 0} → Segment T → List (Call T)
calls_of segment = map observe segment.values ++ replicate segment.draws draw

-- the calls are those of a segment and a rest at which the next segment begins. An empty array stands
-- between them; or nothing does, the segment draws, and the next one observes a value
abbrev pub EndsBefore : {T : Type 0} → Segment T → Segment T → List (Call T) → List (Call T) → Type 0
EndsBefore segment next rest calls = (calls ≡ calls_of segment ++ observe_empty_array ∷ rest)
    ⊎ ((calls ≡ calls_of segment ++ rest) × (0 < segment.draws) × IsNonEmpty next.values)

-- the calls are those of a segment and of the segments after it, and each ends before the next one
abbrev pub AreCutInto : {T : Type 0} → Segment T → List (Segment T) → List (Call T) → Type 0
AreCutInto segment [] calls = calls ≡ calls_of segment
AreCutInto {T} segment (next ∷ others) calls =
    (rest : List (Call T)) × EndsBefore segment next rest calls × AreCutInto next others rest

abbrev pub IsCutOf : {T : Type 0} → List (Call T) → Segments T → Type 0
IsCutOf calls cut = AreCutInto cut.first cut.others calls

-- ---- what calls do

-- The effect of calls: their results, one for each draw, in order; their queries to the permutation or
-- the hash function, in order; and the challenger or final digest that they leave. A result is an A, a
-- queried state or string is an M, and what is left is an S.
pub record Run (A M S : Type 0) : Type 0 where
  pub answers : List A
  pub queries : List M
  pub after : S

-- nothing is done
abbrev pub stays : {A M S : Type 0} → S → Run A M S
stays s = record { answers = []; queries = []; after = s }

-- one run followed by another
abbrev pub run_before : {A M S R : Type 0} → Run A M S → Run A M R → Run A M R
run_before first next = record {
  answers = first.answers ++ next.answers;
  queries = first.queries ++ next.queries;
  after = next.after;
}

-- ---- call by call

-- a challenger of values T call by call: the effect of each call, and of a final digest D
pub record ByCalls (T A M D S : Type 0) : Type 0 where
  pub call : S → Call T → Run A M S
  pub digest : S → Run A M D

abbrev pub run_calls : {T A M D S : Type 0} → ByCalls T A M D S → S → List (Call T) → Run A M S
run_calls by s [] = stays s
run_calls by s (call ∷ calls) = let run = by.call s call in run_before run (run_calls by run.after calls)

-- calls followed by a digest
abbrev pub run_calls_to_digest : {T A M D S : Type 0} → ByCalls T A M D S → S → List (Call T) → Run A M D
run_calls_to_digest by s calls = let run = run_calls by s calls in run_before run (by.digest run.after)

-- ---- segment by segment

-- A challenger over segments: the effects of values observed one after another, of a number of draws,
-- of the end of a segment, and of a final digest.
pub record BySegments (T A M D S : Type 0) : Type 0 where
  pub values : S → List T → Run A M S
  pub draws : S → ℕ → Run A M S
  pub ended : S → S
  pub digest : S → Run A M D

abbrev pub run_segment : {T A M D S : Type 0} → BySegments T A M D S → S → Segment T → Run A M S
run_segment by s segment = let run = by.values s segment.values in run_before run (by.draws run.after segment.draws)

abbrev pub run_others : {T A M D S : Type 0} → BySegments T A M D S → S → List (Segment T) → Run A M S
run_others by s [] = stays s
run_others by s (segment ∷ others) =
    let run = run_segment by (by.ended s) segment in run_before run (run_others by run.after others)

abbrev pub run_segments : {T A M D S : Type 0} → BySegments T A M D S → S → Segments T → Run A M S
run_segments by s cut = let run = run_segment by s cut.first in run_before run (run_others by run.after cut.others)

-- segments followed by a digest
abbrev pub run_segments_to_digest : {T A M D S : Type 0} → BySegments T A M D S → S → Segments T → Run A M D
run_segments_to_digest by s cut = let run = run_segments by s cut in run_before run (by.digest run.after)
