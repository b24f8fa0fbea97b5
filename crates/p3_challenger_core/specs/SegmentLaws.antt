-- Laws of segments. A list of calls has one cut, and its calls do one by one what its segments do. The
-- premise is that each step of a segment does what one call does.
use Rattle.std.{specs.List.All, proofs.lemmas.List.Elements.{All-cons, All-head, All-tail, All-nil}}
use Rattle.std.proofs.Common.{append_assoc, append-nil, replicate, arith, zero, List, ◌++◌, refl, ◌≡◌, suc, ◌<◌, ◌∷◌}
use Rattle.std.proofs.Common.{inl, inr, map, sym, ◌∙◌, [], ap, ℕ}
use Rattle.p3_challenger_core.specs.{Sponge.IsNonEmpty, Segments.{Call, observe, observe_empty_array, draw, Segment}}
use Rattle.p3_challenger_core.specs.Segments.{nothing, value_before, draw_before, segments, calls_of, AreCutInto}
use Rattle.p3_challenger_core.specs.Segments.{IsCutOf, Run, stays, run_before, ByCalls, run_calls, run_calls_to_digest}
use Rattle.p3_challenger_core.specs.Segments.{BySegments, run_segment, run_others, run_segments, run_segments_to_digest}

-- ---- the cut of a list of calls is one

-- a value before a cut
cut-value : {T : Type 0} (x : T) (calls : List (Call T)) (first : Segment T) (others : List (Segment T))
    → AreCutInto first others calls → AreCutInto (record { values = x ∷ first.values; draws = first.draws }) others
    (observe x ∷ calls)
cut-value x calls first [] h = ap (λ c. observe x ∷ c) h
cut-value x calls first (next ∷ others) h = (
  h.0,
  elim h.1 [
    | inl array ↦ inl (ap (λ c. observe x ∷ c) array)
    | inr none ↦ inr (ap (λ c. observe x ∷ c) none.0, none.1, none.2)
  ],
  h.2,
)

-- a draw before calls whose first segment observes nothing
cut-draw_only : {T : Type 0} (calls : List (Call T)) (draws : ℕ) (others : List (Segment T))
    → AreCutInto (record { values = []; draws = draws }) others calls
    → AreCutInto (record { values = []; draws = suc draws }) others (draw ∷ calls)
cut-draw_only calls draws [] h = ap (λ c. draw ∷ c) h
cut-draw_only calls draws (next ∷ others) h = (
  h.0,
  elim h.1 [
    | inl array ↦ inl (ap (λ c. draw ∷ c) array)
    | inr none ↦ inr (ap (λ c. draw ∷ c) none.0, omega arith, none.2)
  ],
  h.2,
)

cut-draw : {T : Type 0} (calls : List (Call T)) (values : List T) (draws : ℕ) (others : List (Segment T))
    → AreCutInto (record { values = values; draws = draws }) others calls
    → IsCutOf (draw ∷ calls) (draw_before (record { values = values; draws = draws }) others values)
cut-draw calls [] draws others h = cut-draw_only calls draws others h
cut-draw calls (x ∷ xs) draws others h = (calls, inr (refl, omega arith, tt), h)

pub segments-cut : {T : Type 0} (calls : List (Call T)) → IsCutOf calls (segments calls)
segments-cut [] = refl
segments-cut (observe x ∷ calls) = cut-value x calls (segments calls).first (segments calls).others (segments-cut calls)
segments-cut (observe_empty_array ∷ calls) = (calls, inl refl, segments-cut calls)
segments-cut (draw ∷ calls) =
    let first = (segments calls).first in
    cut-draw calls first.values first.draws (segments calls).others (segments-cut calls)

-- the cut of values before calls whose first segment observes nothing
values-segments : {T : Type 0} (values : List T) (draws : ℕ) (others : List (Segment T)) (calls : List (Call T))
    → segments calls ≡ record { first = record { values = []; draws = draws }; others = others }
    → segments (map observe values ++ calls)
    ≡ record { first = record { values = values; draws = draws }; others = others }
values-segments [] draws others calls h = h
values-segments (x ∷ xs) draws others calls h = ap (value_before x) (values-segments xs draws others calls h)

-- the cut of draws before calls whose first segment observes nothing
draws-segments : {T : Type 0} (n : ℕ) (others : List (Segment T)) (calls : List (Call T))
    → segments calls ≡ record { first = nothing; others = others }
    → segments (replicate n draw ++ calls) ≡ record { first = record { values = []; draws = n }; others = others }
draws-segments zero others calls h = h
draws-segments (suc n) others calls h =
    ap (λ cut. draw_before cut.first cut.others cut.first.values) (draws-segments n others calls h)

-- draws before a segment that observes something end a segment of their own
draws-segments_ended : {T : Type 0} (n : ℕ) (values : List T) (draws : ℕ) (others : List (Segment T))
    (calls : List (Call T)) → IsNonEmpty values
    → segments calls ≡ record { first = record { values = values; draws = draws }; others = others }
    → segments (replicate (suc n) draw ++ calls)
    ≡ record {
      first = record { values = []; draws = suc n };
      others = record { values = values; draws = draws } ∷ others;
    }
draws-segments_ended n [] draws others calls some h = absurd some
draws-segments_ended zero (x ∷ xs) draws others calls some h =
    ap (λ cut. draw_before cut.first cut.others cut.first.values) h
draws-segments_ended (suc n) (x ∷ xs) draws others calls some h =
    ap (λ cut. draw_before cut.first cut.others cut.first.values)
    (draws-segments_ended n (x ∷ xs) draws others calls some h)

-- the calls of a segment and more, value by value and draw by draw
calls_of-more : {T : Type 0} (segment : Segment T) (others : List (Segment T)) (calls : List (Call T))
    → segments (replicate segment.draws draw ++ calls)
    ≡ record { first = record { values = []; draws = segment.draws }; others = others }
    → segments (calls_of segment ++ calls) ≡ record { first = segment; others = others }
calls_of-more segment others calls h =
    ap segments (append_assoc (map observe segment.values) (replicate segment.draws draw) calls)
    ∙ values-segments segment.values segment.draws others (replicate segment.draws draw ++ calls) h

ended-by_draw : {T : Type 0} (values : List T) (draws : ℕ) (next : Segment T) (others : List (Segment T))
    (rest : List (Call T)) → 0 < draws → IsNonEmpty next.values
    → segments rest ≡ record { first = next; others = others }
    → segments (calls_of (record { values = values; draws = draws }) ++ rest)
    ≡ record { first = record { values = values; draws = draws }; others = next ∷ others }
ended-by_draw values zero next others rest draws some h = absurd (omega arith)
ended-by_draw values (suc n) next others rest draws some h =
    calls_of-more (record { values = values; draws = suc n }) (next ∷ others) rest
    (draws-segments_ended n next.values next.draws others rest some h)

-- every cut of calls is the computed one
pub cut-only : {T : Type 0} (calls : List (Call T)) (first : Segment T) (others : List (Segment T))
    → AreCutInto first others calls → record { first = first; others = others } ≡ segments calls
cut-only calls first [] h =
    sym (ap segments (h ∙ sym (append-nil (calls_of first)))
    ∙ calls_of-more first [] [] (draws-segments first.draws [] [] refl))
cut-only calls first (next ∷ others) h =
    let following = sym (cut-only h.0 next others h.2) in
    elim h.1 [
      | inl array ↦ sym (ap segments array
          ∙ calls_of-more first (next ∷ others) (observe_empty_array ∷ h.0)
          (draws-segments first.draws (next ∷ others) (observe_empty_array ∷ h.0)
          (ap (λ cut. record { first = nothing; others = cut.first ∷ cut.others }) following)))
      | inr none ↦ sym (ap segments none.0
          ∙ ended-by_draw first.values first.draws next others h.0 none.1 none.2 following)
    ]

-- ---- runs

module _ {A M S R : Type 0} where
  run_before-assoc : {U : Type 0} (a : Run A M U) (b : Run A M S) (c : Run A M R)
      → run_before (run_before a b) c ≡ run_before a (run_before b c)
  run_before-assoc a b c =
      λ i. record {
        answers = append_assoc a.answers b.answers c.answers i;
        queries = append_assoc a.queries b.queries c.queries i;
        after = c.after;
      }

run_before-stays : {A M S : Type 0} (a : Run A M S) → run_before a (stays a.after) ≡ a
run_before-stays a = λ i. record { answers = append-nil a.answers i; queries = append-nil a.queries i; after = a.after }

-- Each step of a segment does what one call does, in states with this invariant.
pub record StepsAgree {T A M D S : Type 0} (Keeps : S → Type 0) (calls : ByCalls T A M D S)
    (over : BySegments T A M D S) : Type 0 where
  pub no_values : (s : S) → over.values s [] ≡ stays s
  pub next_value : (s : S) → Keeps s → (x : T) (xs : List T)
      → over.values s (x ∷ xs) ≡ (let run = calls.call s (observe x) in run_before run (over.values run.after xs))
  pub no_draws : (s : S) → over.draws s 0 ≡ stays s
  pub next_draw : (s : S) → Keeps s → (n : ℕ)
      → over.draws s (suc n) ≡ (let run = calls.call s draw in run_before run (over.draws run.after n))
  pub empty_array : (s : S) → calls.call s observe_empty_array ≡ stays (over.ended s)
  pub ended_values : (s : S) (x : T) (xs : List T) → over.values (over.ended s) (x ∷ xs) ≡ over.values s (x ∷ xs)
  pub digest : (s : S) → calls.digest s ≡ over.digest s
  pub keeps : (s : S) → Keeps s → (call : Call T) → Keeps (calls.call s call).after

module _ {T A M D S : Type 0} (Keeps : S → Type 0) (by : ByCalls T A M D S) (over : BySegments T A M D S)
    (agree : StepsAgree Keeps by over) where
  -- a segment that does nothing
  nothing-run : (s : S) → run_segment over s nothing ≡ stays s
  nothing-run s = ap (λ run. run_before run (over.draws run.after 0)) (agree.no_values s) ∙ agree.no_draws s

  -- a segment that only draws
  draws-run : (s : S) (n : ℕ) → run_segment over s (record { values = []; draws = n }) ≡ over.draws s n
  draws-run s n = ap (λ run. run_before run (over.draws run.after n)) (agree.no_values s)

  -- one more value
  value-run : (s : S) → Keeps s → (x : T) (xs : List T) (n : ℕ)
      → run_segment over s (record { values = x ∷ xs; draws = n })
      ≡ (let run = by.call s (observe x) in run_before run
      (run_segment over run.after (record { values = xs; draws = n })))
  value-run s keeps x xs n =
      let run = by.call s (observe x) in
      let values = over.values run.after xs in
      ap (λ r. run_before r (over.draws r.after n)) (agree.next_value s keeps x xs)
      ∙ run_before-assoc run values (over.draws values.after n)

  -- one more draw
  draw-run : (s : S) → Keeps s → (n : ℕ)
      → run_segment over s (record { values = []; draws = suc n })
      ≡ (let run = by.call s draw in run_before run (run_segment over run.after (record { values = []; draws = n })))
  draw-run s keeps n =
      let run = by.call s draw in
      draws-run s (suc n) ∙ agree.next_draw s keeps n ∙ ap (run_before run) (sym (draws-run run.after n))

  one_draw-run : (s : S) → Keeps s → run_segment over s (record { values = []; draws = 1 }) ≡ by.call s draw
  one_draw-run s keeps =
      let run = by.call s draw in
      draw-run s keeps 0 ∙ ap (run_before run) (nothing-run run.after) ∙ run_before-stays run

  -- a segment that observes something does so at its beginning as in its middle
  ended-run : (s : S) (x : T) (xs : List T) (n : ℕ)
      → run_segment over (over.ended s) (record { values = x ∷ xs; draws = n }) ≡ run_segment over s
      (record { values = x ∷ xs; draws = n })
  ended-run s x xs n = ap (λ run. run_before run (over.draws run.after n)) (agree.ended_values s x xs)

  -- a step before a segment and those after it
  step-first : (step run : Run A M S) (others : List (Segment T))
      → run_before step (run_before run (run_others over run.after others))
      ≡ (let both = run_before step run in run_before both (run_others over both.after others))
  step-first step run others = sym (run_before-assoc step run (run_others over run.after others))

  draw-first : (s : S) → Keeps s → (values : List T) (n : ℕ) (others : List (Segment T))
      → (let run = by.call s draw in run_before run
      (run_segments over run.after (record { first = record { values = values; draws = n }; others = others })))
      ≡ run_segments over s (draw_before (record { values = values; draws = n }) others values)
  draw-first s keeps [] n others =
      let run = by.call s draw in
      step-first run (run_segment over run.after (record { values = []; draws = n })) others
      ∙ sym (ap (λ r. run_before r (run_others over r.after others)) (draw-run s keeps n))
  draw-first s keeps (x ∷ xs) n others =
      let run = by.call s draw in
      sym (ap (λ r. run_before r (run_others over r.after (record { values = x ∷ xs; draws = n } ∷ others)))
      (one_draw-run s keeps)
      ∙ ap (λ r. run_before run (run_before r (run_others over r.after others))) (ended-run run.after x xs n))

  -- the calls one by one do what their segments do
  pub run_calls-segments : (s : S) → Keeps s → (calls : List (Call T))
      → run_calls by s calls ≡ run_segments over s (segments calls)
  run_calls-segments s keeps [] = sym (ap (λ run. run_before run (stays run.after)) (nothing-run s))
  run_calls-segments s keeps (observe x ∷ calls) =
      let run = by.call s (observe x) in
      let cut = segments calls in
      ap (run_before run) (run_calls-segments run.after (agree.keeps s keeps (observe x)) calls)
      ∙ step-first run (run_segment over run.after cut.first) cut.others
      ∙ sym (ap (λ r. run_before r (run_others over r.after cut.others))
      (value-run s keeps x cut.first.values cut.first.draws))
  run_calls-segments s keeps (observe_empty_array ∷ calls) =
      let run = by.call s observe_empty_array in
      let cut = segments calls in
      ap (run_before run) (run_calls-segments run.after (agree.keeps s keeps observe_empty_array) calls)
      ∙ ap (λ r. run_before r (run_segments over r.after cut)) (agree.empty_array s)
      ∙ sym (ap (λ r. run_before r (run_others over r.after (cut.first ∷ cut.others))) (nothing-run s))
  run_calls-segments s keeps (draw ∷ calls) =
      let run = by.call s draw in
      let cut = segments calls in
      ap (run_before run) (run_calls-segments run.after (agree.keeps s keeps draw) calls)
      ∙ draw-first s keeps cut.first.values cut.first.draws cut.others

  -- calls before a digest do what their segments do
  pub run_calls-segments_to_digest : (s : S) → Keeps s → (calls : List (Call T))
      → run_calls_to_digest by s calls ≡ run_segments_to_digest over s (segments calls)
  run_calls-segments_to_digest s keeps calls =
      let run = run_segments over s (segments calls) in
      ap (λ r. run_before r (by.digest r.after)) (run_calls-segments s keeps calls)
      ∙ ap (run_before run) (agree.digest run.after)

-- ---- the queries are all that matters

all-first : {X : Type 0} (P : X → Type 0) (xs ys : List X) → All P (xs ++ ys) → All P xs
all-first P [] ys h = All-nil P
all-first P (x ∷ xs) ys h = All-cons P x xs (All-head P x (xs ++ ys) h) (all-first P xs ys (All-tail P x (xs ++ ys) h))

all-second : {X : Type 0} (P : X → Type 0) (xs ys : List X) → All P (xs ++ ys) → All P ys
all-second P [] ys h = h
all-second P (x ∷ xs) ys h = all-second P xs ys (All-tail P x (xs ++ ys) h)

-- one challenger, and another that does the same wherever P holds of all queries of the first
module _ {T A M D S : Type 0} (P : M → Type 0) (by other : ByCalls T A M D S)
    (same_call : (s : S) (call : Call T) → All P (by.call s call).queries → other.call s call ≡ by.call s call)
    (same_digest : (s : S) → All P (by.digest s).queries → other.digest s ≡ by.digest s) where
  pub run_calls-same : (s : S) (calls : List (Call T)) → All P (run_calls by s calls).queries
      → run_calls other s calls ≡ run_calls by s calls
  run_calls-same s [] h = refl
  run_calls-same s (call ∷ calls) h =
      let run = by.call s call in
      let rest = run_calls by run.after calls in
      ap (λ r. run_before r (run_calls other r.after calls)) (same_call s call (all-first P run.queries rest.queries h))
      ∙ ap (run_before run) (run_calls-same run.after calls (all-second P run.queries rest.queries h))

  pub run_calls_to_digest-same : (s : S) (calls : List (Call T)) → All P (run_calls_to_digest by s calls).queries
      → run_calls_to_digest other s calls ≡ run_calls_to_digest by s calls
  run_calls_to_digest-same s calls h =
      let run = run_calls by s calls in
      let last = (by.digest run.after).queries in
      ap (λ r. run_before r (other.digest r.after)) (run_calls-same s calls (all-first P run.queries last h))
      ∙ ap (run_before run) (same_digest run.after (all-second P run.queries last h))

-- ---- one challenger, and another that does the same in each state that the first reaches

module _ {T A M D S : Type 0} (Keeps : S → Type 0) (by other : ByCalls T A M D S)
    (same_call : (s : S) → Keeps s → (call : Call T) → other.call s call ≡ by.call s call)
    (keeps : (s : S) → Keeps s → (call : Call T) → Keeps (by.call s call).after) where
  pub run_calls-alike : (s : S) → Keeps s → (calls : List (Call T)) → run_calls other s calls ≡ run_calls by s calls
  run_calls-alike s kept [] = refl
  run_calls-alike s kept (call ∷ calls) =
      let run = by.call s call in
      ap (λ r. run_before r (run_calls other r.after calls)) (same_call s kept call)
      ∙ ap (run_before run) (run_calls-alike run.after (keeps s kept call) calls)
