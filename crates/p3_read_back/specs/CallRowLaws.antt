-- Lemmas on lists of calls in a row: their effects and the values that they observe.
use Rattle.std.proofs.Common.{◌≡◌, ℕ, zero, suc, List, [], ◌∷◌, ◌++◌, map, replicate, refl, ap, ◌∙◌, sym, append_assoc}
use Rattle.p3_challenger_core.specs.Segments.{Call, observe, observe_empty_array, draw, Run, run_before, ByCalls}
use Rattle.p3_challenger_core.specs.Segments.{run_calls}
use Rattle.p3_read_back.specs.Queries.{observed_values}

module _ {T A M D S : Type 0} (by : ByCalls T A M D S) where
  -- a call before a run of two lists
  call_before : (call rest others : Run A M S)
      → run_before call (run_before rest others) ≡ run_before (run_before call rest) others
  call_before call rest others =
      λ i. record {
        answers = sym (append_assoc call.answers rest.answers others.answers) i;
        queries = sym (append_assoc call.queries rest.queries others.queries) i;
        after = others.after;
      }

  -- calls followed by others
  pub run_calls-append : (s : S) (calls others : List (Call T))
      → run_calls by s (calls ++ others)
      ≡ (let run = run_calls by s calls in run_before run (run_calls by run.after others))
  run_calls-append s [] others = refl
  run_calls-append s (call ∷ calls) others =
      let first = by.call s call in
      let rest = run_calls by first.after calls in
      ap (run_before first) (run_calls-append first.after calls others)
      ∙ call_before first rest (run_calls by rest.after others)

-- the values that calls observe, followed by those of other calls
pub observed_values-append : {T : Type 0} (calls others : List (Call T))
    → observed_values (calls ++ others) ≡ observed_values calls ++ observed_values others
observed_values-append [] others = refl
observed_values-append (observe x ∷ calls) others = ap (λ xs. x ∷ xs) (observed_values-append calls others)
observed_values-append (observe_empty_array ∷ calls) others = observed_values-append calls others
observed_values-append (draw ∷ calls) others = observed_values-append calls others

-- observing values in a row observes these values
pub observed_values-observes : {T : Type 0} (values : List T) → observed_values (map observe values) ≡ values
observed_values-observes [] = refl
observed_values-observes (x ∷ xs) = ap (λ ys. x ∷ ys) (observed_values-observes xs)

-- draws in a row observe nothing
pub observed_values-draws : {T : Type 0} (n : ℕ) → observed_values {T = T} (replicate n draw) ≡ []
observed_values-draws zero = refl
observed_values-draws (suc n) = observed_values-draws n
