-- Promises of calls that challengers over a sponge make.
use Rattle.std.specs.{Prelude.{◌≡◌, ℕ, List}, List.All}
use Rattle.p3_challenger_core.specs.{Observation.{Observation, LeavesInCalls, RefusesObserve}, Segments.Run}
use Rattle.p3_challenger_core.specs.{Sampling.{Sampling, RefusesDraws}, declared.error.ChallengerError.ChallengerError}

-- a permutation or hash function with the same results on all queries of a run makes the same run
abbrev pub QueriesDecide : {A M S : Type 0} → (M → M) → ((M → M) → Run A M S) → Type 0
QueriesDecide {A} {M} {S} step run_under = (other : M → M) →
    All (λ query. other query ≡ step query) (run_under step).queries → run_under other ≡ run_under step

-- no list of values, observed one after another, leaves any state with an error
abbrev pub IsNeverRefused : {S Symbol X : Type 0} → Observation S Symbol X → Type 0
IsNeverRefused {S} {Symbol} {X} o = (values : List X) (e : ChallengerError) (s t : S) →
    ¬ (RefusesObserve (LeavesInCalls o.observed o.may_leave s values) e t)

-- no number of draws in a row leaves any state with an error
abbrev pub IsUnrefusedDraw : {S T : Type 0} → Sampling S T → Type 0
IsUnrefusedDraw {S} d = (n : ℕ) (e : ChallengerError) (s t : S) → ¬ (RefusesDraws d n e s t)
