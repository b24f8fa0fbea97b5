-- The states that a multi-field challenger permutes determine the scalars that it observed, if it observed
-- only scalars.
use Rattle.std.specs.Prelude.{ℕ, List, map}
use Rattle.p3_challenger_core.specs.Segments.{Call, observe, observe_empty_array, draw, Run, run_calls}
use Rattle.p3_multi_field.specs.MultiFieldCalls.{FieldPair, Symbol, scalar, MultiFieldSponge, multi_field_by_calls}
use Rattle.p3_read_back.specs.Queries as queries

-- a call with a scalar, as a call with a symbol
abbrev pub scalar_call : {F PF : Type 0} → Call F → Call (Symbol F PF)
scalar_call (observe x) = observe (scalar x)
scalar_call observe_empty_array = observe_empty_array
scalar_call draw = draw

-- calls from one challenger on
module _ {F PF : Type 0} (pair : FieldPair F PF) (permute : List PF → List PF) (rate : ℕ)
    (s : MultiFieldSponge F PF) where
  -- the effect of calls with scalars
  abbrev pub run_scalar_calls : List (Call F) → Run F (List PF) (MultiFieldSponge F PF)
  run_scalar_calls calls = run_calls (multi_field_by_calls pair permute rate) s (map scalar_call calls)

  -- lists of such calls that permute the same states and leave the same pending scalars have observed the
  -- same scalars
  abbrev pub ReadsBack : Type 0
  ReadsBack = queries.ReadsBack run_scalar_calls (λ t. t.pending)
