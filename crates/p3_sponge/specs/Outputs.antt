-- Values drawn one after another, and the unending sequence of outputs: those of one state, those of the next state,
-- and so on.
use Rattle.std.specs.Prelude.{ℕ, zero, suc, ◌+◌, ◌-◌, ◌/◌, ◌%◌, List, [], ◌∷◌}
use Rattle.p3_challenger_core.specs.Segments.{Run, stays}

-- the results of n draws, in order, given the result of a draw and the state after it
abbrev pub drawn : {S T : Type 0} → (S → T) → (S → S) → ℕ → S → List T
drawn sampled next zero s = []
drawn sampled next (suc n) s = sampled s ∷ drawn sampled next n (next s)

-- A source of outputs: the step from a state to the next, the number of outputs of a state, and the output at a place.
-- The step is a permutation or a hash function.
pub record Outputs (C T : Type 0) : Type 0 where
  pub next : C → C
  pub row_len : ℕ
  pub output : C → ℕ → T

module _ {C T : Type 0} (o : Outputs C T) where
  -- a state after n steps
  unfoldable pub stepped : ℕ → C → C
  stepped zero state = state
  stepped (suc n) state = stepped n (o.next state)

  -- the queries of those steps: the state, the state after one step, and so on, n of them
  unfoldable pub step_queries : ℕ → C → List C
  step_queries zero state = []
  step_queries (suc n) state = state ∷ step_queries n (o.next state)

  -- The outputs of a state form a sequence: its own from the last place to the first, those of the next state, and so
  -- on.
  abbrev pub output_at : C → ℕ → T
  output_at state place = o.output (stepped (place / o.row_len) state) (o.row_len - 1 - place % o.row_len)

  -- the outputs of n draws from a place on
  unfoldable pub outputs_from : C → ℕ → ℕ → List T
  outputs_from state place zero = []
  outputs_from state place (suc n) = output_at state place ∷ outputs_from state (suc place) n

  -- a view that keeps a state and the number of outputs left
  module _ {S : Type 0} (holding : C → ℕ → S) where
    -- after the output at a place is drawn, the outputs before it in its own state are left
    abbrev pub left_after : C → ℕ → S
    left_after state place = holding (stepped (place / o.row_len) state) (o.row_len - 1 - place % o.row_len)

    -- one draw and n more, from a place on, with as many steps as the last of them needs
    abbrev pub draws_from : C → ℕ → ℕ → Run T C S
    draws_from state place n = record {
      answers = outputs_from state place (suc n);
      queries = step_queries ((place + n) / o.row_len) state;
      after = left_after state (place + n);
    }

    -- draws begin at the last output left, or at the last output of the next state if none is left
    abbrev pub run_draws : C → ℕ → ℕ → Run T C S
    run_draws state outputs_left zero = stays (holding state outputs_left)
    run_draws state outputs_left (suc n) = draws_from state (o.row_len - outputs_left) n
