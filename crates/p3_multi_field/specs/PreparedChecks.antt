-- A search whose checks all start from one prepared state: the output and the check of a candidate.
use Rattle.std.specs.Prelude.{◌≡◌, ℕ, ◌-◌, ◌%◌, ◌^◌, ◌<◌, Bool, List, [], ◌∷◌, ◌++◌, Some, slice_set}
use Rattle.p3_field_bridge.specs.Bridges.{packed, digit_of}
use Rattle.p3_challenger_core.specs.{Observation.unrefused_observe, Sampling.{Sampling, unrefused_draw}}
use Rattle.p3_sponge.specs.Cells.{cell}
use Rattle.p3_grinding.specs.Checks.{all_zero, check_of, draws_nothing}
use Rattle.p3_multi_field.specs.MultiFieldCalls.{FieldPair, Symbol, scalar}
use Rattle.p3_multi_field.specs.MultiFieldState.{MultiFieldState, scalar_observed, sampled, after_sampled}

-- cells in which a candidate changes one cell, at a place of the rate, and the scalars packed there before the
-- candidate
pub record PreparedChecks (F PF P : Type 0) : Type 0 where
  pub cells : List PF
  pub place : ℕ
  pub before : List F
  pub permutation : P

module _ {F PF P : Type 0} (pair : FieldPair F PF) (permute : P → List PF → List PF) (rate : ℕ) where
  -- the cells with a candidate, whose cell packs the earlier scalars and the candidate
  abbrev pub with_candidate : PreparedChecks F PF P → F → List PF
  with_candidate s x = slice_set s.cells s.place (packed pair.inner pair.outer pair.bits (s.before ++ x ∷ []))

  -- the output of a candidate: the last digit of the rate, after these cells are permuted
  abbrev pub given_by : PreparedChecks F PF P → F → F
  given_by s x =
      let last = cell pair.outer (permute s.permutation (with_candidate s x)) (rate - 1) in
      digit_of pair.inner pair.outer last (pair.squeeze - 1)

  -- a candidate passes: the given number of low bits of its output are 0
  abbrev pub Accepts : PreparedChecks F PF P → ℕ → F → Type 0
  Accepts s bits x = pair.inner.number (given_by s x) % 2 ^ bits ≡ 0

  -- the passing candidate with the least number
  pub record IsLeastAccepted (s : PreparedChecks F PF P) (bits : ℕ) (x : F) : Type 0 where
    pub passes : Accepts s bits x
    pub least : (n : ℕ) → n < pair.inner.number x → ¬ (Accepts s bits (pair.inner.of n))

  -- no candidate passes
  abbrev pub NoneAccepted : PreparedChecks F PF P → ℕ → Type 0
  NoneAccepted s bits = (n : ℕ) → n < pair.inner.order → ¬ (Accepts s bits (pair.inner.of n))

  -- Checks are prepared for a challenger: the output of each candidate is the challenger's draw after it observes the
  -- candidate. So a candidate passes there exactly where it passes the check of the challenger.
  abbrev pub PreparedFor : MultiFieldState F PF P → PreparedChecks F PF P → Type 0
  PreparedFor c s = (x : F) → given_by s x ≡ sampled pair permute rate (scalar_observed pair permute rate c x)

  -- a check of a scalar by a number of bits
  abbrev pub check : ℕ → F → Sampling (MultiFieldState F PF P) Bool
  check bits = check_of {Symbol = Symbol F PF} draws_nothing (unrefused_observe (λ x. scalar x ∷ []) (scalar_observed pair permute rate))
      (all_zero (unrefused_draw (λ c. Some (pair.inner.number (sampled pair permute rate c) % 2 ^ bits))
      (after_sampled pair permute rate))) bits

-- Bounds of prepared checks. The rate is positive and below the number of cells, each cell gives at least one digit,
-- and the candidate fits among the scalars of its cell.
pub record KeepsChecks (width rate squeeze within : ℕ) : Type 0 where
  pub positive : 0 < rate
  pub capacity : rate < width
  pub some_digits : 0 < squeeze
  pub few : within < 255
