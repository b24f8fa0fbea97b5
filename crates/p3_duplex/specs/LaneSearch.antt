-- A search that tries one candidate in each lane: the output of a candidate, and the least candidate
-- that passes.
use Rattle.std.specs.Prelude.{◌≡◌, ℕ, ◌+◌, ◌-◌, ◌%◌, ◌^◌, ◌<◌, Bool, List, [], ◌∷◌, Some, slice_index_or, slice_set, min}
use Rattle.p3_field_core.specs.Residues.{Residues}
use Rattle.p3_grinding.specs.Checks.{all_zero, check_of, draws_nothing}
use Rattle.p3_duplex.specs.DuplexState.{DuplexState, observed, sampled, after_sampled}
use Rattle.p3_challenger_core.specs.{Observation.unrefused_observe, Sampling.{Sampling, unrefused_draw}}

-- the output for an element at a place of prepared cells: an output cell of the permuted cells
abbrev pub given_by : {F : Type 0} → Residues F → (List F → List F) → List F → ℕ → ℕ → F → F
given_by r permute cells place output x = slice_index_or (permute (slice_set cells place x)) output (r.of 0)

-- the given number of low bits of an element are 0
abbrev pub HasZeros : {F : Type 0} → Residues F → ℕ → F → Type 0
HasZeros r bits x = r.number x % 2 ^ bits ≡ 0

-- the number of the candidate in a lane, counted from a first one; past the order it is the last one
-- again
abbrev pub candidate : ℕ → ℕ → ℕ → ℕ
candidate order first lane = first + min lane (order - 1 - first)

-- the least element that passes
pub record IsLeastOf {F : Type 0} (r : Residues F) (Passes : F → Type 0) (x : F) : Type 0 where
  pub passes : Passes x
  pub least : (n : ℕ) → n < r.number x → ¬ (Passes (r.of n))

-- no element passes
abbrev pub NoneOfAll : {F : Type 0} → Residues F → (F → Type 0) → Type 0
NoneOfAll r Passes = (n : ℕ) → n < r.order → ¬ (Passes (r.of n))

-- the first lane that passes, of those given
pub record IsFirstLane (width : ℕ) (Passes : ℕ → Type 0) (lane : ℕ) : Type 0 where
  pub below : lane < width
  pub passes : Passes lane
  pub first : (k : ℕ) → k < lane → ¬ (Passes k)

-- an element passes at a place of prepared cells
abbrev pub PassesAt : {F : Type 0} → Residues F → (List F → List F) → List F → ℕ → ℕ → ℕ → F → Type 0
PassesAt r permute cells place output bits x = HasZeros r bits (given_by r permute cells place output x)

-- the value in a lane passes
abbrev pub LanePasses : {F V : Type 0} → Residues F → (ℕ → V → F) → ℕ → V → ℕ → Type 0
LanePasses r in_lane bits given lane = HasZeros r bits (in_lane lane given)

-- an element passes on a challenger: the low bits of the draw after its observation are 0
abbrev pub PassesCheck : {F P : Type 0} → Residues F → (P → List F → List F) → ℕ → ℕ → DuplexState F P → F → Type 0
PassesCheck r permute rate bits c x = HasZeros r bits (sampled r permute rate (observed r permute rate c x))

-- a check of an element by a number of bits
abbrev pub check : {F P : Type 0} → Residues F → (P → List F → List F) → ℕ → ℕ → F → Sampling (DuplexState F P) Bool
check r permute rate bits = check_of draws_nothing (unrefused_observe (λ x. x ∷ []) (observed r permute rate))
    (all_zero (unrefused_draw (λ s. Some (r.number (sampled r permute rate s) % 2 ^ bits)) (after_sampled r permute rate))) bits
