-- A multi-field challenger as contracts see it.
use Rattle.std.specs.{Prelude.{◌≡◌, ℕ, ◌<◌, ◌≤◌, ◌*◌, List, ◌++◌, take, map, replicate}, List.range_with_len}
use Rattle.p3_challenger_core.specs.{Observation.observed_all, Segments.{run_segments, run_segments_to_digest, Call}}
use Rattle.p3_challenger_core.specs.Segments.{observe, draw, segments, Run, run_calls, run_calls_to_digest}
use Rattle.p3_challenger_core.specs.Sponge.{after_steps}
use Rattle.p3_sponge.specs.{Outputs.output_at, SpongeSegments.outputs_of, SpongeCalls.SpongeRule}
use Rattle.p3_multi_field.specs.MultiFieldCalls.{multi_field_by_calls, MultiFieldSponge, scalars_rule, FieldPair}
use Rattle.p3_multi_field.specs.{MultiFieldCalls.Symbol, MultiFieldSegments.{multi_field_by_segments, absorbed_cells}}
use Rattle.p3_sponge.specs.Outputs as in_order
use Rattle.p3_sponge.specs.SpongeCalls as sponge
use Rattle.p3_multi_field.specs.MultiFieldCalls as calls

-- Bounds of a challenger's numbers. The rate is positive and below the number of cells. The order of the scalars is
-- below that of the cells. A cell packs at least one scalar and gives at least one digit. The rate packs at most
-- 255 scalars, and fewer are pending. No more outputs are left than the rate has digits, and none while a scalar is
-- pending.
pub record KeepsNumbers (width rate order greater absorb squeeze scalars outputs_left : ℕ) : Type 0 where
  pub positive : 0 < rate
  pub capacity : rate < width
  pub increasing : order < greater
  pub some_packed : 0 < absorb
  pub some_digits : 0 < squeeze
  pub count : absorb * rate ≤ 255
  pub short : scalars < absorb * rate
  pub left : outputs_left ≤ rate * squeeze
  pub none_left : 0 < scalars → outputs_left ≡ 0

-- values in order, each observed as a value of another type
abbrev pub each_observed : {S T X : Type 0} → (X → T) → (S → T → S) → S → List X → S
each_observed value_of observed s xs = observed_all (λ u x. observed u (value_of x)) s xs

-- the sponge of a challenger, and the permutation, which never changes
pub record MultiFieldState (F PF P : Type 0) : Type 0 where
  pub sponge : MultiFieldSponge F PF
  pub permutation : P

module _ {F PF P : Type 0} (pair : FieldPair F PF) (permute : P → List PF → List PF) (rate : ℕ) where
  -- the rules by which scalars are absorbed and digits drawn, given the function of each permutation
  abbrev pub rule : MultiFieldState F PF P → SpongeRule (List PF) F
  rule c = scalars_rule pair (permute c.permutation) rate

  -- each step
  abbrev pub duplexed : MultiFieldState F PF P → MultiFieldState F PF P
  duplexed c = record c { sponge = sponge.duplexed (rule c) c.sponge }

  abbrev pub scalar_observed : MultiFieldState F PF P → F → MultiFieldState F PF P
  scalar_observed c x = record c { sponge = sponge.observed (rule c) c.sponge x }

  abbrev pub digest_observed : MultiFieldState F PF P → List PF → MultiFieldState F PF P
  digest_observed c words = record c { sponge = calls.digest_observed pair (permute c.permutation) rate c.sponge words }

  abbrev pub observed : MultiFieldState F PF P → Symbol F PF → MultiFieldState F PF P
  observed c symbol = record c { sponge = calls.observed pair (permute c.permutation) rate c.sponge symbol }

  -- feeding symbols: each is observed, in order
  abbrev pub fed : MultiFieldState F PF P → List (Symbol F PF) → MultiFieldState F PF P
  fed c symbols = observed_all observed c symbols

  -- the state after scalars are observed in order
  abbrev pub scalars_observed : MultiFieldState F PF P → List F → MultiFieldState F PF P
  scalars_observed c xs = observed_all scalar_observed c xs

  abbrev pub sampled : MultiFieldState F PF P → F
  sampled c = sponge.sampled (rule c) c.sponge

  abbrev pub after_sampled : MultiFieldState F PF P → MultiFieldState F PF P
  after_sampled c = record c { sponge = sponge.after_sampled (rule c) c.sponge }

  -- the results of n draws, in order
  abbrev pub drawn : ℕ → MultiFieldState F PF P → List F
  drawn n c = in_order.drawn sampled after_sampled n c

  -- the challenger after n draws
  abbrev pub after_drawn : ℕ → MultiFieldState F PF P → MultiFieldState F PF P
  after_drawn n c = after_steps after_sampled n c

  -- the final digest
  abbrev pub finalized : MultiFieldState F PF P → List PF
  finalized c = take rate (sponge.duplexed (rule c) c.sponge).cells

  -- the effect of calls from a challenger on
  abbrev pub run : MultiFieldState F PF P → List (Call (Symbol F PF)) → Run F (List PF) (MultiFieldSponge F PF)
  run c calls = run_calls (multi_field_by_calls pair (permute c.permutation) rate) c.sponge calls

  -- the effect of calls that end in a digest
  abbrev pub run_to_digest : MultiFieldState F PF P → List (Call (Symbol F PF)) → Run F (List PF) (List PF)
  run_to_digest c calls = run_calls_to_digest (multi_field_by_calls pair (permute c.permutation) rate) c.sponge calls

  -- the effect of the segments of calls
  abbrev pub run_by_segments : MultiFieldState F PF P → List (Call (Symbol F PF)) → Run F (List PF) (MultiFieldSponge F PF)
  run_by_segments c calls =
      run_segments (multi_field_by_segments pair (permute c.permutation) rate) c.sponge (segments calls)

  abbrev pub run_by_segments_to_digest : MultiFieldState F PF P → List (Call (Symbol F PF)) → Run F (List PF) (List PF)
  run_by_segments_to_digest c calls =
      run_segments_to_digest (multi_field_by_segments pair (permute c.permutation) rate) c.sponge (segments calls)

  -- the challenger after calls
  abbrev pub after_calls : MultiFieldState F PF P → List (Call (Symbol F PF)) → MultiFieldState F PF P
  after_calls c calls = record c { sponge = (run c calls).after }

  -- the effect of a value on each challenger is that of calls
  abbrev pub ActsAsCalls : {X : Type 0} → (MultiFieldState F PF P → X → MultiFieldState F PF P) →
      (X → List (Call (Symbol F PF))) → Type 0
  ActsAsCalls {X} act calls = (c : MultiFieldState F PF P) (x : X) → act c x ≡ after_calls c (calls x)

  -- each draw after symbols gives its output, counted from the cells after all symbols are absorbed
  abbrev pub DrawsHavePlaces : MultiFieldState F PF P → List (Symbol F PF) → ℕ → Type 0
  DrawsHavePlaces c symbols n =
      let cells = absorbed_cells pair (permute c.permutation) rate c.sponge symbols in
      (run c (map observe symbols ++ replicate n draw)).answers
      ≡ map (output_at (outputs_of (rule c)) cells) (range_with_len 0 n)
