-- A duplex challenger as contracts see it.
use Rattle.std.specs.Prelude.{◌≡◌, ℕ, ◌<◌, ◌≤◌, List, take, map}
use Rattle.p3_field_core.specs.Residues.{Residues}
use Rattle.p3_challenger_core.specs.{Observation.{Observation, observed_all}, Segments.{Call, observe, Segments, Run}}
use Rattle.p3_challenger_core.specs.Segments.{run_calls, run_calls_to_digest, run_segments, run_segments_to_digest}
use Rattle.p3_challenger_core.specs.Sponge.{after_steps}
use Rattle.p3_sponge.specs.SpongeCalls.{SpongeRule}
use Rattle.p3_duplex.specs.DuplexCalls.{DuplexSponge, DuplexRun, duplex, duplex_by_calls}
use Rattle.p3_duplex.specs.DuplexSegments.{duplex_by_segments}
use Rattle.p3_sponge.specs.Outputs as drawing
use Rattle.p3_sponge.specs.SpongeCalls as calls

-- Bounds of a challenger's numbers. The rate is positive, below the number of cells and below 256.
-- Fewer values are pending than the rate has cells. No more outputs are left than that, and none while
-- a value is pending. The draw limit is at least 1.
pub record KeepsRate (width rate inputs outputs_left draw_limit : ℕ) : Type 0 where
  pub positive : 0 < rate
  pub capacity : rate < width
  pub count : rate ≤ 255
  pub short : inputs < rate
  pub left : outputs_left ≤ rate
  pub none_left : 0 < inputs → outputs_left ≡ 0
  pub draws : 1 ≤ draw_limit

-- the sponge of a challenger, with the permutation and the draw limit, which never change
pub record DuplexState (F P : Type 0) : Type 0 where
  pub sponge : DuplexSponge F
  pub permutation : P
  pub draw_limit : ℕ

-- Each step, given the function of each permutation.
module _ {F P : Type 0} (r : Residues F) (permute : P → List F → List F) (rate : ℕ) where
  -- the rules of the sponge
  abbrev pub rule_of : DuplexState F P → SpongeRule (List F) F
  rule_of c = duplex r (permute c.permutation) rate

  abbrev pub duplexed : DuplexState F P → DuplexState F P
  duplexed c = record c { sponge = calls.duplexed (rule_of c) c.sponge }

  abbrev pub observed : DuplexState F P → F → DuplexState F P
  observed c x = record c { sponge = calls.observed (rule_of c) c.sponge x }

  -- feeding a list: each value is observed, in order
  abbrev pub fed : DuplexState F P → List F → DuplexState F P
  fed c xs = observed_all observed c xs

  -- feeding a list of parts: the values of each part, in order
  abbrev pub fed_parts : {X : Type 0} → (X → List F) → DuplexState F P → List X → DuplexState F P
  fed_parts items c parts = observed_all (λ u part. fed u (items part)) c parts

  abbrev pub sampled : DuplexState F P → F
  sampled c = calls.sampled (rule_of c) c.sponge

  abbrev pub after_sampled : DuplexState F P → DuplexState F P
  after_sampled c = record c { sponge = calls.after_sampled (rule_of c) c.sponge }

  -- the results of n draws, in order
  abbrev pub drawn : ℕ → DuplexState F P → List F
  drawn n c = drawing.drawn sampled after_sampled n c

  -- the challenger after n draws
  abbrev pub after_drawn : ℕ → DuplexState F P → DuplexState F P
  after_drawn n c = after_steps after_sampled n c

  -- the rate after one more step
  abbrev pub digest : DuplexState F P → List F
  digest c = take rate (duplexed c).sponge.cells

  -- the effect of calls from a challenger on
  abbrev pub run : DuplexState F P → List (Call F) → DuplexRun F
  run c calls = run_calls (duplex_by_calls r (permute c.permutation) rate) c.sponge calls

  -- the challenger after calls
  abbrev pub after_calls : DuplexState F P → List (Call F) → DuplexState F P
  after_calls c calls = record c { sponge = (run c calls).after }

  -- calls that end in a digest
  abbrev pub run_to_digest : DuplexState F P → List (Call F) → Run F (List F) (List F)
  run_to_digest c calls = run_calls_to_digest (duplex_by_calls r (permute c.permutation) rate) c.sponge calls

  -- the effect of segments of calls, and of segments that end in a digest
  abbrev pub segments_run : DuplexState F P → Segments F → DuplexRun F
  segments_run c cut = run_segments (duplex_by_segments r (permute c.permutation) rate) c.sponge cut

  abbrev pub segments_run_to_digest : DuplexState F P → Segments F → Run F (List F) (List F)
  segments_run_to_digest c cut = run_segments_to_digest (duplex_by_segments r (permute c.permutation) rate) c.sponge cut

  -- each value of an observation is observed, in order
  abbrev pub ObservesEach : {X : Type 0} → Observation (DuplexState F P) F X → (X → List F) → Type 0
  ObservesEach {X} o values = (c : DuplexState F P) (x : X) → o.observed c x ≡ after_calls c (map observe (values x))
