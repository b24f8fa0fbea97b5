-- Laws of proof of work in a step.
use Rattle.std.proofs.Common.{◌≡◌, ℕ, zero, suc, Bool, true, false, List, [], ◌++◌, length, Option, Some, None}
use Rattle.std.proofs.Common.{IsSome, is_some, option_and_then, if◌then◌else◌, refl, sym, inl, inr, subst, rules}
use Rattle.std.proofs.Math.Seq.{take-length}
use Rattle.p3_field_core.specs.Residues.{Residues}
use Rattle.p3_challenger_core.specs.{Sponge.{IsFed, IsStepsOn}, Observation.{Observation, IsObservation, LeavesFed}}
use Rattle.p3_challenger_core.specs.{ObservationLaws.nothing-fed, Sampling.{Sampling, IsSampling, RefusesDraw}}
use Rattle.p3_challenger_core.specs.{SamplingLaws.no_steps, declared.error.ChallengerError.ChallengerError}
use Rattle.p3_challenger_core.specs.declared.error.ChallengerError.TheVariants.{OutOfMemory, DrawLimit}
use Rattle.p3_grinding.specs.Checks.{all_zero, checked}
use Rattle.p3_fs_core.specs.Steps.{Step}
use Rattle.p3_driver_core.specs.Feeding.{FedAmidDraws, LeavesAmidDraws, FeedsItsWitness}
use Rattle.p3_driver_core.specs.Working.{work_of, where_passed}

-- a witness is given only where the check passes
pub where_passed-true : {W : Type 0} (x y : W) (o : Option Bool) → where_passed x o ≡ Some y → o ≡ Some true
where_passed-true x y None is = search (rules, is)
where_passed-true x y (Some true) is = refl
where_passed-true x y (Some false) is = search (rules, is)

module _ {S Symbol : Type 0} (next : S → S) (fed : S → List Symbol → S) (fed_nothing : (s : S) → fed s [] ≡ s)
    (fed_more : (s : S) (a b : List Symbol) → fed (fed s a) b ≡ fed s (a ++ b)) where
  none_fed : (symbols : List Symbol) (s : S) → LeavesFed fed s symbols s
  none_fed symbols s = (0, nothing-fed fed fed_nothing fed_more s s refl)

  all_fed : (symbols : List Symbol) (s t : S) → IsFed fed s symbols t → LeavesFed fed s symbols t
  all_fed symbols s t h = (length symbols, subst (λ a. IsFed fed s a t) (sym (take-length symbols)) h)

  -- a check that changes nothing
  untouched-amid : (s : S) → FedAmidDraws next fed s [] s
  untouched-amid s = record {
    first = s;
    last = s;
    before = no_steps next s;
    feeds = nothing-fed fed fed_nothing fed_more s s refl;
    after = no_steps next s;
  }

  module _ {W : Type 0} (draw : Sampling S (Unit {0})) (draws : IsSampling next draw) (o : Observation S Symbol W)
      (observes : IsObservation fed o) (bit_draw : Sampling S ℕ) (bits_drawn : IsSampling next bit_draw) (x : W) where
    abbrev fed_to : S → S
    fed_to s = o.observed (draw.after s) x

    whole : (s t : S) → IsStepsOn next (fed_to s) t → FedAmidDraws next fed s (o.symbols x) t
    whole s t drawn = record {
      first = draw.after s;
      last = fed_to s;
      before = draws.steps s;
      feeds = observes.observes (draw.after s) x;
      after = drawn;
    }

    front : (s t : S) → IsStepsOn next (fed_to s) t → LeavesAmidDraws next fed s (o.symbols x) t
    front s t drawn = record {
      first = draw.after s;
      last = fed_to s;
      before = draws.steps s;
      feeds = all_fed (o.symbols x) (draw.after s) (fed_to s) (observes.observes (draw.after s) x);
      after = drawn;
    }

    -- only draws were made
    drawn_alone : (s t : S) → IsStepsOn next s t → LeavesAmidDraws next fed s (o.symbols x) t
    drawn_alone s t drawn = record {
      first = t;
      last = t;
      before = drawn;
      feeds = none_fed (o.symbols x) t;
      after = no_steps next t;
    }

    after_ready : (ready : Option (Unit {0})) (r : Option Bool) (s there here : S) →
        IsSome (option_and_then (λ _. r) ready) → FedAmidDraws next fed s (o.symbols x) there →
        FedAmidDraws next fed s (o.symbols x) (if is_some ready then there else here)
    after_ready None r s there here is all = search (rules, is)
    after_ready (Some y) r s there here is all = all

    limit_after : (ready : Option (Unit {0})) (s there here : S) → LeavesAmidDraws next fed s (o.symbols x) there →
        LeavesAmidDraws next fed s (o.symbols x) here →
        LeavesAmidDraws next fed s (o.symbols x) (if is_some ready then there else here)
    limit_after None s there here fed_all alone = alone
    limit_after (Some y) s there here fed_all alone = fed_all

    checked-feeds : (s : S) → IsSome ((checked draw o (all_zero bit_draw) x).sampled s) →
        FedAmidDraws next fed s (o.symbols x) ((checked draw o (all_zero bit_draw) x).after s)
    checked-feeds s is =
        after_ready (draw.sampled s) ((all_zero bit_draw).sampled (fed_to s)) s (bit_draw.after (fed_to s))
        (draw.after s) is (whole s (bit_draw.after (fed_to s)) (bits_drawn.steps (fed_to s)))

    checked-leaves : (e : ChallengerError) (s t : S) → RefusesDraw (checked draw o (all_zero bit_draw) x) e s t →
        LeavesAmidDraws next fed s (o.symbols x) t
    checked-leaves OutOfMemory s t (inl early) = drawn_alone s t (draws.leaves s t early)
    checked-leaves OutOfMemory s t (inr (is, inl here)) = record {
      first = draw.after s;
      last = t;
      before = draws.steps s;
      feeds = observes.leaves (draw.after s) x t here;
      after = no_steps next t;
    }
    checked-leaves OutOfMemory s t (inr (is, inr late)) = front s t (bits_drawn.leaves (fed_to s) t late)
    checked-leaves DrawLimit s t h = subst (λ u. LeavesAmidDraws next fed s (o.symbols x) u)
        (sym h.1) (limit_after (draw.sampled s)
        s (bit_draw.after (fed_to s)) (draw.after s) (front s (bit_draw.after (fed_to s)) (bits_drawn.steps (fed_to s)))
        (drawn_alone s (draw.after s) (draws.steps s)))
    checked-leaves e s t h = absurd h

  module _ {W : Type 0} (draw : Sampling S (Unit {0})) (draws : IsSampling next draw) (o : Observation S Symbol W)
      (observes : IsObservation fed o) (bit_draws : ℕ → Sampling S ℕ)
      (bits_drawn : (bits : ℕ) → IsSampling next (bit_draws bits)) (step : Step) (r : Residues W) where
    free-leaves : (e : ChallengerError) (s t : S) (x : W) →
        RefusesDraw ((work_of step r draw o bit_draws 0).check x) e s t → LeavesAmidDraws next fed s [] t
    free-leaves DrawLimit s t x h = absurd h.0
    free-leaves e s t x h = absurd h

    -- work feeds its witness, with draws before and after it; work of 0 bits feeds nothing
    pub work-feeds : (bits : ℕ) (x : W) → FeedsItsWitness next fed (work_of step r draw o bit_draws bits) x
    work-feeds zero x = record { feeds = λ s is. untouched-amid s; leaves = λ e s t h. free-leaves e s t x h }
    work-feeds (suc more) x = record {
      feeds = checked-feeds draw draws o observes (bit_draws (suc more)) (bits_drawn (suc more)) x;
      leaves = checked-leaves draw draws o observes (bit_draws (suc more)) (bits_drawn (suc more)) x;
    }
