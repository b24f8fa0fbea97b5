-- Laws of the symbols that steps feed, and of their draws.
use Rattle.std.proofs.Common.{◌≡◌, ℕ, zero, suc, Bool, true, false, Option, Some, None, List, [], ◌∷◌, ◌++◌, length}
use Rattle.std.proofs.Common.{refl, sym, ap, ◌∙◌, inl, inr, subst, append-nil, if◌then◌else◌, ◌⊎◌}
use Rattle.std.{proofs.Math.Seq.take-length, specs.List.flat_map}
use Rattle.p3_challenger_core.specs.SamplingLaws.{no_steps, steps-then, in_row-is_sampling, refused-in_row}
use Rattle.p3_challenger_core.specs.{Sponge.{IsFed, IsStepsOn}, ObservationLaws.{nothing-fed, in_row-is_observation}}
use Rattle.p3_challenger_core.specs.Sampling.{Sampling, IsSampling, RefusesDraw, RefusesDrawVec, in_row}
use Rattle.p3_challenger_core.specs.declared.error.ChallengerError.{ChallengerError, TheVariants.{DrawLimit, TooLong}}
use Rattle.p3_challenger_core.specs.Observation.{RefusesObserve, Observation, IsObservation, LeavesFed, LeavesAfter}
use Rattle.p3_challenger_core.specs.Observation.{LeavesInCalls}
use Rattle.p3_fs_core.specs.{Alphabet.{LeavesItems, Alphabet}, declared.error.TranscriptError.TranscriptError}
use Rattle.p3_fs_core.specs.declared.error.TranscriptError.TheVariants.{Pattern, Challenger, OutOfMemory}
use Rattle.p3_driver_core.specs.Rejecting.{Rule, Outcome, given, go_on, taken, RefusesTaken, keeps, RefusesKeeps}
use Rattle.p3_driver_core.specs.{Rejecting.drawing_rejecting, Feeding.{Feeds, OnlyDraws}, Effects.{Effect, untouched}}
use Rattle.p3_driver_core.specs.Effects.{observing, observing_list, observing_bytes, drawing, drawing_list, in_sequence}
use Rattle.p3_driver_core.specs.Transcripts.{Meaning, Transcript, PlaysStep, RefusesStep, LeavesPart}
use Rattle.p3_challenger_core.specs.Observation as observation
use Rattle.p3_challenger_core.specs.declared.error.ChallengerError.TheVariants as challenger

-- ---- steps that feed

module _ {S Symbol : Type 0} (fed : S → List Symbol → S) (fed_nothing : (s : S) → fed s [] ≡ s)
    (fed_more : (s : S) (a b : List Symbol) → fed (fed s a) b ≡ fed s (a ++ b)) where
  -- nothing is fed where nothing changes, even after a symbol
  unchanged-fed : (symbols : List Symbol) (s t : S) → t ≡ s → LeavesFed fed s symbols t
  unchanged-fed symbols s t is = (0, nothing-fed fed fed_nothing fed_more s t is)

  unchanged-after : (symbols : List Symbol) (s : S) (y : Symbol) (ys : List Symbol) (t : S) → t ≡ fed s (y ∷ ys) →
      LeavesAfter fed s (y ∷ ys) symbols t
  unchanged-after symbols s y ys t is = (0, is ∙ ap (fed s) (sym (append-nil (y ∷ ys))))

  pub untouched-feeds : {A : Type 0} (x : A) → Feeds fed (untouched {Symbol = Symbol} x)
  untouched-feeds x = record {
    feeds = λ s. nothing-fed fed fed_nothing fed_more s s refl;
    feeds_after = λ s y ys. ap (fed s) (sym (append-nil (y ∷ ys)));
    leaves = λ e s t h. absurd h;
    leaves_after = λ e s y ys t h. absurd h;
  }

  -- ---- values

  module _ {T : Type 0} (o : Observation S Symbol T) (laws : IsObservation fed o) where
    value-leaves : (x : T) (e : ChallengerError) (s t : S) → RefusesObserve (o.may_leave s x) e t →
        LeavesFed fed s (o.symbols x) t
    value-leaves x challenger.OutOfMemory s t h = laws.leaves s x t h
    value-leaves x e s t h = absurd h

    value-leaves_after : (x : T) (e : ChallengerError) (s : S) (y : Symbol) (ys : List Symbol) (t : S) →
        RefusesObserve (o.may_leave (fed s (y ∷ ys)) x) e t → LeavesAfter fed s (y ∷ ys) (o.symbols x) t
    value-leaves_after x challenger.OutOfMemory s y ys t h = laws.leaves_after s y ys x t h
    value-leaves_after x e s y ys t h = absurd h

    -- observing a value feeds its symbols
    pub observing-feeds : (x : T) → Feeds fed (observing o x)
    observing-feeds x = record {
      feeds = λ s. laws.observes s x;
      feeds_after = λ s y ys. laws.observes_after s y ys x;
      leaves = value-leaves x;
      leaves_after = value-leaves_after x;
    }

  -- observing the values of a list feeds their symbols
  pub observing_list-feeds : {T : Type 0} (o : Observation S Symbol T) → IsObservation fed o → (xs : List T) →
      Feeds fed (observing_list o xs)
  observing_list-feeds o laws xs =
      observing-feeds (observation.in_row o) (in_row-is_observation fed fed_nothing fed_more o laws) xs

  -- ---- byte strings

  module _ {I : Type 0} (a : Alphabet S Symbol I) (laws : IsObservation fed a.item)
      (slice_leaves : (s : S) (xs : List I) (t : S) → a.slice_may_leave s xs t →
      LeavesInCalls a.item.observed a.item.may_leave s xs t) (bytes : List ℕ) where
    items-leave : (s : S) (xs : List I) (t : S) → LeavesItems a.item a.slice_may_leave s xs t →
        LeavesInCalls a.item.observed a.item.may_leave s xs t
    items-leave s xs t (inl h) = slice_leaves s xs t h
    items-leave s xs t (inr h) = h

    row : IsObservation fed (observation.in_row a.item)
    row = in_row-is_observation fed fed_nothing fed_more a.item laws

    abbrev symbols_of_bytes : List Symbol
    symbols_of_bytes = flat_map a.item.symbols (a.items bytes)

    bytes-leave : (e : ChallengerError) (s t : S) → (observing_bytes a bytes).refuses e s t →
        LeavesFed fed s symbols_of_bytes t
    bytes-leave challenger.OutOfMemory s t h = row.leaves s (a.items bytes) t (items-leave s (a.items bytes) t h.1)
    bytes-leave TooLong s t h = unchanged-fed symbols_of_bytes s t h.1
    bytes-leave e s t h = absurd h

    bytes-leave_after : (e : ChallengerError) (s : S) (y : Symbol) (ys : List Symbol) (t : S) →
        (observing_bytes a bytes).refuses e (fed s (y ∷ ys)) t → LeavesAfter fed s (y ∷ ys) symbols_of_bytes t
    bytes-leave_after challenger.OutOfMemory s y ys t h =
        row.leaves_after s y ys (a.items bytes) t (items-leave (fed s (y ∷ ys)) (a.items bytes) t h.1)
    bytes-leave_after TooLong s y ys t h = unchanged-after symbols_of_bytes s y ys t h.1
    bytes-leave_after e s y ys t h = absurd h

    pub observing_bytes-feeds : Feeds fed (observing_bytes a bytes)
    observing_bytes-feeds = record {
      feeds = λ s. row.observes s (a.items bytes);
      feeds_after = λ s y ys. row.observes_after s y ys (a.items bytes);
      leaves = bytes-leave;
      leaves_after = bytes-leave_after;
    }

  -- ---- one step after another, as two calls of one observation

  module _ {A B : Type 0} (first : Effect S Symbol A) (second : Effect S Symbol B) (one : Feeds fed first)
      (other : Feeds fed second) where
    abbrev symbols_of : Bool → List Symbol
    symbols_of true = first.symbols
    symbols_of false = second.symbols

    abbrev observed_by : S → Bool → S
    observed_by s true = first.after s
    observed_by s false = second.after s

    abbrev MayLeave : S → Bool → S → Type 0
    MayLeave s true t = (e : ChallengerError) × first.refuses e s t
    MayLeave s false t = (e : ChallengerError) × second.refuses e s t

    abbrev call : Observation S Symbol Bool
    call = record { symbols = symbols_of; observed = observed_by; may_leave = MayLeave }

    call-observes : (s : S) (which : Bool) → IsFed fed s (symbols_of which) (observed_by s which)
    call-observes s true = one.feeds s
    call-observes s false = other.feeds s

    call-observes_after : (s : S) (y : Symbol) (ys : List Symbol) (which : Bool) →
        observed_by (fed s (y ∷ ys)) which ≡ fed s ((y ∷ ys) ++ symbols_of which)
    call-observes_after s y ys true = one.feeds_after s y ys
    call-observes_after s y ys false = other.feeds_after s y ys

    call-leaves : (s : S) (which : Bool) (t : S) → MayLeave s which t → LeavesFed fed s (symbols_of which) t
    call-leaves s true t h = one.leaves h.0 s t h.1
    call-leaves s false t h = other.leaves h.0 s t h.1

    call-leaves_after : (s : S) (y : Symbol) (ys : List Symbol) (which : Bool) (t : S) →
        MayLeave (fed s (y ∷ ys)) which t → LeavesAfter fed s (y ∷ ys) (symbols_of which) t
    call-leaves_after s y ys true t h = one.leaves_after h.0 s y ys t h.1
    call-leaves_after s y ys false t h = other.leaves_after h.0 s y ys t h.1

    calls-are_observation : IsObservation fed (observation.in_row call)
    calls-are_observation = in_row-is_observation fed fed_nothing fed_more call
        (record {
          observes = call-observes;
          observes_after = call-observes_after;
          leaves = call-leaves;
          leaves_after = call-leaves_after;
        })

    abbrev calls : List Bool
    calls = true ∷ false ∷ []

    same_symbols : flat_map symbols_of calls ≡ first.symbols ++ second.symbols
    same_symbols = ap (λ ys. first.symbols ++ ys) (append-nil second.symbols)

    call-refused : (e : ChallengerError) (s t : S) → (in_sequence first second).refuses e s t →
        LeavesInCalls observed_by MayLeave s calls t
    call-refused e s t (inl h) = inl (e, h)
    call-refused e s t (inr h) = inr (inl (e, h))

    pub in_sequence-feeds : Feeds fed (in_sequence first second)
    in_sequence-feeds = record {
      feeds = λ s. subst (λ a. IsFed fed s a (second.after (first.after s))) same_symbols
          (calls-are_observation.observes s calls);
      feeds_after = λ s y ys. calls-are_observation.observes_after s y ys calls
          ∙ ap (λ a. fed s ((y ∷ ys) ++ a)) same_symbols;
      leaves = λ e s t h. subst (λ a. LeavesFed fed s a t) same_symbols
          (calls-are_observation.leaves s calls t (call-refused e s t h));
      leaves_after = λ e s y ys t h. subst (λ a. LeavesAfter fed s (y ∷ ys) a t) same_symbols
          (calls-are_observation.leaves_after s y ys calls t (call-refused e (fed s (y ∷ ys)) t h));
    }

  -- ---- steps as drivers play them

  -- out of memory leaves a state to which a prefix of the symbols was fed
  pub beginning-fed : {A : Type 0} (effect : Effect S Symbol A) → Feeds fed effect → (s t : S) →
      LeavesPart effect s t → LeavesFed fed s effect.symbols t
  beginning-fed effect is s t (inl none) = unchanged-fed effect.symbols s t none
  beginning-fed effect is s t (inr (inl all)) =
      let here : IsFed fed s effect.symbols t = subst (λ u. IsFed fed s effect.symbols u) (sym all) (is.feeds s) in
      (length effect.symbols, subst (λ a. IsFed fed s a t) (sym (take-length effect.symbols)) here)
  beginning-fed effect is s t (inr (inr part)) = is.leaves challenger.OutOfMemory s t part

  module _ {A : Type 0} (m : Meaning S Symbol A) (is : Feeds fed m.effect) (before after : Transcript S) where
    -- a played step has fed its symbols
    pub played-fed : (x : A) → PlaysStep m before x after →
        IsFed fed before.challenger m.effect.symbols after.challenger
    played-fed x plays = subst (λ t. IsFed fed before.challenger m.effect.symbols t)
        (sym plays.challenger) (is.feeds before.challenger)

    -- a refused step has fed a prefix of its symbols, whatever the reason
    pub refused-fed : (e : TranscriptError) → RefusesStep m before e after →
        LeavesFed fed before.challenger m.effect.symbols after.challenger
    refused-fed (Pattern e) h = unchanged-fed m.effect.symbols before.challenger after.challenger h.challenger
    refused-fed (Challenger challenger.OutOfMemory) h = absurd h
    refused-fed (Challenger e) h = is.leaves e before.challenger after.challenger h.leaves
    refused-fed OutOfMemory h = beginning-fed m.effect is before.challenger after.challenger h.leaves
    refused-fed e h = absurd h

-- ---- steps that draw

module _ {S : Type 0} (next : S → S) where
  unchanged-steps : (s t : S) → t ≡ s → IsStepsOn next s t
  unchanged-steps s t is = (0, is)

  -- refused for memory with nothing drawn
  memory-steps : (e : ChallengerError) (s t : S) → RefusesObserve (λ u. u ≡ s) e t → IsStepsOn next s t
  memory-steps challenger.OutOfMemory s t h = unchanged-steps s t h
  memory-steps e s t h = absurd h

  module _ {T : Type 0} (d : Sampling S T) (laws : IsSampling next d) where
    draw-leaves : (e : ChallengerError) (s t : S) → RefusesDraw d e s t → IsStepsOn next s t
    draw-leaves challenger.OutOfMemory s t h = laws.leaves s t h
    draw-leaves DrawLimit s t h = subst (λ u. IsStepsOn next s u) (sym h.1) (laws.steps s)
    draw-leaves e s t h = absurd h

    -- drawing a value makes smallest draws only
    pub drawing-draws : {Symbol : Type 0} → OnlyDraws next (drawing {Symbol = Symbol} d)
    drawing-draws = record { no_symbols = refl; steps = laws.steps; leaves = draw-leaves }

  -- drawing n values makes smallest draws only
  module _ {T : Type 0} (d : Sampling S T) (laws : IsSampling next d) (n : ℕ) where
    draws-leave : (e : ChallengerError) (s t : S) → RefusesDrawVec d n e s t → IsStepsOn next s t
    draws-leave e s t (inl h) = memory-steps e s t h
    draws-leave e s t (inr h) =
        draw-leaves (in_row d n) (in_row-is_sampling next d laws n) e s t (refused-in_row next d laws n e s t h)

    pub drawing_list-draws : {Symbol : Type 0} → OnlyDraws next (drawing_list {Symbol = Symbol} d n)
    drawing_list-draws =
        record { no_symbols = refl; steps = (in_row-is_sampling next d laws n).steps; leaves = draws-leave }

  -- ---- draws that a rule may refuse

  module _ {T : Type 0} (d : Sampling S T) (laws : IsSampling next d) (rule : Rule T) where
    -- what follows a value, or a missing one
    on-steps : {A B : Type 0} (rest : A → S → Outcome S B) (gives : Option A) (s here : S) → IsStepsOn next s here →
        ((x : A) → IsStepsOn next s (rest x here).after) → IsStepsOn next s (go_on rest gives here).after
    on-steps rest None s here reached goes = reached
    on-steps rest (Some x) s here reached goes = goes x

    choose-steps : (takes : Bool) (here there : Outcome S T) (s : S) → IsStepsOn next s here.after →
        IsStepsOn next s there.after → IsStepsOn next s (if takes then here else there).after
    choose-steps true here there s reached goes = reached
    choose-steps false here there s reached goes = goes

    taken-steps : (n : ℕ) (kept : List T) (s : S) → IsStepsOn next s (taken d rule n kept s).after
    unfolding taken
    taken-steps zero kept s = no_steps next s
    taken-steps (suc more) kept s = on-steps (λ x t. if rule x kept then given x t else taken d rule more kept t)
        (d.sampled s) s (d.after s) (laws.steps s) (λ x. choose-steps
        (rule x kept) (given x (d.after s)) (taken d rule more kept (d.after s)) s (laws.steps s) (steps-then next
        s (d.after s) (taken d rule more kept (d.after s)).after (laws.steps s) (taken-steps more kept (d.after s))))

    taken-leaves : (n : ℕ) (kept : List T) (e : ChallengerError) (s t : S) → RefusesTaken d rule n kept e s t →
        IsStepsOn next s t
    unfolding RefusesTaken
    taken-leaves zero kept e s t h = unchanged-steps s t h.1
    taken-leaves (suc more) kept e s t (inl h) = draw-leaves d laws e s t h
    taken-leaves (suc more) kept e s t (inr h) =
        steps-then next s (d.after s) t (laws.steps s) (taken-leaves more kept e (d.after s) t h.3)

    keeps-steps : (limit n : ℕ) (kept : List T) (s : S) → IsStepsOn next s (keeps d rule limit n kept s).after
    unfolding keeps
    keeps-steps limit zero kept s = no_steps next s
    keeps-steps limit (suc more) kept s =
        let here = (taken d rule limit kept s).after in
        on-steps (λ x t. keeps d rule limit more (kept ++ (x ∷ [])) t) (taken d rule limit kept s).gives s here
        (taken-steps limit kept s) (λ x. steps-then next s here (keeps d rule limit more (kept ++ (x ∷ [])) here).after
        (taken-steps limit kept s) (keeps-steps limit more (kept ++ (x ∷ [])) here))

    keeps-leaves : (limit n : ℕ) (kept : List T) (e : ChallengerError) (s t : S) →
        RefusesKeeps d rule limit n kept e s t → IsStepsOn next s t
    unfolding RefusesKeeps
    keeps-leaves limit zero kept e s t h = absurd h
    keeps-leaves limit (suc more) kept e s t (inl h) = taken-leaves limit kept e s t h
    keeps-leaves limit (suc more) kept e s t (inr h) =
        let here = (taken d rule limit kept s).after in
        steps-then next s here t (taken-steps limit kept s) (keeps-leaves limit more (kept ++ (h.0 ∷ [])) e here t h.2)

    rejecting-leaves : (limit n : ℕ) (e : ChallengerError) (s t : S) →
        RefusesObserve (λ u. u ≡ s) e t ⊎ RefusesKeeps d rule limit n [] e s t → IsStepsOn next s t
    rejecting-leaves limit n e s t (inl h) = memory-steps e s t h
    rejecting-leaves limit n e s t (inr h) = keeps-leaves limit n [] e s t h

    pub drawing_rejecting-draws : {Symbol : Type 0} (limit n : ℕ) →
        OnlyDraws next (drawing_rejecting {Symbol = Symbol} d rule limit n)
    drawing_rejecting-draws limit n =
        record { no_symbols = refl; steps = keeps-steps limit n []; leaves = rejecting-leaves limit n }

  -- out of memory leaves a state after some number of smallest draws
  pub beginning-drawn : {Symbol A : Type 0} (effect : Effect S Symbol A) → OnlyDraws next effect → (s t : S) →
      LeavesPart effect s t → IsStepsOn next s t
  beginning-drawn effect is s t (inl none) = unchanged-steps s t none
  beginning-drawn effect is s t (inr (inl all)) = subst (λ u. IsStepsOn next s u) (sym all) (is.steps s)
  beginning-drawn effect is s t (inr (inr part)) = is.leaves challenger.OutOfMemory s t part

  module _ {Symbol A : Type 0} (m : Meaning S Symbol A) (is : OnlyDraws next m.effect)
      (before after : Transcript S) where
    -- a refused step has made some number of smallest draws, whatever the reason
    pub refused-drawn : (e : TranscriptError) → RefusesStep m before e after →
        IsStepsOn next before.challenger after.challenger
    refused-drawn (Pattern e) h = unchanged-steps before.challenger after.challenger h.challenger
    refused-drawn (Challenger challenger.OutOfMemory) h = absurd h
    refused-drawn (Challenger e) h = is.leaves e before.challenger after.challenger h.leaves
    refused-drawn OutOfMemory h = beginning-drawn m.effect is before.challenger after.challenger h.leaves
    refused-drawn e h = absurd h
