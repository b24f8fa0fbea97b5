-- Laws of a serializing challenger: its effects are those of its inner challenger.
use Rattle.std.proofs.Common.{◌≡◌, ℕ, zero, suc, ◌<◌, ◌%◌, ◌^◌, List, [], ◌++◌, take, nat_lt, refl, sym, ap, ◌∙◌}
use Rattle.std.{proofs.Common.{Option, Some, None}, specs.{Prelude.{Result, Ok, Err}, Option.option_map}}
use Rattle.p3_field_core.specs.Residues.{Residues}
use Rattle.p3_challenger_core.specs.Sampling.{Sampling, IsSampling, RefusesDraw, DrawsOrRefuses, RefusesDraws, made_of}
use Rattle.p3_challenger_core.specs.Observation.{Observation, IsObservation, LeavesInCalls, in_slice, observed_as}
use Rattle.p3_challenger_core.specs.{Sponge.{IsFed, IsStepsOn, after_steps}, ObservationLaws.in_slice-is_observation}
use Rattle.p3_challenger_core.specs.ObservationLaws.{in_row-is_observation, observed_as-is_observation}
use Rattle.p3_challenger_core.specs.SamplingLaws.{in_row-is_sampling, made_of-is_sampling, refused-in_row}
use Rattle.p3_challenger_core.specs.{BitLaws.low_bits-below, declared.error.ChallengerError.ChallengerError}
use Rattle.p3_challenger_core.specs.declared.error.ChallengerError.TheVariants.{OutOfMemory, DrawLimit}
use Rattle.p3_serializing.specs.SerializingState.{space_element_drawn, low_bits_of_group, element_of_groups}
use Rattle.p3_serializing.specs.SerializingState.{SerializingState, element_observed, number_observed, bytes_observed}
use Rattle.p3_serializing.specs.SerializingState.{words_observed, element_drawn, bits_of_order, byte_dropped}
use Rattle.p3_serializing.specs.SerializingState.{under_limit, bits_drawn, passed_on, stepped, group, fed}
use Rattle.p3_serializing.specs.Bytes.{number_of, bytes_of}
use Rattle.p3_grinding.specs.{Candidates.accepted_of, CandidateLaws.accepted_of-is_sampling}
use Rattle.p3_challenger_core.specs.Observation as observation
use Rattle.p3_challenger_core.specs.Sampling as sampling

-- ---- observations feed their symbols

module _ {I Symbol : Type 0} (inner_fed : I → List Symbol → I) where
  passed_on-fed : (s : SerializingState I) (symbols : List Symbol) (t : SerializingState I)
      → t.draw_limit ≡ s.draw_limit → IsFed inner_fed s.inner symbols t.inner → IsFed (fed inner_fed) s symbols t
  passed_on-fed s symbols t limit inside =
      record {
        exactly = λ some i. record { inner = inside.exactly some i; draw_limit = limit i };
        traceless = λ y ys i. record { inner = inside.traceless y ys i; draw_limit = limit i };
      }

  pub passed_on-is_observation : {T : Type 0} (o : Observation I Symbol T) → IsObservation inner_fed o
      → IsObservation (fed inner_fed) (passed_on o)
  passed_on-is_observation o laws =
      record {
        observes = λ s x.
            passed_on-fed s (o.symbols x) (stepped (λ i. o.observed i x) s) refl (laws.observes s.inner x);
        observes_after = λ s y ys x.
            ap (λ i. record { inner = i; draw_limit = s.draw_limit }) (laws.observes_after s.inner y ys x);
        leaves = λ s x t h.
            let left = laws.leaves s.inner x t.inner h.0 in
            (left.0, passed_on-fed s (take left.0 (o.symbols x)) t h.1 left.1);
        leaves_after = λ s y ys x t h.
            let left = laws.leaves_after s.inner y ys x t.inner h.0 in
            (left.0, λ i. record { inner = left.1 i; draw_limit = h.1 i });
      }

  module _ (fed_nothing : (s : I) → inner_fed s [] ≡ s)
      (fed_more : (s : I) (a b : List Symbol) → inner_fed (inner_fed s a) b ≡ inner_fed s (a ++ b)) where
    pub nothing-fed : (s : SerializingState I) → fed inner_fed s [] ≡ s
    nothing-fed s = ap (λ i. record { inner = i; draw_limit = s.draw_limit }) (fed_nothing s.inner)

    pub more-fed : (s : SerializingState I) (a b : List Symbol)
        → fed inner_fed (fed inner_fed s a) b ≡ fed inner_fed s (a ++ b)
    more-fed s a b = ap (λ i. record { inner = i; draw_limit = s.draw_limit }) (fed_more s.inner a b)

    pub row-observed : {T : Type 0} (o : Observation (SerializingState I) Symbol T) → IsObservation (fed inner_fed) o
        → IsObservation (fed inner_fed) (observation.in_row o)
    row-observed o laws = in_row-is_observation (fed inner_fed) nothing-fed more-fed o laws

    pub as-observed : {T U : Type 0} (f : U → T) (o : Observation (SerializingState I) Symbol T)
        → IsObservation (fed inner_fed) o → IsObservation (fed inner_fed) (observed_as f o)
    as-observed f o laws = observed_as-is_observation (fed inner_fed) nothing-fed more-fed o laws f

    -- an observation of values that are lists in another way
    pub rows-observed_as : {T U : Type 0} (f : U → List T) (o : Observation (SerializingState I) Symbol T)
        → IsObservation (fed inner_fed) o → IsObservation (fed inner_fed) (observed_as f (observation.in_row o))
    rows-observed_as f o laws = as-observed f (observation.in_row o) (row-observed o laws)

    module _ (o : Observation I Symbol ℕ) (slice_may_leave : I → List ℕ → I → Type 0) (laws : IsObservation inner_fed o)
        (slice_leaves : (s : I) (xs : List ℕ) (t : I) → slice_may_leave s xs t →
        LeavesInCalls o.observed o.may_leave s xs t) where
      pub bytes-observed : IsObservation (fed inner_fed) (bytes_observed o slice_may_leave)
      bytes-observed =
          passed_on-is_observation (in_slice o slice_may_leave)
          (in_slice-is_observation inner_fed fed_nothing fed_more o laws slice_may_leave slice_leaves)

      pub number-observed : (n : ℕ) → IsObservation (fed inner_fed) (number_observed o slice_may_leave n)
      number-observed n = as-observed (bytes_of n) (bytes_observed o slice_may_leave) bytes-observed

      pub element-observed : {F : Type 0} (r : Residues F) (n : ℕ)
          → IsObservation (fed inner_fed) (element_observed o slice_may_leave r n)
      element-observed r n = as-observed r.number (number_observed o slice_may_leave n) (number-observed n)

      pub elements-observed : {F : Type 0} (r : Residues F) (n : ℕ)
          → IsObservation (fed inner_fed) (observation.in_row (element_observed o slice_may_leave r n))
      elements-observed r n = row-observed (element_observed o slice_may_leave r n) (element-observed r n)

      pub words-observed : IsObservation (fed inner_fed) (words_observed o slice_may_leave)
      words-observed = row-observed (number_observed o slice_may_leave 8) (number-observed 8)

-- ---- draws

-- a draw of a function of a value is refused as the draw of the value is
pub refused-made_of : {S T U : Type 0} (f : T → U) (d : Sampling S T) (e : ChallengerError) (s t : S)
    → RefusesDraw d e s t → RefusesDraw (made_of f d) e s t
refused-made_of f d OutOfMemory s t h = h
refused-made_of f d DrawLimit s t h = h
refused-made_of f d _ s t h = h

-- a draw under the limit is refused as the inner challenger's draw is
pub refused-under_limit : {I T : Type 0} (d : ℕ → Sampling I T) (e : ChallengerError) (s t : SerializingState I)
    → t.draw_limit ≡ s.draw_limit → RefusesDraw (d s.draw_limit) e s.inner t.inner → RefusesDraw (under_limit d) e s t
refused-under_limit d OutOfMemory s t same h = (h, same)
refused-under_limit d DrawLimit s t same h = (h.0, λ i. record { inner = h.1 i; draw_limit = same i })
refused-under_limit d _ s t same h = h

pub drawn-under_limit : {I T : Type 0} (d : ℕ → Sampling I T) (result : Result T ChallengerError)
    (s t : SerializingState I) → t.draw_limit ≡ s.draw_limit → DrawsOrRefuses (d s.draw_limit) s.inner result t.inner
    → DrawsOrRefuses (under_limit d) s result t
drawn-under_limit d (Ok x) s t same h = (h.0, λ i. record { inner = h.1 i; draw_limit = same i })
drawn-under_limit d (Err e) s t same h = refused-under_limit d e s t same h

-- the low bits of a possibly missing number
low_bits-below_all : (word : Option ℕ) (bits x : ℕ) → option_map (λ n. n % 2 ^ bits) word ≡ Some x → x < 2 ^ bits
low_bits-below_all None bits x drawn = cc
low_bits-below_all (Some n) bits x drawn = low_bits-below n bits x drawn

pub bits_drawn-below : {I : Type 0} (d : Sampling I ℕ) (n bits : ℕ) (s : SerializingState I) (x : ℕ)
    → (bits_drawn d n bits).sampled s ≡ Some x → x < 2 ^ bits
bits_drawn-below d n bits s x drawn = low_bits-below_all ((group d n).sampled s.inner) bits x drawn

module _ {I : Type 0} (next : I → I) where
  pub stepped-steps : (n : ℕ) (s : SerializingState I)
      → after_steps (stepped next) n s ≡ stepped (after_steps next n) s
  stepped-steps zero s = refl
  stepped-steps (suc n) s = stepped-steps n (stepped next s)

  under_limit-steps : (s t : SerializingState I) → t.draw_limit ≡ s.draw_limit → IsStepsOn next s.inner t.inner
      → IsStepsOn (stepped next) s t
  under_limit-steps s t limit inside =
      (inside.0, (λ i. record { inner = inside.1 i; draw_limit = limit i }) ∙ sym (stepped-steps inside.0 s))

  pub under_limit-is_sampling : {T : Type 0} (d : ℕ → Sampling I T) → ((limit : ℕ) → IsSampling next (d limit))
      → IsSampling (stepped next) (under_limit d)
  under_limit-is_sampling d laws =
      record {
        limit_gives_none = λ s h. (laws s.draw_limit).limit_gives_none s.inner h;
        steps = λ s. under_limit-steps s (stepped (d s.draw_limit).after s) refl ((laws s.draw_limit).steps s.inner);
        leaves = λ s t h. under_limit-steps s t h.1 ((laws s.draw_limit).leaves s.inner t.inner h.0);
      }

  pub byte_dropped-drawn : (d : Sampling I ℕ) → IsSampling next d → IsSampling (stepped next) (byte_dropped d)
  byte_dropped-drawn d laws =
      under_limit-is_sampling (λ _. made_of (λ _. tt) d) (λ _. made_of-is_sampling next (λ _. tt) d laws)

  module _ (d : Sampling I ℕ) (laws : IsSampling next d) (n : ℕ) where
    -- a group is refused as one of its bytes is
    pub refused-group : (e : ChallengerError) (s t : I) → RefusesDraws d n e s t → RefusesDraw (group d n) e s t
    refused-group e s t h =
        refused-made_of number_of (sampling.in_row d n) e s t (refused-in_row next d laws n e s t h)

    pub group-drawn : IsSampling next (group d n)
    group-drawn =
        made_of-is_sampling next number_of (sampling.in_row d n) (in_row-is_sampling next d laws n)

    pub low_bits-drawn : (bits : ℕ) → IsSampling next (low_bits_of_group d n bits)
    low_bits-drawn bits = made_of-is_sampling next (λ word. word % 2 ^ bits) (group d n) group-drawn

    pub bits-drawn : (bits : ℕ) → IsSampling (stepped next) (bits_drawn d n bits)
    bits-drawn bits = under_limit-is_sampling (λ _. low_bits_of_group d n bits) (λ _. low_bits-drawn bits)

    module _ {F : Type 0} (r : Residues F) where
      pub element-drawn : IsSampling (stepped next) (element_drawn d n r)
      element-drawn =
          let bits = bits_of_order r.order in
          under_limit-is_sampling (element_of_groups d n r) (λ limit. made_of-is_sampling next r.of
          (accepted_of (low_bits_of_group d n bits) (λ x. nat_lt x r.order) limit)
          (accepted_of-is_sampling (low_bits_of_group d n bits) (λ x. nat_lt x r.order) next (low_bits-drawn bits)
          limit))

      pub space_element-drawn : {A : Type 0} (dimension : ℕ) (element : List F → A)
          → IsSampling (stepped next) (space_element_drawn d n r dimension element)
      space_element-drawn dimension element =
          made_of-is_sampling (stepped next) element (sampling.in_row (element_drawn d n r) dimension)
          (in_row-is_sampling (stepped next) (element_drawn d n r) element-drawn dimension)

      -- a refused coefficient refuses the element
      pub refused-space_element : {A : Type 0} (dimension : ℕ) (element : List F → A) (e : ChallengerError)
          (s t : SerializingState I) → RefusesDraws (element_drawn d n r) dimension e s t
          → RefusesDraw (space_element_drawn d n r dimension element) e s t
      refused-space_element dimension element e s t h =
          refused-made_of element (sampling.in_row (element_drawn d n r) dimension) e s t
          (refused-in_row (stepped next) (element_drawn d n r) element-drawn dimension e s t h)
