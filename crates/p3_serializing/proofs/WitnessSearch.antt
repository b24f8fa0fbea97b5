-- A search for the least witness, by one for the first candidate of bytes.
use Rattle.std.proofs.Common.{◌≡◌, ℕ, ◌==◌, ◌%◌, ◌^◌, ◌<◌, Bool, true, List, Option, Some, None, refl, sym, subst, ◌∙◌}
use Rattle.std.{proofs.Common.{inl, inr, arith, rules}, specs.Option.option_map}
use Rattle.p3_challenger_core.specs.Observation.{Observation, RefusesObserve, in_slice, observed_all}
use Rattle.p3_challenger_core.specs.Sampling.{Sampling, IsSampling, RefusesDraw, draws, in_row}
use Rattle.p3_challenger_core.specs.declared.error.ChallengerError.{ChallengerError, TheVariants.OutOfMemory}
use Rattle.p3_challenger_core.specs.declared.error.ChallengerError.TheVariants.{DrawLimit}
use Rattle.p3_grinding.specs.Checks.{all_zero, draws_nothing, checked, byte_check, IsFirst, NoneOf, IsLeast, NonePasses}
use Rattle.p3_grinding.specs.{Checks.{MayRunOut, RefusesSearch}, CheckLaws.{checked-limit, all_zero-limit}}
use Rattle.p3_serializing.specs.{SerializingState.{SerializingState, element_observed, bits_drawn}, Bytes.number_of}
use Rattle.p3_serializing.specs.{SerializingStateLaws.bits-drawn, SerializingGrinding.{witness_bytes, low_bits_zero}}
use Rattle.p3_field_core.specs.{Residues.{Residues, IsResidues}, ResidueLaws.number_of-below}

none_not_some : None ≡ Some true → ⊥
none_not_some e = search (rules, e)

module _ {I Symbol F : Type 0} (o : Observation I Symbol ℕ) (slice_may_leave : I → List ℕ → I → Type 0)
    (d : Sampling I ℕ) (r : Residues F) (n bits : ℕ) where
  -- a check on a challenger that is ready for a witness, and the inner challenger's
  abbrev pub ready_check : F → Sampling (SerializingState I) Bool
  ready_check = checked draws_nothing (element_observed o slice_may_leave r n) (all_zero (bits_drawn d n bits))

  abbrev pub inner_check : ℕ → Sampling I Bool
  inner_check = byte_check (in_slice o slice_may_leave) (in_row d n) (witness_bytes r n) (low_bits_zero bits)

  made_at_once : (bytes : Option (List ℕ))
      → option_map (λ m. m == 0) (option_map (λ word. word % 2 ^ bits) (option_map number_of bytes))
      ≡ option_map (low_bits_zero bits) bytes
  made_at_once None = refl
  made_at_once (Some bytes) = refl

  pub same-answer : (s : SerializingState I) (k : ℕ)
      → (ready_check (r.of k)).sampled s ≡ (inner_check k).sampled s.inner
  same-answer s k = made_at_once (draws d n (observed_all o.observed s.inner (witness_bytes r n k)))

  -- the first candidate that passes is the least witness
  pub found-least : IsResidues r → (s : SerializingState I) (k : ℕ) → IsFirst inner_check s.inner r.order k
      → IsLeast r ready_check s (r.of k)
  found-least laws s k found =
      record {
        passes = same-answer s k ∙ found.passes;
        least = λ m below passes.
            let earlier : m < k = omega (arith, below, number_of-below r laws k found.below) in
            found.first m earlier (sym (same-answer s m) ∙ passes);
      }

  pub none-passes : (s : SerializingState I) → NoneOf inner_check s.inner r.order → NonePasses r ready_check s
  none-passes s none k below passes = none k below (sym (same-answer s k) ∙ passes)

  inner-left : (s : SerializingState I) (k : ℕ) (t : I) → (inner_check k).may_leave s.inner t
      → (ready_check (r.of k)).may_leave s (record s { inner = t })
  inner-left s k t (inl never) = absurd never
  inner-left s k t (inr (is, inl fed)) = inr (refl, inl (fed, refl))
  inner-left s k t (inr (is, inr drawn)) = inr (refl, inr (drawn, refl))

  module _ (copies_may_fail : Type 0) (s : SerializingState I) where
    -- the inner challenger's search is refused for memory
    pub search-refused : MayRunOut copies_may_fail inner_check s.inner → MayRunOut copies_may_fail ready_check s
    search-refused (inl copied) = inl copied
    search-refused (inr left) =
        inr (r.of left.0, record s { inner = left.1 }, inner-left s left.0 left.1 left.2)

    pub search-refused_as : (e : ChallengerError) → (e ≡ OutOfMemory) × MayRunOut copies_may_fail inner_check s.inner
        → RefusesSearch r (MayRunOut copies_may_fail ready_check) ready_check e s s
    search-refused_as e h =
        subst (λ x. RefusesSearch r (MayRunOut copies_may_fail ready_check) ready_check x s s) (sym h.0)
        (search-refused h.1, refl)

    -- the witness that was found is refused for memory
    pub observe-refused : (witness : F) (e : ChallengerError) (t : SerializingState I)
        → RefusesObserve ((element_observed o slice_may_leave r n).may_leave s witness) e t
        → RefusesSearch r (MayRunOut copies_may_fail ready_check) ready_check e s s
    observe-refused witness OutOfMemory t h = (inr (witness, t, inr (refl, inl h)), refl)
    observe-refused witness _ t h = absurd h

    -- the draw after it is, which has met no limit before
    pub draw-refused : (next : I → I) → IsSampling next d → (witness : F) (e : ChallengerError)
        (u t : SerializingState I) → u ≡ (element_observed o slice_may_leave r n).observed s witness
        → (ready_check witness).sampled s ≡ Some true → RefusesDraw (bits_drawn d n bits) e u t
        → RefusesSearch r (MayRunOut copies_may_fail ready_check) ready_check e s s
    draw-refused next laws witness OutOfMemory u t is passes h =
        (inr (witness, t, inr (refl, inr (subst (λ v. (bits_drawn d n bits).may_leave v t) is h))), refl)
    draw-refused next laws witness DrawLimit u t is passes h =
        let limit = checked-limit draws_nothing (element_observed o slice_may_leave r n)
        (all_zero (bits_drawn d n bits)) (λ v never. absurd never)
        (all_zero-limit (bits_drawn d n bits) (bits-drawn next d laws n bits).limit_gives_none) witness s
        (inr (refl, subst (λ v. (bits_drawn d n bits).meets_limit v) is h.0)) in
        absurd (none_not_some (sym limit ∙ passes))
    draw-refused next laws witness _ u t is passes h = absurd h
