-- Laws of uniform bits drawn from a duplex challenger.
use Rattle.std.{specs.Prelude.Result, proofs.Common.{◌≡◌, ℕ, zero, suc, ◌<◌, ◌≤◌, ◌+◌, ◌-◌, ◌/◌, ◌%◌, ◌^◌, Bool, true}}
use Rattle.std.proofs.Common.{false, List, [], ◌∷◌, Some, None, inl, inr, nat_eq, nat_lt, if◌then◌else◌, refl, sym, ap}
use Rattle.std.{proofs.{Common.{ap₂, ◌∙◌, subst, arith, rules, cond}, Math.Nat.mod-eq_of_lt}, specs.Option.option_map}
use Rattle.std.{specs.List.{count_by, range_with_len}, proofs.lemmas.{List.Sums.sum_by-cons, Bool.Decides.nat_tests}}
use Rattle.p3_field_core.specs.{UniformBounds.uniform_bound, UniformBoundLaws.{bound-within, bound-shared}}
use Rattle.p3_field_core.specs.Residues.{Residues, IsResidues}
use Rattle.p3_challenger_core.specs.{BitLaws.low_bits-below, Sampling.{IsSampling, RefusesDraw}}
use Rattle.p3_challenger_core.specs.{Observation.unrefused_observe, SamplingLaws.{one_step, unrefused_draw-is_sampling}}
use Rattle.p3_challenger_core.specs.declared.error.ChallengerError.{ChallengerError, TheVariants.OutOfMemory}
use Rattle.p3_challenger_core.specs.declared.error.ChallengerError.TheVariants.{DrawLimit, NoWitness, TooLong}
use Rattle.p3_grinding.specs.CandidateLaws.{limit-met_exactly, none_left_behind, accepted-is}
use Rattle.p3_grinding.specs.UniformDraws.{DrawsUniformly, IsUniformDraw, UniformDraw, bits_of_one, is_below, low_bits}
use Rattle.p3_grinding.specs.Checks.{zero_and_uniform, draws_nothing, check_of}
use Rattle.p3_grinding.specs.{declared.error.UniformBitsError.UniformBitsError, UniformDrawLaws.bits_of_one-is_uniform}
use Rattle.p3_grinding.specs.UniformDrawLaws.{in_halves-is_uniform, no_bits-is_uniform, bits_of_one-below, both-below}
use Rattle.p3_duplex.specs.DuplexState.{after_sampled, DuplexState, observed, sampled}
use Rattle.p3_duplex.specs.DuplexUniform.{MeetsElementLimit, how_many_give, draws_allowed, taken_element, uniform_bits}
use Rattle.p3_duplex.specs.DuplexUniform.{base_draw, in_parts, SameDraw, single, halved}

under : (n bound : ℕ) → nat_lt n bound ≡ true → n < bound
under n bound h = grind (arith, nat_tests)

not_more : (most bits : ℕ) → bits ≤ most → nat_lt most bits ≡ false
not_more most bits few = grind (arith, nat_tests)

more_than : (most bits : ℕ) → most < bits → nat_lt most bits ≡ true
more_than most bits more = grind (arith, nat_tests)

pub same_draw : {S : Type 0} (u : UniformDraw S) → SameDraw u u
same_draw u =
    record { sampled = λ s. refl; after = λ s. refl; limits = λ s. (λ h. h, λ h. h); rejects = λ s. refl }

given : {m n : ℕ} → Some m ≡ Some n → m ≡ n
given e = search (rules, e)

below_order : (n : ℕ) {m k : ℕ} → n < m → m ≤ k → n < k
below_order n below within = omega (arith, below, within)

counted-same : (f g : ℕ → Bool) (bound a n : ℕ) → a + n ≤ bound → ((k : ℕ) → k < bound → f k ≡ g k)
    → count_by f (range_with_len a n) ≡ count_by g (range_with_len a n)
counted-same f g bound a zero within same = refl
counted-same f g bound a (suc n) within same =
    sum_by-cons (λ x. cond (f x) 1 0) a (range_with_len (a + 1) n)
    ∙ ap₂ (λ b m. cond b 1 0 + m) (same a (omega (arith, within)))
    (counted-same f g bound (a + 1) n (omega (arith, within)) same)
    ∙ sym (sum_by-cons (λ x. cond (g x) 1 0) a (range_with_len (a + 1) n))

-- each value of the bits comes from equally many elements below the bound
pub elements-shared : {F : Type 0} (r : Residues F) → IsResidues r → (bits value : ℕ) → value < 2 ^ bits
    → how_many_give r bits value ≡ uniform_bound r.order bits / 2 ^ bits
elements-shared r laws bits value small =
    let within = bound-within r.order bits in
    counted-same (λ n. nat_eq (low_bits r bits (r.of n)) value) (λ n. nat_eq (n % 2 ^ bits) value)
    (uniform_bound r.order bits) 0 (uniform_bound r.order bits) (omega arith)
    (λ n below. ap (λ m. nat_eq (m % 2 ^ bits) value)
    (laws.number_of n ∙ mod-eq_of_lt (below_order n below within)))
    ∙ bound-shared r.order bits value small

module _ {F P : Type 0} (r : Residues F) (permute : P → List F → List F) (rate : ℕ) where
  pub base_draw-is_sampling : IsSampling (after_sampled r permute rate) (base_draw r permute rate)
  base_draw-is_sampling =
      unrefused_draw-is_sampling (after_sampled r permute rate) (λ c. Some (sampled r permute rate c))
      (after_sampled r permute rate) (one_step (after_sampled r permute rate))

  kept-below : (b : Bool) (bound : ℕ) (x y : F) → is_below r bound x ≡ b → (if b then Some x else None) ≡ Some y
      → r.number y < bound
  kept-below true bound x y is e =
      let same : x ≡ y = search (rules, e) in
      subst (λ z. r.number z < bound) same (under (r.number x) bound is)
  kept-below false bound x y is e = search (rules, e)

  -- the taken element is below the bound
  pub taken-below : (resample : Bool) (bits : ℕ) (c : DuplexState F P) (x : F)
      → taken_element r permute rate resample bits c ≡ Some x → r.number x < uniform_bound r.order bits
  taken-below true bits c x e =
      let bound = uniform_bound r.order bits in
      under (r.number x) bound (accepted-is (base_draw r permute rate) (is_below r bound) c.draw_limit c x e)
  taken-below false bits c x e =
      let next = sampled r permute rate c in
      let bound = uniform_bound r.order bits in
      kept-below (is_below r bound next) bound next x refl e

  kept-low_bits : (b : Bool) (bits : ℕ) (x : F)
      → (if b then Some (low_bits r bits x) else None) ≡ option_map (low_bits r bits) (if b then Some x else None)
  kept-low_bits true bits x = refl
  kept-low_bits false bits x = refl

  -- bits of one element are the low bits of the taken element
  single-taken : (resample : Bool) (bits : ℕ) (c : DuplexState F P)
      → (single r permute rate resample bits).draw.sampled c
      ≡ option_map (low_bits r bits) (taken_element r permute rate resample bits c)
  single-taken true bits c = refl
  single-taken false bits c =
      let x = sampled r permute rate c in
      kept-low_bits (is_below r (uniform_bound r.order bits) x) bits x

  one-takes_no_memory : (resample : Bool) (bound bits : ℕ) (c d : DuplexState F P)
      → ¬ ((bits_of_one r (base_draw r permute rate) draws_allowed resample bound bits).draw.may_leave c d)
  one-takes_no_memory true bound bits c d h =
      none_left_behind (base_draw r permute rate) (is_below r bound) (λ s t no_memory. no_memory) c.draw_limit c d h
  one-takes_no_memory false bound bits c d h = h

  module _ (resample : Bool) where
    pub single-is_uniform : (bits : ℕ)
        → IsUniformDraw (after_sampled r permute rate) resample (single r permute rate resample bits)
    single-is_uniform bits =
        bits_of_one-is_uniform (after_sampled r permute rate) r (base_draw r permute rate) base_draw-is_sampling
        draws_allowed resample (uniform_bound r.order bits) bits

    in_parts-is_uniform : (size : Bool) (bits : ℕ)
        → IsUniformDraw (after_sampled r permute rate) resample (in_parts r permute rate resample size bits)
    in_parts-is_uniform true bits =
        in_halves-is_uniform (after_sampled r permute rate) resample (bits / 2)
        (single r permute rate resample (bits / 2)) (single r permute rate resample (bits - bits / 2))
        (single-is_uniform (bits / 2)) (single-is_uniform (bits - bits / 2))
    in_parts-is_uniform false bits = single-is_uniform bits

    pub uniform_bits-is_uniform : (most_of_one bits : ℕ)
        → IsUniformDraw (after_sampled r permute rate) resample (uniform_bits r permute rate resample most_of_one bits)
    uniform_bits-is_uniform most_of_one zero = no_bits-is_uniform (after_sampled r permute rate) resample
    uniform_bits-is_uniform most_of_one (suc more) = in_parts-is_uniform (nat_lt most_of_one (suc more)) (suc more)

    single-below : (bits : ℕ) (c : DuplexState F P) (x : ℕ)
        → (single r permute rate resample bits).draw.sampled c ≡ Some x → x < 2 ^ bits
    single-below bits c x drawn =
        bits_of_one-below (after_sampled r permute rate) r (base_draw r permute rate) base_draw-is_sampling
        draws_allowed resample (uniform_bound r.order bits) bits c x drawn

    both_halves : (bits : ℕ) → bits / 2 + (bits - bits / 2) ≡ bits
    both_halves bits = omega arith

    in_parts-below : (size : Bool) (bits : ℕ) (c : DuplexState F P) (x : ℕ)
        → (in_parts r permute rate resample size bits).draw.sampled c ≡ Some x → x < 2 ^ bits
    in_parts-below true bits c x drawn =
        let low = single r permute rate resample (bits / 2) in
        let high = single r permute rate resample (bits - bits / 2) in
        subst (λ n. x < 2 ^ n) (both_halves bits)
        (both-below (bits / 2) (bits - bits / 2) (low.draw.sampled c) (high.draw.sampled (low.draw.after c)) x
        (λ y is. single-below (bits / 2) c y is) (λ y is. single-below (bits - bits / 2) (low.draw.after c) y is) drawn)
    in_parts-below false bits c x drawn = single-below bits c x drawn

    pub uniform_bits-below : (most_of_one bits : ℕ) (c : DuplexState F P) (x : ℕ)
        → (uniform_bits r permute rate resample most_of_one bits).draw.sampled c ≡ Some x → x < 2 ^ bits
    uniform_bits-below most_of_one zero c x drawn = low_bits-below 0 0 x drawn
    uniform_bits-below most_of_one (suc more) c x drawn =
        in_parts-below (nat_lt most_of_one (suc more)) (suc more) c x drawn

    -- draws of bits of one element take no memory
    single-takes_no_memory : (bits : ℕ) (c d : DuplexState F P)
        → ¬ ((single r permute rate resample bits).draw.may_leave c d)
    single-takes_no_memory bits c d = one-takes_no_memory resample (uniform_bound r.order bits) bits c d

    in_parts-takes_no_memory : (size : Bool) (bits : ℕ) (c d : DuplexState F P)
        → ¬ ((in_parts r permute rate resample size bits).draw.may_leave c d)
    in_parts-takes_no_memory true bits c d (inl low) = single-takes_no_memory (bits / 2) c d low
    in_parts-takes_no_memory true bits c d (inr high) =
        single-takes_no_memory (bits - bits / 2) ((single r permute rate resample (bits / 2)).draw.after c) d high.1
    in_parts-takes_no_memory false bits c d h = single-takes_no_memory bits c d h

    pub uniform_bits-take_no_memory : (most_of_one bits : ℕ) (c d : DuplexState F P)
        → ¬ ((uniform_bits r permute rate resample most_of_one bits).draw.may_leave c d)
    uniform_bits-take_no_memory most_of_one zero c d h = h
    uniform_bits-take_no_memory most_of_one (suc more) c d h =
        in_parts-takes_no_memory (nat_lt most_of_one (suc more)) (suc more) c d h

    -- a check of a witness by uniform bits takes no memory
    pub check-takes_no_memory : (most_of_one bits : ℕ) (witness : F) (c d : DuplexState F P)
        → ¬ ((check_of draws_nothing (unrefused_observe (λ x. x ∷ []) (observed r permute rate))
        (zero_and_uniform (uniform_bits r permute rate resample most_of_one bits)) bits witness).may_leave c d)
    check-takes_no_memory most_of_one zero witness c d h = h
    check-takes_no_memory most_of_one (suc more) witness c d (inl drawn) = drawn
    check-takes_no_memory most_of_one (suc more) witness c d (inr (is, inl seen)) = seen
    check-takes_no_memory most_of_one (suc more) witness c d (inr (is, inr tested)) =
        uniform_bits-take_no_memory most_of_one (suc more) (observed r permute rate c witness) d tested

    -- if one element suffices, the bits are the low bits of the taken element
    pub uniform_bits-taken : (most_of_one bits : ℕ) (c : DuplexState F P) → 0 < bits → bits ≤ most_of_one
        → (uniform_bits r permute rate resample most_of_one bits).draw.sampled c
        ≡ option_map (low_bits r bits) (taken_element r permute rate resample bits c)
    uniform_bits-taken most_of_one zero c some few = absurd (omega (arith, some))
    uniform_bits-taken most_of_one (suc more) c some few =
        ap (λ b. (in_parts r permute rate resample b (suc more)).draw.sampled c) (not_more most_of_one (suc more) few)
        ∙ single-taken resample (suc more) c

    -- if one element suffices, the bits are drawn from one
    pub uniform_bits-one : (most_of_one bits : ℕ) → 0 < bits → bits ≤ most_of_one
        → SameDraw (uniform_bits r permute rate resample most_of_one bits) (single r permute rate resample bits)
    uniform_bits-one most_of_one zero some few = absurd (omega (arith, some))
    uniform_bits-one most_of_one (suc more) some few =
        subst (λ b. SameDraw (in_parts r permute rate resample b (suc more))
        (single r permute rate resample (suc more)))
        (sym (not_more most_of_one (suc more) few)) (same_draw (single r permute rate resample (suc more)))

    -- more bits than that are drawn in halves
    pub uniform_bits-halved : (most_of_one bits : ℕ) → most_of_one < bits
        → SameDraw (uniform_bits r permute rate resample most_of_one bits) (halved r permute rate resample bits)
    uniform_bits-halved most_of_one zero more = absurd (omega (arith, more))
    uniform_bits-halved most_of_one (suc n) more =
        subst (λ b. SameDraw (in_parts r permute rate resample b (suc n)) (halved r permute rate resample (suc n)))
        (sym (more_than most_of_one (suc n) more)) (same_draw (halved r permute rate resample (suc n)))

    pub halves-drawn : (most_of_one bits : ℕ) (s : DuplexState F P) (result : Result ℕ UniformBitsError)
        (t : DuplexState F P) → most_of_one < bits → DrawsUniformly (halved r permute rate resample bits) s result t
        → DrawsUniformly (uniform_bits r permute rate resample most_of_one bits) s result t
    halves-drawn most_of_one zero s result t more h = absurd (omega (arith, more))
    halves-drawn most_of_one (suc n) s result t more h =
        subst (λ b. DrawsUniformly (in_parts r permute rate resample b (suc n)) s result t)
        (sym (more_than most_of_one (suc n) more)) h

  -- a draw that does not replace a rejected value meets no limit

  in_parts-meets_no_limit : (size : Bool) (bits : ℕ) (c : DuplexState F P)
      → ¬ ((in_parts r permute rate false size bits).draw.meets_limit c)
  in_parts-meets_no_limit true bits c (inl low) = low
  in_parts-meets_no_limit true bits c (inr high) = high.1
  in_parts-meets_no_limit false bits c h = h

  pub uniform_bits-meet_no_limit : (most_of_one bits : ℕ) (c : DuplexState F P)
      → ¬ ((uniform_bits r permute rate false most_of_one bits).draw.meets_limit c)
  uniform_bits-meet_no_limit most_of_one zero c h = h
  uniform_bits-meet_no_limit most_of_one (suc more) c h =
      in_parts-meets_no_limit (nat_lt most_of_one (suc more)) (suc more) c h

  -- a check of a witness by such a draw meets no limit
  check-meets_no_limit : (most_of_one bits : ℕ) (witness : F) (c : DuplexState F P)
      → ¬ ((check_of draws_nothing (unrefused_observe (λ x. x ∷ []) (observed r permute rate))
      (zero_and_uniform (uniform_bits r permute rate false most_of_one bits)) bits witness).meets_limit c)
  check-meets_no_limit most_of_one zero witness c h = h
  check-meets_no_limit most_of_one (suc more) witness c (inl prepared) = prepared
  check-meets_no_limit most_of_one (suc more) witness c (inr (is, tested)) =
      uniform_bits-meet_no_limit most_of_one (suc more) (observed r permute rate c witness) tested

  pub check-not_refused : (most_of_one bits : ℕ) (witness : F) (e : ChallengerError) (c d : DuplexState F P)
      → ¬ (RefusesDraw (check_of draws_nothing (unrefused_observe (λ x. x ∷ []) (observed r permute rate))
      (zero_and_uniform (uniform_bits r permute rate false most_of_one bits)) bits witness) e c d)
  check-not_refused most_of_one bits witness OutOfMemory c d h =
      check-takes_no_memory false most_of_one bits witness c d h
  check-not_refused most_of_one bits witness DrawLimit c d h = check-meets_no_limit most_of_one bits witness c h.0
  check-not_refused most_of_one bits witness NoWitness c d h = h
  check-not_refused most_of_one bits witness TooLong c d h = h

  -- ---- the limit, exactly

  -- bits of one element, where a rejected value is replaced
  pub single-limit : (bits : ℕ) → MeetsElementLimit r permute rate bits (single r permute rate true bits)
  single-limit bits =
      limit-met_exactly (base_draw r permute rate) (is_below r (uniform_bound r.order bits)) (λ s. refl) (λ s h. h)
      (low_bits r bits) draws_allowed

  pub uniform_bits-limit : (most_of_one bits : ℕ) → 0 < bits → bits ≤ most_of_one
      → MeetsElementLimit r permute rate bits (uniform_bits r permute rate true most_of_one bits)
  uniform_bits-limit most_of_one zero some few = absurd (omega (arith, some))
  uniform_bits-limit most_of_one (suc more) some few =
      subst (λ b. MeetsElementLimit r permute rate (suc more) (in_parts r permute rate true b (suc more)))
      (sym (not_more most_of_one (suc more) few)) (single-limit (suc more))
