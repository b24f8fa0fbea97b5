-- Laws of draws of uniform bits.
use Rattle.std.proofs.Common.{◌≡◌, ℕ, ◌+◌, ◌*◌, ◌<◌, ◌≤◌, ◌%◌, ◌^◌, ◌⊎◌, Bool, true, false, Option, Some, None, IsSome}
use Rattle.std.proofs.Common.{is_some, option_and_then, if◌then◌else◌, refl, sym, ap, inl, inr, subst, arith, rules}
use Rattle.std.{proofs.{Common.{◌∙◌, nat_lt}, lemmas.{Nat.pow-add, Bool.Decides.nat_tests}}, specs.Option.option_map}
use Rattle.p3_field_core.specs.Residues.{Residues}
use Rattle.p3_challenger_core.specs.{BitLaws.low_bits-below, Sponge.IsStepsOn}
use Rattle.p3_challenger_core.specs.declared.error.ChallengerError.{ChallengerError, TheVariants.OutOfMemory}
use Rattle.p3_challenger_core.specs.declared.error.ChallengerError.TheVariants.{DrawLimit, NoWitness, TooLong}
use Rattle.p3_challenger_core.specs.Sampling.{Sampling, IsSampling, RefusesDraw, unrefused_draw}
use Rattle.p3_challenger_core.specs.SamplingLaws.{no_steps, steps-then, made_of-is_sampling, unrefused_draw-is_sampling}
use Rattle.p3_grinding.specs.{Candidates.accepted_within, CandidateLaws.accepted_within-is_sampling}
use Rattle.p3_grinding.specs.UniformDraws.{RefusesUniform, IsUniformDraw, never_rejects, bits_of_first, bits_of_next}
use Rattle.p3_grinding.specs.UniformDraws.{UniformDraw, bits_of_one, in_halves, is_below, low_bits, rejected, no_bits}
use Rattle.p3_grinding.specs.declared.error.{ResamplingError.ResamplingError, UniformBitsError.UniformBitsError}
use Rattle.p3_grinding.specs.declared.error.UniformBitsError.TheVariants.{Resampling, Challenger}

none_is_not : false ≡ true → ⊥
none_is_not is = search (rules, is)

some_is_not : (x : ℕ) → Some x ≡ None → ⊥
some_is_not x e = search (rules, e)

nothing_rejected : (e : ResamplingError) → None ≡ Some e → ⊥
nothing_rejected e is = search (rules, is)

not_below : (n bound : ℕ) → nat_lt n bound ≡ false → bound ≤ n
not_below n bound is = grind (arith, nat_tests)

-- a draw that rejects nothing is a draw of uniform bits
pub never_rejects-is_uniform : {S : Type 0} (next : S → S) (resample : Bool) (d : Sampling S ℕ) → IsSampling next d
    → IsUniformDraw next resample (never_rejects d)
never_rejects-is_uniform next resample d laws =
    record {
      draws = laws;
      rejected_gives_none = λ s is. absurd (none_is_not is);
      rejected_or_limit = λ s is. absurd (none_is_not is);
      resampled = λ _ s. refl;
      above = λ s e is. absurd (nothing_rejected e is);
    }

pub no_bits-is_uniform : {S : Type 0} (next : S → S) (resample : Bool) → IsUniformDraw next resample no_bits
no_bits-is_uniform next resample =
    never_rejects-is_uniform next resample (unrefused_draw (λ _. Some 0) (λ s. s))
    (unrefused_draw-is_sampling next (λ _. Some 0) (λ s. s) (no_steps next))

-- ---- bits of one element

module _ {S F : Type 0} (next : S → S) (r : Residues F) (d : Sampling S F) (laws : IsSampling next d) where
  pub bits_of_first-is_uniform : (resample : Bool) (limit : S → ℕ) (bound bits : ℕ)
      → IsUniformDraw next resample (bits_of_first r d limit bound bits)
  bits_of_first-is_uniform resample limit bound bits =
      let accepted = accepted_within d (is_below r bound) limit in
      never_rejects-is_uniform next resample (bits_of_first r d limit bound bits).draw
      (made_of-is_sampling next (low_bits r bits) accepted
      (accepted_within-is_sampling d (is_below r bound) next laws limit))

  kept : ℕ → ℕ → Option F → Option ℕ
  kept bound bits o = option_and_then (λ x. if is_below r bound x then Some (low_bits r bits x) else None) o

  one_rejected : (b : Bool) (e : ResamplingError) (n : ℕ) → IsSome (if b then None else Some e)
      → (if b then Some n else None) ≡ None
  one_rejected true e n is = absurd (none_is_not is)
  one_rejected false e n is = refl

  rejected-kept : (bound bits : ℕ) (o : Option F) → IsSome (rejected r bound o) → kept bound bits o ≡ None
  unfolding kept
  rejected-kept bound bits None is = refl
  rejected-kept bound bits (Some x) is =
      one_rejected (is_below r bound x) (record { value = r.number x; m = bound }) (low_bits r bits x) is

  rejected-some : (bound : ℕ) (o : Option F) → IsSome (rejected r bound o) → o ≡ None → ⊥
  rejected-some bound None is e = none_is_not is
  rejected-some bound (Some x) is e = search (rules, e)

  chosen-above : (b : Bool) (bound : ℕ) (x : F) (e : ResamplingError) → is_below r bound x ≡ b
      → (if b then None else Some (record { value = r.number x; m = bound })) ≡ Some e → e.m ≤ e.value
  chosen-above true bound x e test is = absurd (nothing_rejected e is)
  chosen-above false bound x e test is =
      let found : ResamplingError = record { value = r.number x; m = bound } in
      let same : found ≡ e = search (rules, is) in
      subst (λ (f : ResamplingError). f.m ≤ f.value) same (not_below (r.number x) bound test)

  rejected-above : (bound : ℕ) (o : Option F) (e : ResamplingError) → rejected r bound o ≡ Some e → e.m ≤ e.value
  rejected-above bound None e is = absurd (nothing_rejected e is)
  rejected-above bound (Some x) e is = chosen-above (is_below r bound x) bound x e refl is

  bits_of_next-is_uniform : (bound bits : ℕ) → IsUniformDraw next false (bits_of_next r d bound bits)
  unfolding kept
  bits_of_next-is_uniform bound bits =
      record {
        draws = record {
          limit_gives_none = λ s h. ap (kept bound bits) (laws.limit_gives_none s h);
          steps = laws.steps;
          leaves = laws.leaves;
        };
        rejected_gives_none = λ s is. rejected-kept bound bits (d.sampled s) is;
        rejected_or_limit = λ s is h. rejected-some bound (d.sampled s) is (laws.limit_gives_none s h);
        resampled = λ e s. search (rules, e);
        above = λ s e is. rejected-above bound (d.sampled s) e is;
      }

  pub bits_of_one-is_uniform : (limit : S → ℕ) (resample : Bool) (bound bits : ℕ)
      → IsUniformDraw next resample (bits_of_one r d limit resample bound bits)
  bits_of_one-is_uniform limit true bound bits = bits_of_first-is_uniform true limit bound bits
  bits_of_one-is_uniform limit false bound bits = bits_of_next-is_uniform bound bits

  low-below : (bits : ℕ) (o : Option F) (n : ℕ) → option_map (low_bits r bits) o ≡ Some n → n < 2 ^ bits
  low-below bits None n e = search (rules, e)
  low-below bits (Some x) n e = low_bits-below (r.number x) bits n e

  chosen-below : (b : Bool) (m bits n : ℕ) → (if b then Some (m % 2 ^ bits) else None) ≡ Some n → n < 2 ^ bits
  chosen-below true m bits n e = low_bits-below m bits n e
  chosen-below false m bits n e = search (rules, e)

  kept-below : (bound bits : ℕ) (o : Option F) (n : ℕ) → kept bound bits o ≡ Some n → n < 2 ^ bits
  unfolding kept
  kept-below bound bits None n e = search (rules, e)
  kept-below bound bits (Some x) n e = chosen-below (is_below r bound x) (r.number x) bits n e

  pub bits_of_one-below : (limit : S → ℕ) (resample : Bool) (bound bits : ℕ) (s : S) (n : ℕ)
      → (bits_of_one r d limit resample bound bits).draw.sampled s ≡ Some n → n < 2 ^ bits
  unfolding kept
  bits_of_one-below limit true bound bits s n e =
      low-below bits ((accepted_within d (is_below r bound) limit).sampled s) n e
  bits_of_one-below limit false bound bits s n e = kept-below bound bits (d.sampled s) n e

-- ---- bits in two halves

module _ {S : Type 0} (next : S → S) (resample : Bool) (count : ℕ) (low high : UniformDraw S)
    (first : IsUniformDraw next resample low) (second : IsUniformDraw next resample high) where
  both : Option ℕ → Option ℕ → Option ℕ
  both o p = option_and_then (λ x. option_map (λ y. x + 2 ^ count * y) p) o

  both-none : (o p : Option ℕ) → p ≡ None → both o p ≡ None
  unfolding both
  both-none None p e = refl
  both-none (Some x) p e = ap (option_map (λ y. x + 2 ^ count * y)) e

  halves-limit : (s : S) → (in_halves count low high).draw.meets_limit s
      → (in_halves count low high).draw.sampled s ≡ None
  unfolding both
  halves-limit s (inl here) =
      ap (λ o. both o (high.draw.sampled (low.draw.after s))) (first.draws.limit_gives_none s here)
  halves-limit s (inr later) =
      both-none (low.draw.sampled s) (high.draw.sampled (low.draw.after s))
      (second.draws.limit_gives_none (low.draw.after s) later.1)

  choose-steps : (o : Option ℕ) (s here there : S) → IsStepsOn next s here → IsStepsOn next s there
      → IsStepsOn next s (if is_some o then there else here)
  choose-steps None s here there p q = p
  choose-steps (Some x) s here there p q = q

  halves-leaves : (s t : S) → (in_halves count low high).draw.may_leave s t → IsStepsOn next s t
  halves-leaves s t (inl here) = first.draws.leaves s t here
  halves-leaves s t (inr later) =
      steps-then next s (low.draw.after s) t (first.draws.steps s) (second.draws.leaves (low.draw.after s) t later.1)

  -- which of the two halves rejects
  rejects_by : (o p : Option ℕ) (q r : Option ResamplingError) → (IsSome q → o ≡ None) → (IsSome r → p ≡ None)
      → IsSome (if is_some o then r else q) → both o p ≡ None
  unfolding both
  rejects_by None p q r none_first none_second is = refl
  rejects_by (Some x) p q r none_first none_second is = both-none (Some x) p (none_second is)

  limited_by : (o : Option ℕ) (q r : Option ResamplingError) (P Q : Type 0) → (IsSome q → P → ⊥) → (IsSome r → Q → ⊥)
      → (P → o ≡ None) → IsSome (if is_some o then r else q) → (P ⊎ (IsSome o × Q)) → ⊥
  limited_by None q r P Q no_first no_second none is (inl here) = no_first is here
  limited_by None q r P Q no_first no_second none is (inr later) = none_is_not later.0
  limited_by (Some x) q r P Q no_first no_second none is (inl here) = some_is_not x (none here)
  limited_by (Some x) q r P Q no_first no_second none is (inr later) = no_second is later.1

  none_of : (o : Option ℕ) (q r : Option ResamplingError) → q ≡ None → r ≡ None → (if is_some o then r else q) ≡ None
  none_of None q r p e = p
  none_of (Some x) q r p e = e

  above_of : (o : Option ℕ) (q r : Option ResamplingError) (e : ResamplingError) → (q ≡ Some e → e.m ≤ e.value)
      → (r ≡ Some e → e.m ≤ e.value) → (if is_some o then r else q) ≡ Some e → e.m ≤ e.value
  above_of None q r e of_low of_high is = of_low is
  above_of (Some x) q r e of_low of_high is = of_high is

  pub in_halves-is_uniform : IsUniformDraw next resample (in_halves count low high)
  unfolding both
  in_halves-is_uniform =
      record {
        draws = record {
          limit_gives_none = halves-limit;
          steps = λ s. choose-steps (low.draw.sampled s) s (low.draw.after s) (high.draw.after (low.draw.after s))
              (first.draws.steps s)
              (steps-then next s (low.draw.after s) (high.draw.after (low.draw.after s)) (first.draws.steps s)
              (second.draws.steps (low.draw.after s)));
          leaves = halves-leaves;
        };
        rejected_gives_none = λ s is. rejects_by (low.draw.sampled s) (high.draw.sampled (low.draw.after s))
            (low.rejects s) (high.rejects (low.draw.after s)) (first.rejected_gives_none s)
            (second.rejected_gives_none (low.draw.after s)) is;
        rejected_or_limit = λ s is h. limited_by (low.draw.sampled s) (low.rejects s) (high.rejects (low.draw.after s))
            (low.draw.meets_limit s) (high.draw.meets_limit (low.draw.after s)) (first.rejected_or_limit s)
            (second.rejected_or_limit (low.draw.after s)) (first.draws.limit_gives_none s) is h;
        resampled = λ e s. none_of (low.draw.sampled s) (low.rejects s) (high.rejects (low.draw.after s))
            (first.resampled e s) (second.resampled e (low.draw.after s));
        above = λ s e is. above_of (low.draw.sampled s) (low.rejects s) (high.rejects (low.draw.after s)) e
            (first.above s e) (second.above (low.draw.after s) e) is;
      }

  -- if each half gives its bits, both give them together
  pub halves-sampled : (s : S) (x y : ℕ) → low.draw.sampled s ≡ Some x → high.draw.sampled (low.draw.after s) ≡ Some y
      → (in_halves count low high).draw.sampled s ≡ Some (x + 2 ^ count * y)
  unfolding both
  halves-sampled s x y is_low is_high =
      ap (λ o. both o (high.draw.sampled (low.draw.after s))) is_low ∙ ap (λ o. both (Some x) o) is_high

  stopped : {A : Type 0} (o : Option ℕ) (here there : A) → o ≡ None → (if is_some o then there else here) ≡ here
  stopped None here there none = refl
  stopped (Some x) here there none = absurd (some_is_not x none)

  limit_refused : (e : ChallengerError) (s t : S) → RefusesDraw low.draw e s t
      → RefusesDraw (in_halves count low high).draw e s t
  limit_refused OutOfMemory s t h = inl h
  limit_refused DrawLimit s t h = (
    inl h.0,
    h.1 ∙ sym (stopped (low.draw.sampled s) (low.draw.after s) (high.draw.after (low.draw.after s))
        (first.draws.limit_gives_none s h.0)),
  )
  limit_refused NoWitness s t h = absurd h
  limit_refused TooLong s t h = absurd h

  -- if the low half is refused, both are
  pub halves-refused : (e : UniformBitsError) (s t : S) → RefusesUniform low e s t
      → RefusesUniform (in_halves count low high) e s t
  halves-refused (Resampling error) s t h =
      let none = first.rejected_gives_none s (ap is_some h.0) in (
        stopped (low.draw.sampled s) (low.rejects s) (high.rejects (low.draw.after s)) none ∙ h.0,
        h.1 ∙ sym (stopped (low.draw.sampled s) (low.draw.after s) (high.draw.after (low.draw.after s)) none),
      )
  halves-refused (Challenger e) s t h = limit_refused e s t h

sum_below : (x y p q : ℕ) → x < p → y < q → x + p * y < p * q
sum_below x y p q h k = grind arith

pub both-below : (count more : ℕ) (o p : Option ℕ) (n : ℕ) → ((x : ℕ) → o ≡ Some x → x < 2 ^ count)
    → ((y : ℕ) → p ≡ Some y → y < 2 ^ more)
    → option_and_then (λ x. option_map (λ y. x + 2 ^ count * y) p) o ≡ Some n → n < 2 ^ (count + more)
both-below count more None p n below_first below_second e = search (rules, e)
both-below count more (Some x) None n below_first below_second e = search (rules, e)
both-below count more (Some x) (Some y) n below_first below_second e =
    let is : x + 2 ^ count * y ≡ n = cc in
    let small : x < 2 ^ count = below_first x refl in
    let other : y < 2 ^ more = below_second y refl in
    subst (λ m. m < 2 ^ (count + more)) is
    (subst (λ m. x + 2 ^ count * y < m) (sym (pow-add 2 count more))
    (sum_below x y (2 ^ count) (2 ^ more) small other))
