-- Elements below a bound, and bits in two halves.
use Rattle.std.proofs.Common.{◌≡◌, ℕ, ◌<◌, ◌≤◌, ◌+◌, ◌-◌, ◌*◌, ◌/◌, ◌%◌, ◌^◌, true, false, nat_lt, arith, sym, ap}
use Rattle.std.specs.Prelude.{Bool, Some, Result, Ok, Err}
use Rattle.p3_challenger_core.specs.declared.error.ChallengerError.TheVariants.{OutOfMemory, DrawLimit, NoWitness}
use Rattle.p3_challenger_core.specs.declared.error.ChallengerError.TheVariants.{TooLong}
use Rattle.p3_grinding.specs.Candidates.{first_accepted, after_first_accepted, accepted_of, accepted_within}
use Rattle.p3_grinding.specs.CandidateLaws.{Seeks, seeks-start, seeks-next, seeks-gives, seeks-reached}
use Rattle.std.proofs.{Common.{◌∙◌, lit<, subst}, Math.Nat.{mod-eq_of_lt, one-le-pow, mul_comm}}
use Rattle.std.proofs.lemmas.{Nat.{pow-add, pow_below}, Bool.Decides.nat_tests}
use Rattle.p3_challenger_core.specs.{declared.error.ChallengerError.ChallengerError, Sampling.{Sampling, RefusesDraw, DrawsOrRefuses}}

pub below-true : (n m bound : ℕ) → n ≡ m → n < bound → nat_lt m bound ≡ true
below-true n m bound same below = grind (arith, nat_tests)

pub below-false : (n m bound : ℕ) → n ≡ m → bound ≤ n → nat_lt m bound ≡ false
below-false n m bound same above = grind (arith, nat_tests)

times_below : (y p q : ℕ) → 0 < p → y < q → p * y < p * q
times_below y p q positive below = grind arith

halves : (bits : ℕ) → bits / 2 + (bits - bits / 2) ≡ bits
halves bits = omega arith

-- a high half is moved above a low one without a loss
pub moved_up : (bits y : ℕ) → bits < 64 → y < 2 ^ (bits - bits / 2)
    → y * 2 ^ (bits / 2) % 18446744073709551616 ≡ 2 ^ (bits / 2) * y
moved_up bits y short below =
    let whole : 2 ^ (bits / 2) * 2 ^ (bits - bits / 2) ≡ 2 ^ bits =
    sym (pow-add 2 (bits / 2) (bits - bits / 2)) ∙ ap (λ n. 2 ^ n) (halves bits) in
    let small : 2 ^ (bits / 2) * y < 2 ^ (bits / 2) * 2 ^ (bits - bits / 2) =
    times_below y (2 ^ (bits / 2)) (2 ^ (bits - bits / 2)) (one-le-pow (bits / 2) 2 (lit< tt)) below in
    let turned : y * 2 ^ (bits / 2) ≡ 2 ^ (bits / 2) * y = mul_comm y (2 ^ (bits / 2)) in
    let under : y * 2 ^ (bits / 2) < 18446744073709551616 =
    omega (arith, pow_below bits 64 short, whole, small, turned) in
    mod-eq_of_lt under ∙ turned

-- A candidate is drawn first. Where it is refused, what the others give is what all of them give.
module _ {S T : Type 0} (d : Sampling S T) (accepts : T → Bool) (allowed : S → ℕ) (start : S) (some : 0 < allowed start)
    (here : S) (x : T) (drawn : d.sampled start ≡ Some x) (after : here ≡ d.after start) where
  pub one-gives : accepts x ≡ true → first_accepted d accepts (allowed start) start ≡ Some x
  one-gives =
      seeks-gives d accepts (allowed start) start 0 start here x some drawn after
      (seeks-start d accepts (allowed start) start)

  pub one-reached : accepts x ≡ true → here ≡ after_first_accepted d accepts (allowed start) start
  one-reached =
      seeks-reached d accepts (allowed start) start 0 start here x some drawn after
      (seeks-start d accepts (allowed start) start)

  module _ (left : ℕ) (same : allowed start - 1 ≡ left) (refused : accepts x ≡ false) where
    so_far : Seeks d accepts (allowed start) start left here
    so_far =
        subst (λ k. Seeks d accepts (allowed start) start k here) same
        (seeks-next d accepts (allowed start) start 0 start here x some drawn after
        (seeks-start d accepts (allowed start) start) refused)

    rest-refuses : (e : ChallengerError) (t : S) → RefusesDraw (accepted_of d accepts left) e here t
        → RefusesDraw (accepted_within d accepts allowed) e start t
    rest-refuses OutOfMemory t h = so_far.refused t h
    rest-refuses DrawLimit t h = (so_far.limited h.0, h.1 ∙ sym so_far.reached)
    rest-refuses NoWitness t h = absurd h
    rest-refuses TooLong t h = absurd h

    pub rest-drawn : (result : Result T ChallengerError) (t : S) → DrawsOrRefuses (accepted_of d accepts left) here result t
        → DrawsOrRefuses (accepted_within d accepts allowed) start result t
    rest-drawn (Ok x) t h = (so_far.gives ∙ h.0, h.1 ∙ sym so_far.reached)
    rest-drawn (Err e) t h = rest-refuses e t h
