-- Values that are read and observed one after another.
use Rattle.std.proofs.Common.{◌≡◌, ℕ, zero, suc, ◌+◌, ◌-◌, ◌*◌, ◌<◌, ◌≤◌, inl, inr, List, [], ◌∷◌, ◌++◌, length}
use Rattle.std.proofs.Common.{Bool, true, false, nat_lt, if◌then◌else◌, Ok, Err, refl, sym, ap, ◌∙◌, subst}
use Rattle.std.proofs.{Common.arith, Common.{append_assoc, append-nil}, lemmas.Bool.Decides.nat_tests}
use Rattle.std.specs.Prelude.{IsTrue}
use Rattle.p3_challenger_core.specs.Observation.{Observation, RefusesObserve, observed_all}
use Rattle.p3_challenger_core.specs.declared.error.ChallengerError.{ChallengerError}
use Rattle.p3_fs_core.specs.{Errors.transcript_error, declared.error.TranscriptError.TranscriptError, Encoding.Encoding}
use Rattle.p3_fs_core.specs.declared.error.TranscriptError.{TheVariants.BadProofShape, TheVariants.OutOfMemory}
use Rattle.p3_driver_core.specs.Reads.{Read, unreadable, read_value, read_each, read_values, then_read}
use Rattle.p3_driver_core.specs.Reads.{absorbed_first, in_front, LeavesEach, LeavesValues, FailsFor, FailsForList}
use Rattle.p3_driver_core.specs.Reads.{too_many_values}
use Rattle.p3_challenger_core.specs.declared.error.ChallengerError.TheVariants as challenger

-- values observed, and then one more
observed-one_more : {S A : Type 0} (observed : S → A → S) (xs : List A) (x : A) (s : S) →
    observed_all observed s (xs ++ (x ∷ [])) ≡ observed (observed_all observed s xs) x
observed-one_more observed [] x s = refl
observed-one_more observed (y ∷ ys) x s = observed-one_more observed ys x (observed s y)

-- values that were read in front of those that are read after them
abbrev pub after_values : {S A : Type 0} → (S → A → S) → List A → Read S (List A) → Read S (List A)
after_values observed xs (Ok found) = Ok (xs ++ found.0, found.1)
after_values observed xs (Err failure) =
    Err (record {
      reason = failure.reason;
      left = failure.left;
      absorbed = λ s. failure.absorbed (observed_all observed s xs);
    })

after_none : {S A : Type 0} (observed : S → A → S) (r : Read S (List A)) → after_values observed [] r ≡ r
after_none observed (Ok found) = refl
after_none observed (Err failure) = refl

after_one_more : {S A : Type 0} (observed : S → A → S) (xs : List A) (x : A) (r : Read S (List A)) → after_values
    observed xs (absorbed_first (λ s. observed s x) (in_front x r)) ≡ after_values observed (xs ++ (x ∷ [])) r
after_one_more observed xs x (Ok found) = ap (λ ys. Ok (ys, found.1)) (sym (append_assoc xs (x ∷ []) found.0))
after_one_more {S} {A} observed xs x (Err failure) =
    let Failed : (S → S) → Read S (List A) = λ (f : S → S). Err (record {
      reason = failure.reason;
      left = failure.left;
      absorbed = λ s. failure.absorbed (f s);
    }) in
    ap Failed (λ i s. sym (observed-one_more observed xs x s) i)

module _ {S Symbol A : Type 0} (e : Encoding A) (o : Observation S Symbol A) where
  -- of n values, these were read and observed, and what is left of them goes on from here
  pub record ReadsOn (n : ℕ) (bytes : List ℕ) (s : S) (xs : List A) (left : ℕ) (here : List ℕ) (t : S) : Type 0 where
    pub read : read_each e o.observed n bytes ≡ after_values o.observed xs (read_each e o.observed left here)
    pub observed : t ≡ observed_all o.observed s xs
    pub leaves : (there : List ℕ) (u : S) → LeavesEach e o left here t there u → LeavesEach e o n bytes s there u

  pub reads_on-start : (n : ℕ) (bytes : List ℕ) (s : S) → ReadsOn n bytes s [] n bytes s
  reads_on-start n bytes s = record {
    read = sym (after_none o.observed (read_each e o.observed n bytes));
    observed = refl;
    leaves = λ there u h. h;
  }

  -- one more is read and observed
  pub reads_on-next : (n : ℕ) (bytes : List ℕ) (s : S) (xs : List A) (left : ℕ) (here rest : List ℕ) (t v : S) (x : A) →
      read_value {S = S} e here ≡ Ok (x, rest) → v ≡ o.observed t x → ReadsOn n bytes s xs (suc left) here t →
      ReadsOn n bytes s (xs ++ (x ∷ [])) left rest v
  unfolding read_each LeavesEach
  reads_on-next n bytes s xs left here rest t v x found moved on = record {
    read = on.read ∙ ap (λ r. after_values o.observed xs (then_read
        (λ y bs. absorbed_first (λ w. o.observed w y) (in_front y (read_each e o.observed left bs))) r)) found
        ∙ after_one_more o.observed xs x (read_each e o.observed left rest);
    observed = moved ∙ ap (λ w. o.observed w x) on.observed ∙ sym (observed-one_more o.observed xs x s);
    leaves = λ there u h. on.leaves there u
        (x, rest, found, inr (subst (λ w. LeavesEach e o left rest w there u) moved h));
  }

  -- the next one is refused for memory
  pub reads_on-refused : (n : ℕ) (bytes : List ℕ) (s : S)
      (xs : List A) (left : ℕ) (here rest : List ℕ) (t u : S) (x : A) → read_value {S = S} e here ≡ Ok (x, rest) →
      o.may_leave t x u → ReadsOn n bytes s xs (suc left) here t → LeavesEach e o n bytes s rest u
  unfolding LeavesEach
  reads_on-refused n bytes s xs left here rest t u x found leaves on =
      on.leaves rest u (x, rest, found, inl (refl, leaves))

  -- the next one is none
  pub reads_on-stops : (n : ℕ) (bytes : List ℕ) (s : S) (xs : List A) (left : ℕ) (here there reason : List ℕ) (t : S) →
      read_value {S = S} e here ≡ unreadable reason there → ReadsOn n bytes s xs (suc left) here t →
      read_each e o.observed n bytes ≡ Err (record {
        reason = reason;
        left = there;
        absorbed = λ w. observed_all o.observed w xs;
      })
  unfolding read_each
  reads_on-stops n bytes s xs left here there reason t fails on = on.read ∙ ap (λ r. after_values o.observed xs
      (then_read (λ y bs. absorbed_first (λ w. o.observed w y) (in_front y (read_each e o.observed left bs))) r)) fails

  -- all of them are read
  pub reads_on-all : (n : ℕ) (bytes : List ℕ) (s : S) (xs : List A) (here : List ℕ) (t : S) →
      ReadsOn n bytes s xs 0 here t → read_each e o.observed n bytes ≡ Ok (xs, here)
  unfolding read_each
  reads_on-all n bytes s xs here t on = on.read ∙ ap (λ ys. Ok (ys, here)) (append-nil xs)

  -- the same at a count: i of n were read
  pub reads_on-one_left : (n : ℕ) (bytes : List ℕ) (s : S) (xs : List A) (i : ℕ) (here : List ℕ) (t : S) → i < n →
      ReadsOn n bytes s xs (n - i) here t → ReadsOn n bytes s xs (suc (n - (i + 1))) here t
  reads_on-one_left n bytes s xs i here t more on =
      let left : n - i ≡ suc (n - (i + 1)) = omega arith in
      subst (λ k. ReadsOn n bytes s xs k here t) left on

  pub reads_on-none_left : (n : ℕ) (bytes : List ℕ) (s : S) (xs : List A) (i : ℕ) (here : List ℕ) (t : S) → n ≤ i →
      ReadsOn n bytes s xs (n - i) here t → ReadsOn n bytes s xs 0 here t
  reads_on-none_left n bytes s xs i here t done on =
      let left : n - i ≡ 0 = omega arith in
      subst (λ k. ReadsOn n bytes s xs k here t) left on

  -- ---- whether there are bytes enough

  chosen : {R : Type 0} (b c : Bool) (x y : R) → b ≡ c → (if b then x else y) ≡ (if c then x else y)
  chosen b c x y is = ap (λ d. if d then x else y) is

  not_below : (a b : ℕ) → b ≤ a → nat_lt a b ≡ false
  not_below a b h = grind (arith, nat_tests)

  is_below : (a b : ℕ) → (b ≤ a → ⊥) → nat_lt a b ≡ true
  is_below a b h = grind (arith, nat_tests)

  -- there are
  pub enough : (n : ℕ) (bytes : List ℕ) (holds : Bool) (width : ℕ) → (IsTrue holds → n * width ≤ length bytes) →
      holds ≡ true → width ≡ e.width → n * e.width ≤ length bytes
  enough n bytes holds width means passed is = subst (λ w. n * w ≤ length bytes) is (means passed)

  -- so each is read
  pub enough-read : (n : ℕ) (bytes : List ℕ) (holds : Bool) (width : ℕ) → (IsTrue holds → n * width ≤ length bytes) →
      holds ≡ true → width ≡ e.width → read_values e o.observed n bytes ≡ read_each e o.observed n bytes
  enough-read n bytes holds width means passed is = chosen (nat_lt (length bytes) (n * e.width))
      false (unreadable too_many_values bytes) (read_each e o.observed n bytes)
      (not_below (length bytes) (n * e.width) (enough n bytes holds width means passed is))

  -- there are not, so none is
  pub short-read : (n : ℕ) (bytes : List ℕ) (holds : Bool) (width : ℕ) → (n * width ≤ length bytes → IsTrue holds) →
      holds ≡ false → width ≡ e.width → read_values e o.observed n bytes ≡ unreadable too_many_values bytes
  short-read n bytes holds width means failed is =
      let differ : true ≡ false → ⊥ = λ same. cc in
      let short : n * e.width ≤ length bytes → ⊥ = λ h.
      differ (sym (means (subst (λ w. n * w ≤ length bytes) (sym is) h)) ∙ failed) in
      chosen (nat_lt (length bytes) (n * e.width)) true (unreadable too_many_values bytes)
      (read_each e o.observed n bytes) (is_below (length bytes) (n * e.width) short)

  -- ---- refusals

  module _ (n : ℕ) (bytes : List ℕ) (s : S) (xs : List A) (left : ℕ) (here : List ℕ) (t : S)
      (on : ReadsOn n bytes s xs (suc left) here t) where
    pub fails-in_list : (whole : read_values e o.observed n bytes ≡ read_each e o.observed n bytes) (there : List ℕ)
        (v : S) (err : TranscriptError) → FailsFor (read_value {S = S} e here) there err → v ≡ t →
        FailsForList (read_values e o.observed n bytes) (LeavesValues e o n bytes) s there v err
    fails-in_list whole there v (BadProofShape reason) fails same = (
      record { reason = reason.now; left = there; absorbed = λ w. observed_all o.observed w xs },
      whole ∙ reads_on-stops n bytes s xs left here there reason.now t fails on,
      refl,
      refl,
      same ∙ on.observed,
    )
    fails-in_list whole there v err fails same = absurd fails

    pub refused-in_list : (rest : List ℕ) (u : S) (x : A) (err : ChallengerError) → n * e.width ≤ length bytes →
        read_value {S = S} e here ≡ Ok (x, rest) → RefusesObserve (o.may_leave t x) err u →
        FailsForList (read_values e o.observed n bytes) (LeavesValues e o n bytes) s rest u (transcript_error err)
    refused-in_list rest u x challenger.OutOfMemory held found refuses =
        (held, inr (reads_on-refused n bytes s xs left here rest t u x found refuses on))
    refused-in_list rest u x err held found refuses = absurd refuses

  -- ---- so many were read

  then-front : (n : ℕ) (x : A) (r : Read S (List A)) (xs : List A) (rest : List ℕ) →
      ((ys : List A) (bs : List ℕ) → r ≡ Ok (ys, bs) → length ys ≡ n) →
      absorbed_first (λ s. o.observed s x) (in_front x r) ≡ Ok (xs, rest) → length xs ≡ suc n
  then-front n x (Ok found) xs rest as_many is =
      let same : ◌≡◌ {A = List A × List ℕ} (x ∷ found.0, found.1) (xs, rest) = cc in
      sym (ap (λ p. length p.0) same) ∙ ap suc (as_many found.0 found.1 refl)
  then-front n x (Err failure) xs rest as_many is = absurd (cc)

  then-one : (n : ℕ) (r : Read S A) (xs : List A) (rest : List ℕ) →
      ((bytes : List ℕ) (ys : List A) (bs : List ℕ) → read_each e o.observed n bytes ≡ Ok (ys, bs) → length ys ≡ n) →
      then_read (λ x bs. absorbed_first (λ s. o.observed s x) (in_front x (read_each e o.observed n bs))) r
      ≡ Ok (xs, rest) → length xs ≡ suc n
  then-one n (Ok found) xs rest as_many is =
      then-front n found.0 (read_each e o.observed n found.1) xs rest (as_many found.1) is
  then-one n (Err failure) xs rest as_many is = absurd (cc)

  pub each-as_many : (n : ℕ) (bytes : List ℕ) (xs : List A) (rest : List ℕ) →
      read_each e o.observed n bytes ≡ Ok (xs, rest) → length xs ≡ n
  unfolding read_each
  each-as_many zero bytes xs rest is =
      let same : ◌≡◌ {A = List A × List ℕ} ([], bytes) (xs, rest) = cc in sym (ap (λ p. length p.0) same)
  each-as_many (suc n) bytes xs rest is = then-one n (read_value {S = S} e bytes) xs rest (each-as_many n) is

  values-chosen : (b : Bool) (n : ℕ) (bytes : List ℕ) (xs : List A) (rest : List ℕ) →
      (if b then unreadable too_many_values bytes else read_each e o.observed n bytes) ≡ Ok (xs, rest) → length xs ≡ n
  values-chosen true n bytes xs rest is = absurd (cc)
  values-chosen false n bytes xs rest is = each-as_many n bytes xs rest is

  pub values-as_many : (n : ℕ) (bytes : List ℕ) (xs : List A) (rest : List ℕ) →
      read_values e o.observed n bytes ≡ Ok (xs, rest) → length xs ≡ n
  values-as_many n bytes xs rest is = values-chosen (nat_lt (length bytes) (n * e.width)) n bytes xs rest is
