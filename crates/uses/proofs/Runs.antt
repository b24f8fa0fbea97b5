-- A run of the small protocol, from what its steps did.
use Rattle.std.proofs.Common.{◌≡◌, ◌+◌, List, ℕ, [], ◌++◌, length, Some, Result, Ok, Err, IfOk, OnOk, append_assoc}
use Rattle.std.proofs.Common.{append-nil, arith, refl, ap, sym, subst, ◌∙◌, ◌↔◌, Bool, true, false, Option}
use Rattle.std.specs.{Bool.then_some, Result.result_and}
use Rattle.p3_challenger.specs.{Sampling.Sampling, Encoding.Encoding, Transcripts.Meaning, Observation.Observation}
use Rattle.p3_challenger.specs.{TranscriptError.TranscriptError, Driving.Driving, Proving.{Writes, WritesOrRefuses}}
use Rattle.p3_field.specs.BabyBearResidues.{BabyBear}
use Rattle.uses.specs.Protocol.{IsAnswer, IsDivisor, IsQuotient, IsRun, IsSent, after_line, bytes_of, quotient_of}
use Rattle.uses.specs.declared.protocol.Claim.{Claim}

-- what follows of the last step's being played
pub once-written : {S Symbol A R : Type 0} (m : Meaning S Symbol A) (before after : Driving S) (value : R → A)
    (P : Type 0) (r : Result R TranscriptError) → WritesOrRefuses m before value r after →
    ((x : A) → Writes m before x after → P) → OnOk r P
once-written m before after value P (Ok y) writes then = then (value y) writes
once-written m before after value P (Err e) writes then = tt

-- what follows of two results' being Ok
pub once-both : {A B E : Type 0} (P : Type 0) (Q R : B → Type 0) (first : Result A E) (second result : Result B E) →
    result ≡ result_and first second → OnOk first P → IfOk second Q → (P → (x : B) → Q x → R x) → IfOk result R
once-both P Q R (Ok x) (Ok y) result is p q then = subst (λ r. IfOk r R) (sym is) (then p y q)
once-both P Q R (Ok x) (Err e) result is p q then = subst (λ r. IfOk r R) (sym is) tt
once-both P Q R (Err e) second result is p q then = subst (λ r. IfOk r R) (sym is) tt

-- bytes that were written one after another
written : (before with_slope with_offset drawn divided after slope offset hint quotient : List ℕ) →
    with_slope ≡ before ++ slope → with_offset ≡ with_slope ++ offset → drawn ≡ with_offset → divided ≡ drawn →
    after ≡ divided ++ hint → hint ≡ quotient → after ≡ before ++ (slope ++ (offset ++ quotient))
written before with_slope with_offset drawn divided after slope offset hint quotient first second kept still last is =
    last
    ∙ ap (λ l. divided ++ l) is
    ∙ ap (λ l. l ++ quotient) (still ∙ kept ∙ second ∙ ap (λ l. l ++ offset) first ∙ append_assoc before slope offset)
    ∙ append_assoc before (slope ++ offset) quotient
    ∙ ap (λ l. before ++ l) (append_assoc slope offset quotient)

-- bytes that were read one after another
pub read : (unread after_slope after_offset drawn divided after slope offset quotient : List ℕ) →
    unread ≡ slope ++ after_slope → after_slope ≡ offset ++ after_offset → drawn ≡ after_offset → divided ≡ drawn →
    divided ≡ quotient ++ after → unread ≡ (slope ++ (offset ++ quotient)) ++ after
read unread after_slope after_offset drawn divided after slope offset quotient first second kept still last =
    first
    ∙ ap (λ l. slope ++ l)
    (second
    ∙ ap (λ l. offset ++ l) (sym kept ∙ sym still ∙ last)
    ∙ sym (append_assoc offset quotient after))
    ∙ sym (append_assoc slope (offset ++ quotient) after)

-- how many bytes were read
pub counted : (unread after_slope after_offset drawn divided after : List ℕ) →
    length unread ≡ 4 + length after_slope → length after_slope ≡ 4 + length after_offset → drawn ≡ after_offset →
    divided ≡ drawn → length divided ≡ 4 + length after → length unread ≡ 12 + length after
counted unread after_slope after_offset drawn divided after first second kept still last =
    omega (arith, first, second, ap length kept, ap length still, last)

module _ {S Symbol : Type 0} (o : Observation S Symbol BabyBear) (places divisors : Sampling S BabyBear)
    (e : Encoding BabyBear) where
  -- the challenges, from the states that the steps leave
  run-by : (s after_slope after_offset after_place : S) (claim : Claim) (bytes : List ℕ) →
      after_slope ≡ o.observed s claim.slope → after_offset ≡ o.observed after_slope claim.offset →
      places.sampled after_offset ≡ Some claim.place → after_place ≡ places.after after_offset →
      IsDivisor divisors after_place claim.divisor → bytes ≡ bytes_of e claim →
      IsRun o places divisors e s claim bytes
  run-by s after_slope after_offset after_place claim bytes slope offset place then divisor encoded =
      let observed : after_offset ≡ after_line o s claim = offset ∙ ap (λ u. o.observed u claim.offset) slope in
      record {
        place = ap places.sampled (sym observed) ∙ place;
        divisor = subst (λ u. IsDivisor divisors u claim.divisor) (then ∙ ap places.after observed) divisor;
        encoded = encoded;
      }

  -- what is so of a state and bytes is so of equal ones
  pub run-as : (s t : S) (claim : Claim) (bytes proof : List ℕ) → s ≡ t → bytes ≡ proof →
      IsRun o places divisors e s claim bytes → IsRun o places divisors e t claim proof
  run-as s t claim bytes proof start same is =
      subst (λ u. IsRun o places divisors e u claim proof) start
      (subst (λ b. IsRun o places divisors e s claim b) same is)

  pub sent-as : (s t : S) (slope offset : BabyBear) (bytes proof : List ℕ) → s ≡ t → bytes ≡ proof →
      IsSent o places divisors e s slope offset bytes → IsSent o places divisors e t slope offset proof
  sent-as s t slope offset bytes proof start same is =
      subst (λ u. IsSent o places divisors e u slope offset proof) start
      (subst (λ b. IsSent o places divisors e s slope offset b) same is)

  -- a prover's steps one after another
  pub sent-by : (s after_slope after_offset after_place : S) (claim : Claim)
      (before with_slope with_offset drawn divided
      after hint : List ℕ) → after_slope ≡ o.observed s claim.slope →
      after_offset ≡ o.observed after_slope claim.offset →
      places.sampled after_offset ≡ Some claim.place → after_place ≡ places.after after_offset →
      IsDivisor divisors after_place claim.divisor → claim.quotient ≡ quotient_of claim →
      with_slope ≡ before ++ e.wire claim.slope → with_offset ≡ with_slope ++ e.wire claim.offset →
      drawn ≡ with_offset → divided ≡ drawn → after ≡ divided ++ hint → hint ≡ e.wire claim.quotient →
      (bytes : List ℕ) × (after ≡ before ++ bytes) × IsSent o places divisors e s claim.slope claim.offset bytes
  sent-by s after_slope after_offset after_place claim before with_slope with_offset drawn divided after hint
      slope offset
      place then divisor quotient first second kept still last is =
      let bytes : List ℕ = bytes_of e claim in (
        bytes,
        written before with_slope with_offset drawn divided after (e.wire claim.slope) (e.wire claim.offset) hint
            (e.wire claim.quotient) first second kept still last is,
        record {
          claim = claim;
          line = (refl, refl);
          run = run-by s after_slope after_offset after_place claim bytes slope offset place then divisor refl;
          quotient = quotient;
        },
      )

-- what is answered, where just right quotients pass
pub answered : (right : Bool) (claim : Claim) (found : Option Claim) → found ≡ then_some right claim →
    (right ≡ true ↔ IsQuotient claim) → IsAnswer found claim
answered true claim found is exact = subst (λ f. IsAnswer f claim) (sym is) (refl, exact.0 refl)
answered false claim found is exact =
    let refused : IsQuotient claim → ⊥ = λ q. let no : false ≡ true = exact.1 q in absurd (cc) in
    subst (λ f. IsAnswer f claim) (sym is) refused

-- bytes that were written behind none are all that is there
pub sent-alone : (before after bytes proof : List ℕ) → before ≡ [] → proof ≡ after → after ≡ before ++ bytes →
    bytes ≡ proof
sent-alone before after bytes proof empty same is = sym (same ∙ is ∙ ap (λ l. l ++ bytes) empty)

-- bytes that were read, and left none, are all that was there
pub received-alone : (unread after bytes proof : List ℕ) → unread ≡ proof → after ≡ [] → unread ≡ bytes ++ after →
    bytes ≡ proof
received-alone unread after bytes proof same empty is =
    sym (append-nil bytes) ∙ ap (λ l. bytes ++ l) (sym empty) ∙ sym is ∙ same
