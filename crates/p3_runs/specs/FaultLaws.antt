-- Apart from out of memory, a script is refused for one fault: at one position, for one reason.
use Rattle.std.proofs.Common.{◌≡◌, ℕ, List, [], ◌∷◌, ◌++◌, ◌⊎◌, Option, Some, None, inl, inr, refl, sym, ap, ◌∙◌, subst}
use Rattle.std.proofs.Common.{length, false, true, slice_get}
use Rattle.p3_challenger_core.specs.declared.error.ChallengerError.TheVariants.{TooLong}
use Rattle.p3_fs_core.specs.Errors.{Refusal, refusal_of, challenger_refused, pattern_error, bad_proof_shape, pattern_error_of}
use Rattle.p3_fs_core.specs.{Steps.Step, declared.error.PatternError.TheVariants.{Finished, Unplayed}}
use Rattle.p3_fs_core.specs.declared.error.TranscriptError.{TranscriptError}
use Rattle.p3_fs_core.specs.declared.error.TranscriptError.TheVariants.{Pattern, BadProofShape, Challenger, OutOfMemory}
use Rattle.p3_patterns.specs.Playing.{FaultOfPlayEnd, IsPatternError, next_step}
use Rattle.p3_driver_core.specs.{Driving.{Driving, RefusesStart}, Reads.trailing_bytes, Verifying.RefusesEnd}
use Rattle.p3_runs.specs.{Faults.TellOneFault, FrontLaws.get-past, RefusalLaws.start-never}

-- ---- the seed and the end

start-refusal : (IsTooLong : Type 0) (e : TranscriptError) → RefusesStart IsTooLong e → (e ≡ OutOfMemory → ⊥) →
    refusal_of e ≡ challenger_refused TooLong
start-refusal L (Challenger TooLong) h other = refl
start-refusal L OutOfMemory h other = absurd (other refl)
start-refusal L _ h other = absurd h

-- why the end is refused: a step is left, or bytes are
abbrev refusal_at_end : Option Step → Refusal
refusal_at_end None = bad_proof_shape trailing_bytes
refusal_at_end (Some s) = pattern_error (Unplayed s)

pub end-refusal : {S : Type 0} (v : Driving S) (e : TranscriptError) → v.transcript.playing.finished ≡ false →
    RefusesEnd v e → refusal_of e ≡ refusal_at_end (next_step v.transcript.playing)
end-refusal v (Pattern Finished) going h = let both : false ≡ true = sym going ∙ h in absurd (cc)
end-refusal v (Pattern (Unplayed expected)) going h = sym (ap refusal_at_end h.1)
end-refusal v (BadProofShape reason) going h =
    let past : next_step v.transcript.playing ≡ None
    = ap (slice_get v.transcript.playing.pattern.steps) h.0.end ∙ get-past v.transcript.playing.pattern.steps in
    rw past (ap bad_proof_shape h.2)
end-refusal v _ going h = absurd h

-- an error that refuses the end to a prover would refuse it to a verifier
pub end-read : {S : Type 0} (v : Driving S) (e : TranscriptError) →
    IsPatternError (λ m. FaultOfPlayEnd v.transcript.playing (pattern_error_of m)) e → RefusesEnd v e
end-read v (Pattern e) h = h
end-read v _ h = absurd h

-- ---- two places in a list

pub record SamePlace {A : Type 0} (xs : List A) (x : A) (ys : List A) (y : A) : Type 0 where
  pub before : ys ≡ xs
  pub here : y ≡ x

-- the second list continues with the element after the first
pub record GoesPast {A : Type 0} (xs : List A) (x : A) (ys : List A) : Type 0 where
  pub between : List A
  pub split : ys ≡ xs ++ (x ∷ between)

module _ {A : Type 0} (x y : A) (ls ms : List A) where
  pub places : (xs ys : List A) → xs ++ (x ∷ ls) ≡ ys ++ (y ∷ ms) →
      SamePlace xs x ys y ⊎ GoesPast xs x ys ⊎ GoesPast ys y xs
  places [] [] h = let same : y ≡ x = cc in inl (record { before = refl; here = same })
  places [] (z ∷ ys) h =
      let same : z ≡ x = cc in inr (inl (record { between = ys; split = ap (λ w. w ∷ ys) same }))
  places (z ∷ xs) [] h =
      let same : z ≡ y = cc in inr (inr (record { between = xs; split = ap (λ w. w ∷ xs) same }))
  places (z ∷ xs) (w ∷ ys) h =
      let same : w ≡ z = cc in
      let rest : xs ++ (x ∷ ls) ≡ ys ++ (y ∷ ms) = cc in
      elim (places xs ys rest) [
        | inl one ↦
            inl (record { before = cc (one.before, same); here = one.here })
        | inr other ↦ elim other [
          | inl past ↦ inr (inl (record { between = past.between; split = cc (past.split, same) }))
          | inr past ↦ inr (inr (record { between = past.between; split = cc (past.split, same) }))
        ]
      ]

-- ---- one fault

module _ {X : Type 0} (steps : List X) (StopsAt : List X → X → TranscriptError → Type 0) where
  -- a side stops at a step of the list, after the steps before it
  pub record Stops (position : ℕ) (e : TranscriptError) : Type 0 where
    pub before : List X
    pub step : X
    pub later : List X
    pub steps_are : steps ≡ before ++ (step ∷ later)
    pub place : position ≡ length before
    pub stops : StopsAt before step e

  pub one-step : ((front : List X) (x : X) (e f : TranscriptError) → StopsAt front x e → StopsAt front x f →
      (e ≡ OutOfMemory → ⊥) → (f ≡ OutOfMemory → ⊥) → refusal_of e ≡ refusal_of f) →
      ((front longer : List X) (x y : X) (e f : TranscriptError) → StopsAt front x e → StopsAt longer y f →
      GoesPast front x longer → e ≡ OutOfMemory) → TellOneFault Stops
  one-step one past p q e f r t other another =
      elim (places r.step t.step r.later t.later r.before t.before (sym r.steps_are ∙ t.steps_are)) [
        | inl same ↦ (
          r.place ∙ ap length (sym same.before) ∙ sym t.place,
          one r.before r.step e f r.stops
              (subst (λ x. StopsAt r.before x f) same.here (subst (λ l. StopsAt l t.step f) same.before t.stops)) other another,
        )
        | inr apart ↦ elim apart [
          | inl longer ↦ absurd (other (past r.before t.before r.step t.step e f r.stops t.stops longer))
          | inr longer ↦ absurd (another (past t.before r.before t.step r.step f e t.stops r.stops longer))
        ]
      ]

module _ (IsTooLong : Type 0) (AtStep AtEnd : ℕ → TranscriptError → Type 0) (steps : TellOneFault AtStep)
    (ends : TellOneFault AtEnd) (apart : (p q : ℕ) (e f : TranscriptError) → AtStep p e → AtEnd q f → e ≡ OutOfMemory)
    (short_step : (p : ℕ) (e : TranscriptError) → AtStep p e → IsTooLong → ⊥)
    (short_end : (p : ℕ) (e : TranscriptError) → AtEnd p e → IsTooLong → ⊥) where
  later-one : TellOneFault (λ p e. AtStep p e ⊎ AtEnd p e)
  later-one p q e f (inl r) (inl t) other another = steps p q e f r t other another
  later-one p q e f (inl r) (inr t) other another = absurd (other (apart p q e f r t))
  later-one p q e f (inr r) (inl t) other another = absurd (another (apart q p f e t r))
  later-one p q e f (inr r) (inr t) other another = ends p q e f r t other another

  -- nothing follows a seed that is too long
  later-short : (p : ℕ) (e : TranscriptError) → AtStep p e ⊎ AtEnd p e → IsTooLong → ⊥
  later-short p e (inl r) long = short_step p e r long
  later-short p e (inr r) long = short_end p e r long

  pub one-fault : TellOneFault (λ p e. ((p ≡ 0) × RefusesStart IsTooLong e) ⊎ AtStep p e ⊎ AtEnd p e)
  one-fault p q e f (inl s) (inl t) other another =
      (s.0 ∙ sym t.0, start-refusal IsTooLong e s.1 other ∙ sym (start-refusal IsTooLong f t.1 another))
  one-fault p q e f (inl s) (inr t) other another = absurd (start-never IsTooLong e s.1 other (later-short q f t))
  one-fault p q e f (inr r) (inl s) other another = absurd (start-never IsTooLong f s.1 another (later-short p e r))
  one-fault p q e f (inr r) (inr t) other another = later-one p q e f r t other another
