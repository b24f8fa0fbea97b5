-- Laws of successive rounds: from facts of one round to facts of many.
use Rattle.std.proofs.Common.{◌≡◌, ℕ, zero, suc, ◌+◌, ◌<◌, ◌≤◌, false, List, [], ◌∷◌, ◌++◌, length, take, get_or, refl}
use Rattle.std.proofs.{Common.{sym, ap, subst, ◌∙◌, arith, add-one, append-nil, append_assoc}, Math.Seq.take-suc}
use Rattle.std.{proofs.lemmas.List.length-append, specs.List.flat_map}
use Rattle.p3_fs_core.specs.Steps.{Step}
use Rattle.p3_patterns.specs.Playing.{Playing, IsPlayed}
use Rattle.p3_driver_core.specs.{Transcripts.{Transcript, AreNext, step_on, steps_on}, Driving.Driving}
use Rattle.p3_step_laws.specs.Rounds.{AreRounds, steps_of_rounds}

-- a verifier stands before rounds: at this state, with the bytes of the rounds next, followed by the rest
abbrev pub StandsBefore : {S X : Type 0} → (X → List ℕ) → List ℕ → Transcript S → List X → Driving S → Type 0
StandsBefore wire rest transcript xs v = v ≡ record { transcript = transcript; bytes = flat_map wire xs ++ rest }

-- One side has played rounds to their end. Another side has played these, the first of them, and is here now. This
-- relation holds of the two sides before the rounds that are left.
pub record CompletesSoFar {V W X : Type 0} (IsRound : V → X → V → Type 0) (IsBefore : V → List X → W → Type 0)
    (rounds : List X) (end : V) (so_far : List X) (here : W) : Type 0 where
  pub start : V
  pub left : List X
  pub split : rounds ≡ so_far ++ left
  pub plays : AreRounds IsRound start left end
  pub before : IsBefore start left here

module _ {V X : Type 0} (IsRound : V → X → V → Type 0) where
  -- rounds, followed by others
  pub rounds-then : (before : V) (xs : List X) (here : V) (ys : List X) (after : V) → AreRounds IsRound before xs here →
      AreRounds IsRound here ys after → AreRounds IsRound before (xs ++ ys) after
  rounds-then before [] here ys after first then = subst (λ v. AreRounds IsRound v ys after) first then
  rounds-then before (x ∷ xs) here ys after first then =
      (first.0, first.1, rounds-then first.0 xs here ys after first.2 then)

  -- one more round
  pub rounds-more : (before : V) (xs : List X) (here : V) (x : X) (after : V) → AreRounds IsRound before xs here →
      IsRound here x after → AreRounds IsRound before (xs ++ (x ∷ [])) after
  rounds-more before xs here x after so_far more =
      rounds-then before xs here (x ∷ []) after so_far (after, more, refl)

  -- the next item of a list makes one more round
  pub rounds-taken : (before : V) (xs : List X) (i : ℕ) (here : V) (x : X) (after : V) → i < length xs →
      x ≡ get_or xs i x → AreRounds IsRound before (take i xs) here → IsRound here x after →
      AreRounds IsRound before (take (i + 1) xs) after
  rounds-taken before xs i here x after below is so_far more =
      let taken : take (i + 1) xs ≡ take i xs ++ (x ∷ []) = rw (add-one, take-suc xs i x below, ← is) in
      rw taken (rounds-more before (take i xs) here x after so_far more)

  -- if a part of the state sees each round, it sees all rounds
  pub rounds-seen : {W : Type 0} (seen : V → W) (IsSeen : W → X → W → Type 0) → ((before : V) (x : X) (after : V) →
      IsRound before x after → IsSeen (seen before) x (seen after)) → (before : V) (xs : List X) (after : V) →
      AreRounds IsRound before xs after → AreRounds IsSeen (seen before) xs (seen after)
  rounds-seen seen IsSeen each before [] after rounds = ap seen rounds
  rounds-seen seen IsSeen each before (x ∷ xs) after rounds =
      (seen rounds.0, each before x rounds.0 rounds.1, rounds-seen seen IsSeen each rounds.0 xs after rounds.2)

  -- if each round writes its bytes, all write theirs in order
  pub rounds-written : {A : Type 0} (written : V → List A) (wire : X → List A) → ((before : V) (x : X) (after : V) →
      IsRound before x after → written after ≡ written before ++ wire x) → (before : V) (xs : List X) (after : V) →
      AreRounds IsRound before xs after → written after ≡ written before ++ flat_map wire xs
  rounds-written written wire each before [] after rounds = ap written rounds ∙ sym (append-nil (written before))
  rounds-written written wire each before (x ∷ xs) after rounds =
      rw (rounds-written written wire each rounds.0 xs after rounds.2, each before x rounds.0 rounds.1, append_assoc)

  -- If each round reads its bytes, all read theirs in order. Each round preserves the premise on the state, such as
  -- that the unread values are bytes.
  pub rounds-read : {A : Type 0} (Is : V → Type 0) (unread : V → List A) (wire : X → List A) → ((before : V) (x : X)
      (after : V) → Is before → IsRound before x after → (unread before ≡ wire x ++ unread after) × Is after) →
      (before : V) (xs : List X) (after : V) → Is before → AreRounds IsRound before xs after →
      (unread before ≡ flat_map wire xs ++ unread after) × Is after
  rounds-read Is unread wire each before [] after is rounds = (ap unread (sym rounds), subst Is (sym rounds) is)
  rounds-read Is unread wire each before (x ∷ xs) after is rounds =
      let first = each before x rounds.0 is rounds.1 in
      let then = rounds-read Is unread wire each rounds.0 xs after first.1 rounds.2 in
      (rw (first.0, then.0, append_assoc), then.1)

-- ---- two sides, with a relation between them before the rounds that are left

module _ {V W X : Type 0} (IsRound : V → X → V → Type 0) (IsOther : W → X → W → Type 0)
    (IsBefore : V → List X → W → Type 0) where
  -- if the other side can play each round of the first side, it can play all of them
  pub rounds-matched : ((v : V) (x : X) (xs : List X) (after : V) (w : W) → IsBefore v (x ∷ xs) w →
      IsRound v x after → (u : W) × IsOther w x u × IsBefore after xs u) → (v : V) (xs : List X) (end : V) (w : W) →
      IsBefore v xs w → AreRounds IsRound v xs end → (u : W) × AreRounds IsOther w xs u × IsBefore end [] u
  rounds-matched each v [] end w before rounds = (w, refl, subst (λ t. IsBefore t [] w) (sym rounds) before)
  rounds-matched each v (x ∷ xs) end w before rounds =
      let first = each v x xs rounds.0 w before rounds.1 in
      let then = rounds-matched each rounds.0 xs end first.0 first.2 rounds.2 in
      (then.0, (first.0, first.1, then.1), then.2)

  -- where the other side can play no other round
  module _ (each : (v : V) (x : X) (xs : List X) (after : V) (w : W) (y : X) (u : W) → IsBefore v (x ∷ xs) w →
      IsRound v x after → IsOther w y u → (y ≡ x) × IsBefore after xs u) where
    -- no more rounds than the one side played are the first of its rounds
    pub rounds-completed : (v : V) (xs : List X) (end : V) (w : W) (ys : List X) (u : W) → IsBefore v xs w →
        AreRounds IsRound v xs end → AreRounds IsOther w ys u → length ys ≤ length xs →
        CompletesSoFar IsRound IsBefore xs end ys u
    rounds-completed v xs end w [] u before rounds others few =
        record {
          start = v;
          left = xs;
          split = refl;
          plays = rounds;
          before = subst (IsBefore v xs) (sym others) before;
        }
    rounds-completed v [] end w (y ∷ ys) u before rounds others few = absurd (omega (arith, few))
    rounds-completed v (x ∷ xs) end w (y ∷ ys) u before rounds others few =
        let first = each v x xs rounds.0 w y others.0 before rounds.1 others.1 in
        let then = rounds-completed rounds.0 xs end others.0 ys u first.1 rounds.2 others.2 (omega (arith, few)) in
        record {
          start = then.start;
          left = then.left;
          split = cc (first.0, then.split);
          plays = then.plays;
          before = then.before;
        }

    none-left : (xs : List X) (end : V) (ys : List X) (u : W) (start : V) (left : List X) → xs ≡ ys ++ left →
        AreRounds IsRound start left end → IsBefore start left u → length ys ≡ length xs →
        (ys ≡ xs) × IsBefore end [] u
    none-left xs end ys u start [] split plays before many =
        (sym (split ∙ append-nil ys), subst (λ t. IsBefore t [] u) (sym plays) before)
    none-left xs end ys u start (x ∷ left) split plays before many =
        absurd (omega (arith, many, ap length split, length-append ys (x ∷ left)))

    -- equally many rounds are its rounds
    pub rounds-same : (v : V) (xs : List X) (end : V) (w : W) (ys : List X) (u : W) → IsBefore v xs w →
        AreRounds IsRound v xs end → AreRounds IsOther w ys u → length ys ≡ length xs → (ys ≡ xs) × IsBefore end [] u
    rounds-same v xs end w ys u before rounds others many =
        let so_far = rounds-completed v xs end w ys u before rounds others (omega (arith, many)) in
        none-left xs end ys u so_far.start so_far.left so_far.split so_far.plays so_far.before many

-- a verifier before rounds has the bytes of the first one next
pub StandsBefore-first : {S X : Type 0} (wire : X → List ℕ) (rest : List ℕ) (transcript : Transcript S) (x : X)
    (xs : List X) (v : Driving S) → StandsBefore wire rest transcript (x ∷ xs) v →
    v ≡ record { transcript = transcript; bytes = wire x ++ (flat_map wire xs ++ rest) }
StandsBefore-first wire rest transcript x xs v stands =
    rw append_assoc at stands

-- ---- the steps of a pattern

next-append : (first then : List Step) (playing : Playing) → AreNext first playing →
    AreNext then (steps_on first playing) → AreNext (first ++ then) playing
next-append [] then playing one other = other
next-append (s ∷ first) then playing one other = (one.0, next-append first then (step_on playing) one.1 other)

steps_on-append : (first then : List Step) (playing : Playing) →
    steps_on (first ++ then) playing ≡ steps_on then (steps_on first playing)
steps_on-append [] then playing = refl
steps_on-append (s ∷ first) then playing = steps_on-append first then (step_on playing)

-- if each round has its steps next and passes them, so do all
pub rounds-steps : {V X : Type 0} (IsRound : V → X → V → Type 0) (playing : V → Playing) (steps : X → List Step) →
    ((before : V) (x : X) (after : V) → IsRound before x after →
    AreNext (steps x) (playing before) × (playing after ≡ steps_on (steps x) (playing before))) →
    (before : V) (xs : List X) (after : V) → AreRounds IsRound before xs after →
    AreNext (flat_map steps xs) (playing before) × (playing after ≡ steps_on (flat_map steps xs) (playing before))
rounds-steps IsRound playing steps each before [] after rounds = (tt, ap playing rounds)
rounds-steps IsRound playing steps each before (x ∷ xs) after rounds =
    let first = each before x rounds.0 rounds.1 in
    let then = rounds-steps IsRound playing steps each rounds.0 xs after rounds.2 in
    let later = rw first.1 at then.0 in
    (next-append (steps x) (flat_map steps xs) (playing before) first.0 later, rw (then.1, first.1, steps_on-append))

-- the steps of rounds, each with the same steps
pub steps_of_rounds-flat : {X : Type 0} (steps : List Step) (xs : List X) →
    flat_map (λ _. steps) xs ≡ steps_of_rounds steps (length xs)
steps_of_rounds-flat steps [] = refl
steps_of_rounds-flat steps (x ∷ xs) = ap (λ others. steps ++ others) (steps_of_rounds-flat steps xs)

-- the steps of some rounds, and of others after them
pub steps_of_rounds-then : (steps : List Step) (n k : ℕ) →
    steps_of_rounds steps (n + k) ≡ steps_of_rounds steps n ++ steps_of_rounds steps k
steps_of_rounds-then steps zero k = ap (steps_of_rounds steps) (omega arith)
steps_of_rounds-then steps (suc n) k =
    let next : suc n + k ≡ suc (n + k) = omega arith in
    rw (next, steps_of_rounds-then steps n k, append_assoc)

-- a player that passes the last steps of its pattern has played the pattern
pub listed-played : (before steps : List Step) (playing : Playing) → playing.pattern.steps ≡ before ++ steps →
    playing.position ≡ length before → playing.finished ≡ false → IsPlayed (steps_on steps playing)
listed-played before [] playing has at going =
    record { going = going; end = at ∙ sym (ap length (has ∙ append-nil before)) }
listed-played before (s ∷ steps) playing has at going =
    listed-played (before ++ (s ∷ [])) steps (step_on playing) (has ∙ sym (append_assoc before (s ∷ []) steps))
    (omega (arith, at, length-append before (s ∷ []))) refl
