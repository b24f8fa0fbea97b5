-- Lemmas on runs: adding a step at the end, and that bytes and carried witnesses determine a run.
use Rattle.std.proofs.{Common.{◌≡◌, ℕ, List, [], ◌∷◌, ◌++◌, IsSome, refl}, Common.{append_assoc, append-nil}}
use Rattle.p3_runs.specs.{Plays.{Play, Place}, Stepping.IsCanonical, Values.Value}
use Rattle.p3_runs.specs.Runs.{wires, picked, carried, after, challenges, Finishes, AreChosen, if_drawn}

module _ {X S Symbol F EF O : Type 0} (play : X → Play S Symbol F EF O) where
  -- there are as many values as steps
  abbrev pub AreMatched : List X → List (Value F EF) → Type 0
  AreMatched [] [] = Unit {0}
  AreMatched (x ∷ steps) (v ∷ values) = AreMatched steps values
  AreMatched _ _ = ⊥

  pub finished-matched : (steps : List X) (values : List (Value F EF)) (s : S) → Finishes play steps values s →
      AreMatched steps values
  finished-matched [] [] s h = tt
  finished-matched (x ∷ steps) (v ∷ values) s h = finished-matched steps values _ h.3
  finished-matched _ _ s h = absurd h

  -- ---- one more step

  pub finishes-more : (steps : List X) (values : List (Value F EF)) (s : S) (x : X) (v : Value F EF) →
      Finishes play steps values s → (play x).Fits v → ((play x).effect v).fits →
      IsSome (((play x).effect v).gives (after play steps values s)) →
      Finishes play (steps ++ x ∷ []) (values ++ v ∷ []) s
  finishes-more [] [] s x v h fits short gives = (fits, short, gives, tt)
  finishes-more (y ∷ steps) (w ∷ values) s x v h fits short gives =
      (h.0, h.1, h.2, finishes-more steps values _ x v h.3 fits short gives)
  finishes-more _ _ s x v h fits short gives = absurd h

  pub wires-more : (steps : List X) (values : List (Value F EF)) (x : X) (v : Value F EF) → AreMatched steps values →
      wires play (steps ++ x ∷ []) (values ++ v ∷ []) ≡ wires play steps values ++ (play x).wire v
  wires-more [] [] x v h = append-nil ((play x).wire v)
  wires-more (y ∷ steps) (w ∷ values) x v h =
      rw (wires-more steps values x v h, append_assoc)
  wires-more _ _ x v h = absurd h

  pub picked-more : (pick : Place → Value F EF → List (Value F EF)) (steps : List X) (values : List (Value F EF)) (x : X)
      (v : Value F EF) → AreMatched steps values →
      picked play pick (steps ++ x ∷ []) (values ++ v ∷ [])
      ≡ picked play pick steps values ++ pick (play x).place v
  picked-more pick [] [] x v h = append-nil (pick (play x).place v)
  picked-more pick (y ∷ steps) (w ∷ values) x v h =
      rw (picked-more pick steps values x v h, append_assoc)
  picked-more pick _ _ x v h = absurd h

  pub after-more : (steps : List X) (values : List (Value F EF)) (s : S) (x : X) (v : Value F EF) →
      AreMatched steps values →
      after play (steps ++ x ∷ []) (values ++ v ∷ []) s ≡ ((play x).effect v).after (after play steps values s)
  after-more [] [] s x v h = refl
  after-more (y ∷ steps) (w ∷ values) s x v h = after-more steps values _ x v h
  after-more _ _ s x v h = absurd h

  pub challenges-more : (steps : List X) (values : List (Value F EF)) (s : S) (x : X) (v : Value F EF) →
      AreMatched steps values →
      challenges play (steps ++ x ∷ []) (values ++ v ∷ []) s
      ≡ challenges play steps values s ++ if_drawn (((play x).effect v).gives (after play steps values s))
  challenges-more [] [] s x v h = append-nil (if_drawn (((play x).effect v).gives s))
  challenges-more (y ∷ steps) (w ∷ values) s x v h =
      rw (challenges-more steps values _ x v h, append_assoc)
  challenges-more _ _ s x v h = absurd h

  pub chosen-more : (steps : List X) (values : List (Value F EF)) (s : S) (x : X) (v : Value F EF) →
      AreMatched steps values → AreChosen play steps values s →
      (play x).IsChosen (after play steps values s) v →
      AreChosen play (steps ++ x ∷ []) (values ++ v ∷ []) s
  chosen-more [] [] s x v h chosen last = (last, tt)
  chosen-more (y ∷ steps) (w ∷ values) s x v h chosen last =
      (chosen.0, chosen-more steps values _ x v h chosen.1 last)
  chosen-more _ _ s x v h chosen last = absurd h

  -- ---- the bytes and the carried witnesses determine a run

  -- the bytes and the carried witness determine each step
  abbrev pub AreCanonical : List X → Type 0
  AreCanonical [] = Unit {0}
  AreCanonical (x ∷ steps) = IsCanonical (play x) × AreCanonical steps

  -- A run continues a prefix, with these bytes and carried witnesses, of which those are left after it.
  pub record GoesOn (front later : List X) (done values : List (Value F EF)) (s : S) (bytes left : List ℕ)
      (unused unspent : List (Value F EF)) : Type 0 where
    pub more : List (Value F EF)
    pub split : values ≡ done ++ more
    pub finishes : Finishes play later more (after play front done s)
    pub rest : bytes ≡ wires play later more ++ left
    pub carries : unused ≡ carried play later more ++ unspent

  -- The first values of a finished run are those of a finished prefix over the same bytes and carried witnesses.
  pub front-of_run : (front later : List X) (done values : List (Value F EF)) (s : S) (bytes left : List ℕ)
      (unused unspent : List (Value F EF)) → AreCanonical front → Finishes play front done s →
      Finishes play (front ++ later) values s →
      wires play front done ++ bytes ≡ wires play (front ++ later) values ++ left →
      carried play front done ++ unused ≡ carried play (front ++ later) values ++ unspent →
      GoesOn front later done values s bytes left unused unspent
  front-of_run [] later [] values s bytes left unused unspent canonical h run wire carries =
      record { more = values; split = refl; finishes = run; rest = wire; carries = carries }
  front-of_run (x ∷ front) later (w ∷ done) [] s bytes left unused unspent canonical h run wire carries = absurd run
  front-of_run (x ∷ front) later (w ∷ done) (v ∷ values) s bytes left unused unspent canonical h run wire carries =
      let one = canonical.0.one_way w v (wires play front done ++ bytes) (wires play (front ++ later) values ++ left)
      (carried play front done ++ unused) (carried play (front ++ later) values ++ unspent) h.0 run.0
      (simp append_assoc at wire) (simp append_assoc at carries) in
      let rest = front-of_run front later done values _ bytes left unused unspent canonical.1 h.3
      (rw (← one.0) at run.3) one.1 one.2 in
      record {
        more = rest.more;
        split = cc (rest.split, one.0);
        finishes = rest.finishes;
        rest = rest.rest;
        carries = rest.carries;
      }
  front-of_run _ later _ values s bytes left unused unspent canonical h run wire carries = absurd h
