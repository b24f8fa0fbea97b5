-- A verifier that follows a script step by step.
use Rattle.std.proofs.Common.{◌≡◌, ◌≤◌, ◌+◌, ℕ, suc, zero, List, [], ◌∷◌, ◌++◌, Option, Some, None, is_some, refl, sym}
use Rattle.std.proofs.Common.{ap, ◌∙◌, append_assoc, append-nil, length, drop, take, add-one, arith, slice_get, map}
use Rattle.std.proofs.{Common.◌⊎◌, lemmas.List.{drop_all, length-append}}
use Rattle.p3_fs_core.specs.declared.error.TranscriptError.{TranscriptError}
use Rattle.p3_patterns.specs.Playing.{Playing}
use Rattle.p3_driver_core.specs.{Driving.Driving, Transcripts.PlaysStep, Verifying.{EndsReading, RefusesEnd}}
use Rattle.p3_runs.specs.{Runs.{if_in_proof, if_carried, if_drawn}, Values.{Value, Challenge, one_witness, all_witnesses}}
use Rattle.p3_runs.specs.RunLaws.{AreMatched}
use Rattle.p3_runs.specs.RunLaws.{finished-matched, finishes-more, wires-more, picked-more, after-more, challenges-more}
use Rattle.p3_runs.specs.{Rules.Rules, Sides.Sides, Stepping.{TakesStep, Halts, IsCarriedTo, one_of}}
use Rattle.p3_runs.specs.Verdicts.{with_steps, driving_after, IsProof, IsOutcome, RefusesAtStep, RefusesAtEnd}
use Rattle.p3_runs.specs.{Plays.{Play, Place, Carried, meaning}, Fronts.{Run, IsFinished, pattern, seed, seeded}}
use Rattle.p3_runs.specs.Runs as runs

-- ---- lists

pub interactions-more : {A B : Type 0} (f : A → B) (xs : List A) (x : A) → map f (xs ++ x ∷ []) ≡ map f xs ++ f x ∷ []
interactions-more f [] x = refl
interactions-more f (y ∷ xs) x = ap (λ l. f y ∷ l) (interactions-more f xs x)

pub take-more : {A : Type 0} (xs : List A) (n : ℕ) (y : A) → slice_get xs n ≡ Some y → take (suc n) xs ≡ take n xs ++ y ∷ []
take-more [] n y h = absurd (cc)
take-more (x ∷ xs) zero y h = let e : x ≡ y = cc in ap (λ z. z ∷ []) e
take-more (x ∷ xs) (suc n) y h = ap (λ l. x ∷ l) (take-more xs n y h)

pub length-more : {A : Type 0} (xs : List A) (x : A) → length (xs ++ x ∷ []) ≡ suc (length xs)
length-more [] x = refl
length-more (y ∷ xs) x = ap suc (length-more xs x)

pub witnesses-split : {F EF : Type 0} (w : Option F) (xs ys : List F) → xs ≡ one_of w ++ ys →
    all_witnesses {EF = EF} xs ≡ one_witness w ++ all_witnesses ys
witnesses-split None xs ys h = ap all_witnesses h
witnesses-split (Some x) xs ys h = ap all_witnesses h

-- a caller carries as many witnesses to a step as the step has
as_many : {F : Type 0} (place : Place) (w : Option F) → IsCarriedTo place w →
    length (if_carried place (tt {0})) ≡ length (one_of w)
as_many Carried None h = absurd (cc)
as_many Carried (Some x) h = refl
as_many _ w h = ap (λ o. length (one_of o)) (sym h)

length-nil : {A : Type 0} (xs : List A) → length xs ≡ 0 → xs ≡ []
length-nil [] h = refl
length-nil (x ∷ xs) h = absurd (cc)

pub take_all : {A : Type 0} (xs : List A) → take (length xs) xs ≡ xs
take_all [] = refl
take_all (x ∷ xs) = ap (λ l. x ∷ l) (take_all xs)

-- a driver with these parts
parts : {S : Type 0} (d : Driving S) (s : S) (p : Playing) (bytes : List ℕ) → d.transcript.challenger ≡ s →
    d.transcript.playing ≡ p → d.bytes ≡ bytes →
    d ≡ record { transcript = record { challenger = s; playing = p }; bytes = bytes }
parts d s p bytes challenger playing left = λ i.
    record { transcript = record { challenger = challenger i; playing = playing i }; bytes = left i }

module _ {X S Symbol I F EF O Ac : Type 0} (rules : Rules S Symbol I F EF O Ac) (play : X → Play S Symbol F EF O) where
  -- The first i steps were played with these values, and j of the carried witnesses were used. The bytes read, the
  -- values received and the challenges drawn are those of this prefix, and the driver stands after it.
  pub record Follows (script : Run X F EF S) (bytes : List ℕ) (carried : List F) (i j : ℕ) (now : Driving S)
      (received : List (Value F EF)) (drawn : List (Challenge F EF)) : Type 0 where
    pub before : List X
    pub values : List (Value F EF)
    pub split : script.steps ≡ before ++ drop i script.steps
    pub place : length before ≡ i
    pub finished : IsFinished rules play (with_steps script before values)
    pub stands : now ≡ driving_after rules play (with_steps script before values) now.bytes
    pub read : bytes ≡ runs.wires play before values ++ now.bytes
    pub carries : all_witnesses carried ≡ runs.carried play before values ++ all_witnesses (drop j carried)
    pub left : runs.carried_count play (drop i script.steps) ≡ length (drop j carried)
    pub received_is : received ≡ runs.in_proof play before values
    pub drawn_is : drawn ≡ runs.challenges play before values (seeded rules play script)

  pub follows-start : (script : Run X F EF S) (bytes : List ℕ) (carried : List F) (now : Driving S) →
      now ≡ driving_after rules play (with_steps script [] []) bytes →
      (rules.alphabet.is_too_long (length (seed rules play script)) → ⊥) →
      runs.carried_count play script.steps ≡ length carried →
      Follows script bytes carried 0 0 now [] []
  follows-start script bytes carried now is fits left =
      let same : now.bytes ≡ bytes = ap (λ (d : Driving S). d.bytes) is in
      record {
        before = [];
        values = [];
        split = refl;
        place = refl;
        finished = record { in_pattern = refl; seed_fits = fits; finishes = tt };
        stands = is ∙ ap (driving_after rules play (with_steps script [] [])) (sym same);
        read = sym same;
        carries = refl;
        left = left;
        received_is = refl;
        drawn_is = refl;
      }

  -- ---- one more step

  -- the driver stands after a prefix, and the step is played with this value
  module _ (script : Run X F EF S) (before : List X) (values : List (Value F EF)) (x : X) (v : Value F EF)
      (bytes : List ℕ) (here there : Driving S) (t : Option (Challenge F EF))
      (finished : IsFinished rules play (with_steps script before values))
      (stands : here ≡ driving_after rules play (with_steps script before values) bytes) (fits : (play x).Fits v)
      (plays : PlaysStep (meaning (play x) v) here.transcript t there.transcript) where
    abbrev longer : Run X F EF S
    longer = with_steps script (before ++ x ∷ []) (values ++ v ∷ [])

    matched : AreMatched play before values
    matched = finished-matched play before values (seeded rules play script) finished.finishes

    pub on-finished : IsFinished rules play longer
    on-finished =
        let here = rw stands at plays in
        let some = ap is_some here.gives in
        record {
          in_pattern = rw (
            interactions-more (λ y. (play y).interaction) before x,
            length-more before x,
            take-more (pattern script) (length before) (play x).interaction here.is_next.1,
            finished.in_pattern,
          ) refl;
          seed_fits = finished.seed_fits;
          finishes = finishes-more play before values (seeded rules play script) x v finished.finishes fits here.fits some;
        }

    pub on-stands : (left : List ℕ) → there.bytes ≡ left → there ≡ driving_after rules play longer left
    on-stands left is =
        let here = rw stands at plays in
        parts there _ _ left (rw (after-more play before values (seeded rules play script) x v matched) here.challenger)
        (rw (length-more before x, ← add-one (length before)) here.playing) is

    pub on-picked : (pick : Place → Value F EF → List (Value F EF)) →
        runs.picked play pick longer.steps longer.values ≡ runs.picked play pick before values ++ pick (play x).place v
    on-picked pick = picked-more play pick before values x v matched

    pub on-wires : runs.wires play longer.steps longer.values ≡ runs.wires play before values ++ (play x).wire v
    on-wires = wires-more play before values x v matched

    pub on-drawn : runs.challenges play longer.steps longer.values (seeded rules play script)
        ≡ runs.challenges play before values (seeded rules play script) ++ if_drawn (Some t)
    on-drawn =
        let here = rw stands at plays in
        rw (challenges-more play before values (seeded rules play script) x v matched, here.gives) refl

  pub follows-on : (script : Run X F EF S) (bytes : List ℕ) (carried : List F) (i j k : ℕ) (here there : Driving S)
      (received shown : List (Value F EF)) (drawn : List (Challenge F EF)) (x : X) (w : Option F)
      (t : Option (Challenge F EF)) → drop i script.steps ≡ x ∷ drop (i + 1) script.steps →
      drop j carried ≡ one_of w ++ drop k carried → IsCarriedTo (play x).place w →
      Follows script bytes carried i j here received drawn → TakesStep (play x) w here shown t there →
      Follows script bytes carried (i + 1) k there (received ++ shown) (drawn ++ if_drawn (Some t))
  follows-on script bytes carried i j k here there received shown drawn x w t at uses brought f takes =
      let v = takes.value in
      let picked = on-picked script f.before f.values x v _ here there _ f.finished f.stands takes.fits takes.plays in
      let wires = on-wires script f.before f.values x v _ here there _ f.finished f.stands takes.fits takes.plays in
      let used = rw (witnesses-split w (drop j carried) (drop k carried) uses, ← takes.carried) at f.carries in
      let many = rw (at, uses, length-append) at f.left in
      record {
        before = f.before ++ x ∷ [];
        values = f.values ++ v ∷ [];
        split = rw (append_assoc, ← at) f.split;
        place = rw (length-more f.before x, f.place, add-one) refl;
        finished = on-finished script f.before f.values x v _ here there _ f.finished f.stands takes.fits takes.plays;
        stands = on-stands script f.before f.values x v _ here there _ f.finished f.stands takes.fits takes.plays there.bytes refl;
        read = rw (wires, append_assoc, ← takes.read) f.read;
        carries = rw (picked if_carried, append_assoc) used;
        left = omega (arith, many, as_many (play x).place w brought);
        received_is = rw (picked if_in_proof, takes.shown, f.received_is) refl;
        drawn_is = rw (
          on-drawn script f.before f.values x v _ here there _ f.finished f.stands takes.fits takes.plays,
          f.drawn_is,
        ) refl;
      }

  -- ---- a step is refused

  pub follows-refused : (sides : X → Sides S F EF) (script : Run X F EF S) (bytes : List ℕ) (carried : List F) (i j k : ℕ) (here there : Driving S)
      (received : List (Value F EF)) (drawn : List (Challenge F EF)) (x : X) (w : Option F) (e : TranscriptError) →
      drop i script.steps ≡ x ∷ drop (i + 1) script.steps → drop j carried ≡ one_of w ++ drop k carried →
      IsCarriedTo (play x).place w → Follows script bytes carried i j here received drawn →
      (sides x).verifier w here e there ⊎ Halts here e there → RefusesAtStep rules play sides script bytes carried i e
  follows-refused sides script bytes carried i j k here there received drawn x w e at uses brought f refuses =
      record {
        before = f.before;
        step = x;
        later = drop (i + 1) script.steps;
        steps = rw at at f.split;
        place = sym f.place;
        values = f.values;
        finished = f.finished;
        left = here.bytes;
        read = f.read;
        witness = w;
        unused = all_witnesses (drop k carried);
        brought = brought;
        carries = rw (witnesses-split w (drop j carried) (drop k carried) uses) at f.carries;
        after = there;
        refuses = rw f.stands at refuses;
      }

  -- ---- all steps were played

  -- the rest of a list past its end
  module _ (script : Run X F EF S) (bytes : List ℕ) (carried : List F) (i j : ℕ) (now : Driving S)
      (received : List (Value F EF)) (drawn : List (Challenge F EF)) (past : length script.steps ≤ i)
      (f : Follows script bytes carried i j now received drawn) where
    all_played : f.before ≡ script.steps
    all_played = sym (rw (drop_all i script.steps past, append-nil) at f.split)

    none_left : drop j carried ≡ []
    none_left = length-nil (drop j carried) (sym (rw (drop_all i script.steps past) at f.left))

    pub all_carried : all_witnesses carried ≡ runs.carried play script.steps f.values
    all_carried = rw (none_left, append-nil, all_played) at f.carries

    whole_finished : IsFinished rules play (with_steps script script.steps f.values)
    whole_finished = rw all_played at f.finished

    whole_stands : now ≡ driving_after rules play (with_steps script script.steps f.values) now.bytes
    whole_stands = rw all_played at f.stands

    whole_read : bytes ≡ runs.wires play script.steps f.values ++ now.bytes
    whole_read = rw all_played at f.read

    pub follows-not_ended : (e : TranscriptError) → RefusesEnd now e →
        RefusesAtEnd rules play script bytes carried (length script.steps) e
    follows-not_ended e refuses =
        record {
          place = refl;
          values = f.values;
          finished = whole_finished;
          left = now.bytes;
          read = whole_read;
          carries = all_carried;
          refuses = rw whole_stands at refuses;
        }

    pub follows-end : EndsReading now →
        IsProof rules play (with_steps script script.steps f.values) bytes carried
    follows-end ends =
        let played = rw whole_stands at ends.played in
        record {
          finished = whole_finished;
          whole = rw (played.end, take_all (pattern script)) at whole_finished.in_pattern;
          wire_is = rw (ends.whole, append-nil) at whole_read;
          carries = all_carried;
        }

    pub follows-outcome : (end : S) → end ≡ now.transcript.challenger →
        IsOutcome rules play (with_steps script script.steps f.values) received drawn end
    follows-outcome end is =
        record {
          received_is = rw all_played at f.received_is;
          drawn_is = rw all_played at f.drawn_is;
          end_is = rw whole_stands at is;
        }
