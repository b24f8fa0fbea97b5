-- A prover that follows a script step by step.
use Rattle.std.proofs.Common.{◌≡◌, ◌≤◌, ◌+◌, ℕ, List, [], ◌∷◌, ◌++◌, Option, Some, None, refl, ◌⊎◌, sym, ap, ◌∙◌}
use Rattle.std.proofs.{Common.{append_assoc, append-nil, length, drop, add-one}, lemmas.List.drop_all}
use Rattle.p3_fs_core.specs.{Errors.pattern_error_of, declared.error.TranscriptError.TranscriptError}
use Rattle.p3_patterns.specs.Playing.{FaultOfPlayEnd, IsPatternError, IsPlayed}
use Rattle.p3_driver_core.specs.Driving.{Driving}
use Rattle.p3_runs.specs.{RunLaws.{finished-matched, chosen-more}, Rules.Rules, Verdicts.{driving_after, with_steps}}
use Rattle.p3_runs.specs.{Plays.{Carried, Place, Play, Sent}, Runs.{if_carried, if_witness, if_drawn, if_sent}}
use Rattle.p3_runs.specs.{Sides.Sides, Stepping.{SendsStep, one_of, Halts}, Provings.RefusesToProveStep}
use Rattle.p3_runs.specs.Provings.{RefusesToProveEnd, IsProverOutcome, where_carried, StartsHanded, AreHanded, FirstIs}
use Rattle.p3_runs.specs.FollowingLaws.{length-more, on-finished, on-stands, on-picked, take_all, on-wires, on-drawn}
use Rattle.p3_runs.specs.{Fronts.{IsFinished, AreLeast, pattern, seeded, seed, Run}, Values.{Challenge, Value, all_witnesses, one_witness}}
use Rattle.p3_runs.specs.Runs as runs

-- ---- lists

witnesses-append : {F EF : Type 0} (xs ys : List F) →
    all_witnesses {EF = EF} (xs ++ ys) ≡ all_witnesses xs ++ all_witnesses ys
witnesses-append [] ys = refl
witnesses-append (x ∷ xs) ys = ap (λ l. all_witnesses (x ∷ []) ++ l) (witnesses-append xs ys)

witnesses-one : {F EF : Type 0} (w : Option F) → all_witnesses {EF = EF} (one_of w) ≡ one_witness w
witnesses-one None = refl
witnesses-one (Some x) = refl

-- the caller carries the witness of exactly the steps whose place says so
one-carried : {F EF : Type 0} (place : Place) (v : Value F EF) (w : Option F) → if_witness place v ≡ one_witness w →
    all_witnesses (where_carried place (one_of w)) ≡ if_carried place v
one-carried Carried v w h = witnesses-one w ∙ sym h
one-carried _ v w h = refl

-- the values left after a step has taken its own
rest-handed : {V : Type 0} (place : Place) (Is : V → Type 0) (Rest : List V → Type 0) (given : V) (rest : List V) →
    FirstIs place Is Rest (if_sent place given ++ rest) → Rest rest
rest-handed Sent Is Rest given rest h = h.1
rest-handed _ Is Rest given rest h = h

-- if a step has a value, the first of the values is its own
pub first-handed : {V : Type 0} (place : Place) (Is : V → Type 0) (Rest : List V → Type 0) (values : List V) →
    FirstIs place Is Rest values → StartsHanded place Is values
first-handed Sent Is Rest [] h = absurd h
first-handed Sent Is Rest (v ∷ values) h = (h.0, tt)
first-handed _ Is Rest values h = tt

module _ {X S Symbol I F EF O Ac : Type 0} (rules : Rules S Symbol I F EF O Ac) (play : X → Play S Symbol F EF O) where
  -- The first i steps were played, and j of the values that the prover is handed were used. The bytes written, the
  -- witnesses found and the challenges drawn are those of this prefix, and the driver stands after it.
  pub record Proves (script : Run X F EF S) (sent : List (Value F EF)) (i j : ℕ) (now : Driving S)
      (witnesses carried : List F) (drawn : List (Challenge F EF)) : Type 0 where
    pub before : List X
    pub values : List (Value F EF)
    pub split : script.steps ≡ before ++ drop i script.steps
    pub place : length before ≡ i
    pub finished : IsFinished rules play (with_steps script before values)
    pub least : AreLeast rules play (with_steps script before values)
    pub stands : now ≡ driving_after rules play (with_steps script before values) (runs.wires play before values)
    pub hands : sent ≡ runs.handed play before values ++ drop j sent
    pub left : AreHanded play (drop i script.steps) (drop j sent)
    pub witnesses_is : all_witnesses witnesses ≡ runs.witnesses play before values
    pub carried_is : all_witnesses carried ≡ runs.carried play before values
    pub drawn_is : drawn ≡ runs.challenges play before values (seeded rules play script)

  pub proves-start : (script : Run X F EF S) (sent : List (Value F EF)) (now : Driving S) →
      now ≡ driving_after rules play (with_steps script [] []) [] →
      (rules.alphabet.is_too_long (length (seed rules play script)) → ⊥) →
      AreHanded play script.steps sent → Proves script sent 0 0 now [] [] []
  proves-start script sent now is fits handed =
      record {
        before = [];
        values = [];
        split = refl;
        place = refl;
        finished = record { in_pattern = refl; seed_fits = fits; finishes = tt };
        least = tt;
        stands = is;
        hands = refl;
        left = handed;
        witnesses_is = refl;
        carried_is = refl;
        drawn_is = refl;
      }

  pub proves-on : (script : Run X F EF S) (sent : List (Value F EF)) (i j k : ℕ) (here there : Driving S)
      (witnesses carried : List F) (drawn : List (Challenge F EF)) (x : X) (given : Value F EF) (w : Option F)
      (t : Option (Challenge F EF)) → drop i script.steps ≡ x ∷ drop (i + 1) script.steps →
      drop j sent ≡ if_sent (play x).place given ++ drop k sent →
      Proves script sent i j here witnesses carried drawn →
      SendsStep (play x) (if_sent (play x).place given) here w t there →
      Proves script sent (i + 1) k there (witnesses ++ one_of w) (carried ++ where_carried (play x).place (one_of w))
      (drawn ++ if_drawn (Some t))
  proves-on script sent i j k here there witnesses carried drawn x given w t at uses f sends =
      let v = sends.value in
      let picked = on-picked rules play script f.before f.values x v _ here there _ f.finished f.stands sends.fits sends.plays in
      let wires = on-wires rules play script f.before f.values x v _ here there _ f.finished f.stands sends.fits sends.plays in
      let written = rw (f.stands, ← wires) at sends.written in
      let stands = on-stands rules play script f.before f.values x v _ here there _ f.finished f.stands sends.fits sends.plays in
      let drawn_more = on-drawn rules play script f.before f.values x v _ here there _ f.finished f.stands sends.fits sends.plays in
      record {
        before = f.before ++ x ∷ [];
        values = f.values ++ v ∷ [];
        split = rw (append_assoc, ← at) f.split;
        place = rw (length-more f.before x, f.place, add-one) refl;
        finished = on-finished rules play script f.before f.values x v _ here there _ f.finished f.stands sends.fits sends.plays;
        least = chosen-more play f.before f.values (seeded rules play script) x v
            (finished-matched play f.before f.values (seeded rules play script) f.finished.finishes) f.least
            (rw f.stands at sends.chosen);
        stands = stands _ written;
        hands = rw (picked if_sent, append_assoc, sends.sent, ← uses) f.hands;
        left = rest-handed (play x).place (play x).IsHanded (AreHanded play (drop (i + 1) script.steps)) given
            (drop k sent) (rw (at, uses) at f.left);
        witnesses_is = rw (picked if_witness, witnesses-append, witnesses-one, sends.found, f.witnesses_is) refl;
        carried_is = rw (picked if_carried, witnesses-append, one-carried (play x).place v w sends.found, f.carried_is) refl;
        drawn_is = rw (drawn_more, f.drawn_is) refl;
      }

  -- the next step is handed the value that it takes
  pub proves-next : (script : Run X F EF S) (sent : List (Value F EF)) (i j : ℕ) (now : Driving S)
      (witnesses carried : List F) (drawn : List (Challenge F EF)) (x : X) →
      drop i script.steps ≡ x ∷ drop (i + 1) script.steps → Proves script sent i j now witnesses carried drawn →
      StartsHanded (play x).place (play x).IsHanded (drop j sent)
  proves-next script sent i j now witnesses carried drawn x at f =
      first-handed (play x).place (play x).IsHanded (AreHanded play (drop (i + 1) script.steps)) (drop j sent)
      (rw at at f.left)

  -- ---- a step is refused

  pub proves-refused : (sides : X → Sides S F EF) (script : Run X F EF S) (sent : List (Value F EF)) (i j : ℕ) (here there : Driving S)
      (witnesses carried : List F) (drawn : List (Challenge F EF)) (x : X) (given : Value F EF)
      (unused : List (Value F EF)) (e : TranscriptError) → drop i script.steps ≡ x ∷ drop (i + 1) script.steps →
      drop j sent ≡ if_sent (play x).place given ++ unused → (play x).IsHanded given →
      Proves script sent i j here witnesses carried drawn →
      (sides x).prover given here e there ⊎ Halts here e there → RefusesToProveStep rules play sides script sent i e
  proves-refused sides script sent i j here there witnesses carried drawn x given unused e at uses handed f refuses =
      record {
        before = f.before;
        step = x;
        later = drop (i + 1) script.steps;
        steps = rw at at f.split;
        place = sym f.place;
        values = f.values;
        finished = f.finished;
        least = f.least;
        given = given;
        unused = unused;
        is_handed = handed;
        handed = rw uses at f.hands;
        after = there;
        refuses = rw f.stands at refuses;
      }

  -- ---- all steps were played

  module _ (script : Run X F EF S) (sent : List (Value F EF)) (i j : ℕ) (now : Driving S) (witnesses carried : List F)
      (drawn : List (Challenge F EF)) (past : length script.steps ≤ i)
      (f : Proves script sent i j now witnesses carried drawn) where
    all_played : f.before ≡ script.steps
    all_played = sym (rw (drop_all i script.steps past, append-nil) at f.split)

    whole_finished : IsFinished rules play (with_steps script script.steps f.values)
    whole_finished = rw all_played at f.finished

    whole_least : AreLeast rules play (with_steps script script.steps f.values)
    whole_least = rw all_played at f.least

    whole_stands : now ≡ driving_after rules play (with_steps script script.steps f.values)
        (runs.wires play script.steps f.values)
    whole_stands = rw all_played at f.stands

    whole_handed : sent ≡ runs.handed play script.steps f.values
    whole_handed =
        let none : drop j sent ≡ [] = rw (drop_all i script.steps past) at f.left in
        rw (none, append-nil, all_played) at f.hands

    pub proves-not_ended : (e : TranscriptError) →
        IsPatternError (λ m. FaultOfPlayEnd now.transcript.playing (pattern_error_of m)) e →
        RefusesToProveEnd rules play script sent (length script.steps) e
    proves-not_ended e refuses =
        record {
          place = refl;
          values = f.values;
          finished = whole_finished;
          least = whole_least;
          handed = whole_handed;
          refuses = rw whole_stands at refuses;
        }

    pub proves-end : (narg : List ℕ) (end : S) → IsPlayed now.transcript.playing → narg ≡ now.bytes →
        end ≡ now.transcript.challenger →
        IsProverOutcome rules play (with_steps script script.steps f.values) sent narg witnesses carried drawn end
    proves-end narg end ends narg_is end_is =
        let played = rw whole_stands at ends in
        record {
          is_run = record {
            finished = whole_finished;
            whole = rw (played.end, take_all (pattern script)) at whole_finished.in_pattern;
            handed = whole_handed;
            least = whole_least;
          };
          narg_is = rw whole_stands at narg_is;
          witnesses_is = rw all_played at f.witnesses_is;
          carried_is = rw all_played at f.carried_is;
          drawn_is = rw all_played at f.drawn_is;
          end_is = rw whole_stands at end_is;
        }
