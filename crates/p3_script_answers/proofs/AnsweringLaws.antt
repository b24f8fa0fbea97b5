-- A prover that asks for its values: the steps so far are a whole script by themselves.
use Rattle.std.proofs.Common.{◌≡◌, ◌≤◌, ◌+◌, ℕ, suc, zero, List, [], ◌∷◌, ◌++◌, refl, subst, drop, take, length}
use Rattle.std.proofs.Common.{add-one, inl, inr, sym, ap, ◌∙◌, append_assoc, append-nil, take-append-drop, arith}
use Rattle.std.proofs.Common.{◌⊎◌}
use Rattle.p3_fs_core.specs.{Errors.pattern_error_of, declared.error.TranscriptError.TranscriptError}
use Rattle.p3_fs_core.specs.declared.error.TranscriptError.TheVariants.{OutOfMemory}
use Rattle.p3_patterns.specs.Playing.{FaultOfPlayEnd, IsPatternError, IsPlayed}
use Rattle.p3_driver_core.specs.Driving.{Driving, RefusesStart}
use Rattle.p3_runs.specs.{Fronts.{Run, seed}, Plays.Play, Rules.Rules, Runs.{AreAdmitted, if_sent}, Stepping.Halts}
use Rattle.p3_runs.specs.Provings.{AreHanded, FirstIs, IsProved, IsProverOutcome, IsProverRun, RefusesToProve}
use Rattle.p3_runs.specs.Provings.{RefusesToProveEnd, RefusesToProveStep}
use Rattle.p3_runs.specs.ProvingLaws.{Proves, proves-end, proves-not_ended, proves-on, proves-refused, proves-start}
use Rattle.p3_runs.specs.RefusalLaws.{AreDetermined, AreRefusedForMemory, refused-never}
use Rattle.p3_runs.specs.{Sides.Sides, Values.{Challenge, Value}, Verdicts.{driving_after, with_steps}}
use Rattle.p3_script_answers.specs.{Answering.IsTurn, Turns.PlaysWith}
use Rattle.p3_runs.specs.Plays as place
use Rattle.p3_runs.specs.Runs as runs

-- ---- lists

none-left : {X : Type 0} (xs : List X) (i : ℕ) → drop i (take i xs) ≡ []
none-left [] zero = refl
none-left [] (suc i) = refl
none-left (y ∷ xs) zero = refl
none-left (y ∷ xs) (suc i) = none-left xs i

one-left : {X : Type 0} (xs : List X) (i : ℕ) (x : X) (rest : List X) → drop i xs ≡ x ∷ rest →
    drop i (take (suc i) xs) ≡ x ∷ []
one-left [] zero x rest h = absurd (cc)
one-left [] (suc i) x rest h = absurd (cc)
one-left (y ∷ xs) zero x rest h = let same : y ≡ x = cc in ap (λ z. z ∷ []) same
one-left (y ∷ xs) (suc i) x rest h = one-left xs i x rest h

one-more : {X : Type 0} (xs : List X) (i : ℕ) (x : X) (rest : List X) → drop i xs ≡ x ∷ rest →
    take (suc i) xs ≡ take i xs ++ x ∷ []
one-more [] zero x rest h = absurd (cc)
one-more [] (suc i) x rest h = absurd (cc)
one-more (y ∷ xs) zero x rest h = let same : y ≡ x = cc in ap (λ z. z ∷ []) same
one-more (y ∷ xs) (suc i) x rest h = ap (λ l. y ∷ l) (one-more xs i x rest h)

past-self : {X : Type 0} (xs : List X) → drop (length xs) xs ≡ []
past-self [] = refl
past-self (x ∷ xs) = past-self xs

past-first : {X : Type 0} (xs ys : List X) → drop (length xs) (xs ++ ys) ≡ ys
past-first [] ys = refl
past-first (x ∷ xs) ys = past-first xs ys

whole-taken : {X : Type 0} (xs : List X) (n : ℕ) → length xs ≤ n → take n xs ≡ xs
whole-taken [] zero h = refl
whole-taken [] (suc n) h = refl
whole-taken (x ∷ xs) zero h = absurd (omega (arith, h))
whole-taken (x ∷ xs) (suc n) h = ap (λ l. x ∷ l) (whole-taken xs n (omega (arith, h)))

-- a step with its own value alone
first-alone : {V : Type 0} (p : place.Place) (Is : V → Type 0) (given : V) → Is given →
    FirstIs p Is (λ values. values ≡ []) (if_sent p given)
first-alone place.Sent Is given h = (h, refl)
first-alone _ Is given h = refl

-- each step of a list that may be played may be
admitted-at : {X S Symbol F EF O : Type 0} (play : X → Play S Symbol F EF O) (steps rest : List X) (i : ℕ) (x : X) →
    AreAdmitted play steps → drop i steps ≡ x ∷ rest → (play x).admitted
admitted-at play [] rest zero x h at = absurd (cc)
admitted-at play [] rest (suc i) x h at = absurd (cc)
admitted-at play (y ∷ steps) rest zero x h at =
    let same : y ≡ x = cc in
    subst (λ z. (play z).admitted) same h.0
admitted-at play (y ∷ steps) rest (suc i) x h at = admitted-at play steps rest i x h.1 at

-- these values and then this one, where the step sends it: it may be handed for the step
pub record Adds {S Symbol F EF O : Type 0} (play : Play S Symbol F EF O) (given : Value F EF) (before after : List (Value F EF)) :
    Type 0 where
  pub handed : play.IsHanded given
  pub more : after ≡ before ++ if_sent play.place given

module _ {X S Symbol I F EF O Ac : Type 0} (rules : Rules S Symbol I F EF O Ac) (play : X → Play S Symbol F EF O) where
  -- the first steps of a script, as a script
  abbrev pub first_of : Run X F EF S → ℕ → Run X F EF S
  first_of script n = with_steps script (take n script.steps) []

  -- the first steps were played, with all values that were given
  pub record ProvesFirst (script : Run X F EF S) (sent : List (Value F EF)) (i : ℕ) (now : Driving S)
      (witnesses carried : List F) (drawn : List (Challenge F EF)) : Type 0 where
    pub proves : Proves rules play (first_of script i) sent i (length sent) now witnesses carried drawn

  -- the front that was played is that of the first steps, and it was handed what was given
  front-is : (script : Run X F EF S) (sent : List (Value F EF)) (i : ℕ) (now : Driving S)
      (witnesses carried : List F) (drawn : List (Challenge F EF))
      (f : ProvesFirst script sent i now witnesses carried drawn) → f.proves.before ≡ take i script.steps
  front-is script sent i now witnesses carried drawn f =
      sym (append-nil f.proves.before)
      ∙ ap (λ l. f.proves.before ++ l) (sym (none-left script.steps i)) ∙ sym f.proves.split

  all-given : (script : Run X F EF S) (sent : List (Value F EF)) (i : ℕ) (now : Driving S)
      (witnesses carried : List F) (drawn : List (Challenge F EF))
      (f : ProvesFirst script sent i now witnesses carried drawn) →
      sent ≡ runs.handed play f.proves.before f.proves.values
  all-given script sent i now witnesses carried drawn f =
      f.proves.hands ∙ ap (λ l. runs.handed play f.proves.before f.proves.values ++ l) (past-self sent)
      ∙ append-nil (runs.handed play f.proves.before f.proves.values)

  first-start : (script : Run X F EF S) (now : Driving S) →
      now ≡ driving_after rules play (with_steps script [] []) [] →
      (rules.alphabet.is_too_long (length (seed rules play script)) → ⊥) → ProvesFirst script [] 0 now [] [] []
  first-start script now is fits =
      record { proves = proves-start rules play (first_of script 0) [] now is fits refl }

  -- the same of lists that are empty
  pub first-empty : (script : Run X F EF S) (now : Driving S) (sent : List (Value F EF)) (witnesses carried : List F)
      (drawn : List (Challenge F EF)) → sent ≡ [] → witnesses ≡ [] → carried ≡ [] → drawn ≡ [] →
      now ≡ driving_after rules play (with_steps script [] []) [] →
      (rules.alphabet.is_too_long (length (seed rules play script)) → ⊥) →
      ProvesFirst script sent 0 now witnesses carried drawn
  first-empty script now [] [] [] [] a b c d is fits = first-start script now is fits
  first-empty script now (x ∷ sent) w c d e0 e1 e2 e3 is fits = absurd (cc)
  first-empty script now [] (x ∷ w) c d e0 e1 e2 e3 is fits = absurd (cc)
  first-empty script now [] [] (x ∷ c) d e0 e1 e2 e3 is fits = absurd (cc)
  first-empty script now [] [] [] (x ∷ d) e0 e1 e2 e3 is fits = absurd (cc)

  module _ (script : Run X F EF S) (i : ℕ) (x : X) (at : drop i script.steps ≡ x ∷ drop (i + 1) script.steps) where
    -- the step stands last in the script of one step more
    last-at : drop i (take (i + 1) script.steps) ≡ x ∷ drop (i + 1) (take (i + 1) script.steps)
    last-at =
        let one : drop i (take (i + 1) script.steps) ≡ x ∷ []
        = ap (λ (n : ℕ). drop i (take n script.steps)) (add-one i) ∙ one-left script.steps i x (drop (i + 1) script.steps) at in
        one ∙ ap (λ l. x ∷ l) (sym (none-left script.steps (i + 1)))

    module _ (sent : List (Value F EF)) (now : Driving S) (witnesses carried : List F)
        (drawn : List (Challenge F EF)) (f : ProvesFirst script sent i now witnesses carried drawn) where
      -- it may be played
      pub next-admitted : AreAdmitted play script.steps → (play x).admitted
      next-admitted may = admitted-at play script.steps (drop (i + 1) script.steps) i x may at

      -- it is its turn, where it sends a value
      pub first-turn : (play x).place ≡ place.Sent → IsTurn rules play script sent drawn i x
      first-turn sends =
          record {
            before = f.proves.before;
            later = drop (i + 1) script.steps;
            steps = sym (take-append-drop i script.steps)
                ∙ ap (λ l. l ++ drop i script.steps) (sym (front-is script sent i now witnesses carried drawn f))
                ∙ ap (λ l. f.proves.before ++ l) at;
            position_is = sym f.proves.place;
            values = f.proves.values;
            finished = f.proves.finished;
            least = f.proves.least;
            handed = all-given script sent i now witnesses carried drawn f;
            drawn_is = f.proves.drawn_is;
            sends = sends;
          }

      module _ (given : Value F EF) (more : List (Value F EF)) (k : Adds (play x) given sent more) where
        rest-given : drop (length sent) more ≡ if_sent (play x).place given
        rest-given = ap (drop (length sent)) k.more ∙ past-first sent (if_sent (play x).place given)

        rest-used : drop (length sent) more ≡ if_sent (play x).place given ++ []
        rest-used = rest-given ∙ sym (append-nil (if_sent (play x).place given))

        -- the script of one step more is played up to that step, with its value
        up-to : Proves rules play (first_of script (i + 1)) more i (length sent) now witnesses carried drawn
        up-to =
            record {
              before = f.proves.before;
              values = f.proves.values;
              split = ap (λ (n : ℕ). take n script.steps) (add-one i)
                  ∙ one-more script.steps i x (drop (i + 1) script.steps) at
                  ∙ ap (λ l. l ++ x ∷ []) (sym (front-is script sent i now witnesses carried drawn f))
                  ∙ ap (λ l. f.proves.before ++ x ∷ l) (sym (none-left script.steps (i + 1)))
                  ∙ ap (λ l. f.proves.before ++ l) (sym last-at);
              place = f.proves.place;
              finished = f.proves.finished;
              least = f.proves.least;
              stands = f.proves.stands;
              hands =
                  k.more
                  ∙ ap (λ l. l ++ if_sent (play x).place given) (all-given script sent i now witnesses carried drawn f)
                  ∙ ap (λ l. runs.handed play f.proves.before f.proves.values ++ l) (sym rest-given);
              left = subst (λ l. AreHanded play l (drop (length sent) more))
                  (sym (last-at ∙ ap (λ l. x ∷ l) (none-left script.steps (i + 1))))
                  (subst (λ l. AreHanded play (x ∷ []) l) (sym rest-given)
                  (first-alone (play x).place (play x).IsHanded given k.handed));
              witnesses_is = f.proves.witnesses_is;
              carried_is = f.proves.carried_is;
              drawn_is = f.proves.drawn_is;
            }

        -- a step more is played
        pub first-on : (there : Driving S) (witnesses1 carried1 : List F) (drawn1 : List (Challenge F EF)) →
            PlaysWith (play x) given now there witnesses witnesses1 carried carried1 drawn drawn1 →
            ProvesFirst script more (i + 1) there witnesses1 carried1 drawn1
        first-on there witnesses1 carried1 drawn1 p =
            let uses : drop (length sent) more ≡ if_sent (play x).place given ++ drop (length more) more
            = rest-used ∙ ap (λ l. if_sent (play x).place given ++ l) (sym (past-self more)) in
            let on = proves-on rules play (first_of script (i + 1)) more i (length sent) (length more) now there witnesses
            carried drawn x given p.witness p.drawn last-at uses up-to p.sends in
            record { proves = rw (p.witnesses_is, p.carried_is, p.drawn_is) on }

        -- it is refused
        next-refused : (sides : X → Sides S F EF) (there : Driving S) (e : TranscriptError) →
            (sides x).prover given now e there ⊎ Halts now e there →
            RefusesToProveStep rules play sides (first_of script (i + 1)) more i e
        next-refused sides there e refuses =
            proves-refused rules play sides (first_of script (i + 1)) more i (length sent) now there witnesses carried drawn x given
            [] e last-at rest-used k.handed up-to refuses

  -- ---- refusals

  -- Each list of values that begins with these is refused at this position for this, and where that is not for memory,
  -- it has no run. Where all steps were played, that is these alone.
  abbrev pub AllAreRefused : (X → Sides S F EF) → Run X F EF S → List (Value F EF) → ℕ → TranscriptError → Type 0
  AllAreRefused sides script given position e = (later : List (Value F EF)) → (length script.steps ≤ position → later ≡ []) →
      RefusesToProve rules play sides script (given ++ later) position e × ((e ≡ OutOfMemory → ⊥) →
      (values : List (Value F EF)) → IsProverRun rules play (with_steps script script.steps values) (given ++ later) → ⊥)

  -- a refusal of the last of the first steps is one of the script's, whatever values come later
  step-refused : (sides : X → Sides S F EF) (script : Run X F EF S) (sent later : List (Value F EF)) (n position : ℕ) (e : TranscriptError) →
      RefusesToProveStep rules play sides (first_of script n) sent position e →
      RefusesToProveStep rules play sides script (sent ++ later) position e
  step-refused sides script sent later n position e r =
      record {
        before = r.before;
        step = r.step;
        later = r.later ++ drop n script.steps;
        steps = sym (take-append-drop n script.steps) ∙ ap (λ l. l ++ drop n script.steps) r.steps
            ∙ append_assoc r.before (r.step ∷ r.later) (drop n script.steps);
        place = r.place;
        values = r.values;
        finished = r.finished;
        least = r.least;
        given = r.given;
        unused = r.unused ++ later;
        is_handed = r.is_handed;
        handed = ap (λ l. l ++ later) r.handed
            ∙ append_assoc (runs.handed play r.before r.values) (if_sent (play r.step).place r.given ++ r.unused) later
            ∙ ap (λ l. runs.handed play r.before r.values ++ l)
            (append_assoc (if_sent (play r.step).place r.given) r.unused later);
        after = r.after;
        refuses = r.refuses;
      }

  module _ (sides : X → Sides S F EF) (script : Run X F EF S) (told : AreDetermined play script.steps)
      (sendable : AreRefusedForMemory play sides script.steps) (may : AreAdmitted play script.steps) where
    -- the seed is refused
    pub seed-refused : (e : TranscriptError) → RefusesStart (rules.alphabet.is_too_long (length (seed rules play script))) e →
        AllAreRefused sides script [] 0 e
    seed-refused e h =
        λ later only. (inl (refl, h), refused-never rules play sides script later 0 e told sendable may (inl (refl, h)))

    module _ (sent : List (Value F EF)) (i : ℕ) (now : Driving S) (witnesses carried : List F)
        (drawn : List (Challenge F EF)) (f : ProvesFirst script sent i now witnesses carried drawn) where
      -- the next step is refused, with the value that was given for it
      pub first-refused : (x : X) → drop i script.steps ≡ x ∷ drop (i + 1) script.steps → (given : Value F EF)
          (more : List (Value F EF)) → Adds (play x) given sent more → (there : Driving S) (e : TranscriptError) →
          (sides x).prover given now e there ⊎ Halts now e there → AllAreRefused sides script more i e
      first-refused x at given more k there e refuses =
          let r = next-refused script i x at sent now witnesses carried drawn f given more k sides there e refuses in
          λ later only.
          let refused : RefusesToProve rules play sides script (more ++ later) i e
          = inr (inl (step-refused sides script more later (i + 1) i e r)) in
          (refused, refused-never rules play sides script (more ++ later) i e told sendable may refused)

      module _ (past : length script.steps ≤ i) where
        all-taken : take i script.steps ≡ script.steps
        all-taken = whole-taken script.steps i past

        taken-past : length (take i script.steps) ≤ i
        taken-past = subst (λ l. length l ≤ i) (sym all-taken) past

        -- all steps were played, and the end is refused
        pub end-refused : (e : TranscriptError) →
            IsPatternError (λ m. FaultOfPlayEnd now.transcript.playing (pattern_error_of m)) e →
            AllAreRefused sides script sent (length script.steps) e
        end-refused e h =
            let r = subst (λ l. RefusesToProveEnd rules play (with_steps script l []) sent (length l) e) all-taken
            (proves-not_ended rules play (first_of script i) sent i (length sent) now witnesses carried drawn taken-past
            f.proves e h) in
            let refused : RefusesToProve rules play sides script sent (length script.steps) e = inr (inr (record {
              place = r.place;
              values = r.values;
              finished = r.finished;
              least = r.least;
              handed = r.handed;
              refuses = r.refuses;
            })) in
            λ later only.
            let same : sent ++ later ≡ sent = ap (λ l. sent ++ l) (only (omega (arith))) ∙ append-nil sent in
            subst (λ l. RefusesToProve rules play sides script l (length script.steps) e × ((e ≡ OutOfMemory → ⊥) →
            (values : List (Value F EF)) → IsProverRun rules play (with_steps script script.steps values) l → ⊥))
            (sym same)
            (refused, refused-never rules play sides script sent (length script.steps) e told sendable may refused)

        -- all steps were played, and it ends
        pub first-end : (narg : List ℕ) (end : S) → IsPlayed now.transcript.playing → narg ≡ now.bytes →
            end ≡ now.transcript.challenger → IsProved rules play script sent narg witnesses carried drawn end
        first-end narg end ends narg_is end_is =
            record {
              values = f.proves.values;
              outcome = subst (λ l. IsProverOutcome rules play (with_steps script l f.proves.values) sent narg witnesses
                  carried drawn end) all-taken
                  (proves-end rules play (first_of script i) sent i (length sent) now witnesses carried drawn taken-past
                  f.proves narg end ends narg_is end_is);
            }
