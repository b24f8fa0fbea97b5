-- What answers, turn by turn.
use Rattle.std.{specs.Borrow.Bor, proofs.Common.{◌≡◌, ◌+◌, ◌<◌, ◌++◌, ℕ, List, [], ◌∷◌, drop, length, get_or, refl}}
use Rattle.std.proofs.Common.{add-one, append_assoc, append-nil, ap, drop-cons, sym, subst, ◌∙◌}
use Rattle.std.proofs.Common.{Bool, true, false, Option, Some, None, Result, Ok, Err}
use Rattle.std.specs.Option.{option_copied}
use Rattle.p3_fs_core.specs.declared.error.TranscriptError.{TranscriptError}
use Rattle.p3_driver_core.specs.Driving.{Driving}
use Rattle.p3_runs.specs.{Fronts.Run, Plays.Play, Provings.where_carried, Rules.Rules, Runs.{if_drawn, if_sent}}
use Rattle.p3_runs.specs.{Stepping.{SendsStep, one_of}, Values.{Challenge, Nothing, Value}}
use Rattle.p3_script.specs.Scripts.{challenge_of, challenges_of, drawn_of, play_of, value_sent, values_sent}
use Rattle.p3_script.specs.{declared.{fault.Fault.Fault, standing.Standing.Standing}, Standings.{Stands, StandsSo}}
use Rattle.p3_script.specs.declared.steps.{Drawn.Drawn, Sent.Sent}
use Rattle.p3_script_prover.specs.{Nexts.carried_at, ProverAnswers.{SendsValue, value_given, value_played}}
use Rattle.p3_script_answers.specs.Answering.{AnswersInTurn, AnswersTurn, AnswersUnfit, AreRefused, IsStopped, IsTurn}
use Rattle.p3_script_answers.specs.Turns.{Comes, IsAnswerFor, IsAsked, PlaysWith, value_answered}
use Rattle.p3_script_answers.specs.declared.errors.ProveByError.{ProveByError}
use Rattle.p3_script_answers.proofs.AnsweringLaws.{Adds, AllAreRefused, ProvesFirst, first-turn}
use Rattle.p3_runs.specs.Plays as place
use Rattle.p3_script.specs.declared.standing.Standing.TheVariants as standing
use Rattle.p3_script.specs.declared.steps.Step as step
use Rattle.p3_script_answers.specs.declared.errors.ProveByError.TheVariants as error

pub not-both : (b : Bool) → b ≡ true → b ≡ false → ⊥
not-both b h n = let e : true ≡ false = sym h ∙ n in absurd (cc)

-- the part from i on begins with the element there
pub part-on : {X : Type 0} (xs : List X) (i : ℕ) (x : X) → i < length xs → x ≡ get_or xs i x →
    drop i xs ≡ x ∷ drop (i + 1) xs
part-on xs i x h e = rw (drop-cons xs i x, add-one, ← e) refl

-- a step whose value is handed is sent it
pub stands-sent : {S Symbol F EF O : Type 0} (play : Play S Symbol F EF O) (s : Standing) → StandsSo play s →
    s ≡ standing.Sent → play.place ≡ place.Sent
stands-sent play s h is = subst (Stands play) is h.so

-- a witness is carried where the code says so
carried-same : {S Symbol F EF O : Type 0} (play : Play S Symbol F EF O) (s : Standing) (xs : List F) → StandsSo play s →
    carried_at s xs ≡ where_carried play.place xs
carried-same play standing.Sent xs h = ap (λ p. where_carried p xs) (sym h.so)
carried-same play _ xs h = ap (λ p. where_carried p xs) (sym h.so.0)

module _ {Su F EF U O C K Ac D G It St Sy : Type 0} where
  sent-more : (xs : List (Sent Su F EF U O C K Ac D G It St Sy)) (x : Sent Su F EF U O C K Ac D G It St Sy) →
      values_sent (xs ++ x ∷ []) ≡ values_sent xs ++ value_sent x ∷ []
  sent-more [] x = refl
  sent-more (y ∷ xs) x = ap (λ l. value_sent y ∷ l) (sent-more xs x)

  drawn-more : (xs : List (Drawn Su F EF U O C K Ac D G It St Sy)) (drawn : Option (Drawn Su F EF U O C K Ac D G It St Sy)) →
      challenges_of (xs ++ one_of drawn) ≡ challenges_of xs ++ if_drawn (Some (drawn_of drawn))
  drawn-more [] None = refl
  drawn-more [] (Some x) = refl
  drawn-more (y ∷ xs) drawn = ap (λ l. challenge_of y ∷ l) (drawn-more xs drawn)

  -- what is lent of an answer
  pub given-same : (lent : Option (Bor (Sent Su F EF U O C K Ac D G It St Sy)))
      (value : Option (Sent Su F EF U O C K Ac D G It St Sy)) → option_copied lent ≡ value →
      value_given lent ≡ value_answered value
  given-same None None h = refl
  given-same None (Some x) h = absurd (cc)
  given-same (Some r) None h = absurd (cc)
  given-same (Some r) (Some x) h = let same : r.now ≡ x = cc in ap value_sent same

  module _ {S Symbol : Type 0} (play : Play S Symbol F EF O) where
    -- what is lent of an answer may be handed for its step
    pub lent-handed : (lent : Option (Bor (Sent Su F EF U O C K Ac D G It St Sy)))
        (value : Option (Sent Su F EF U O C K Ac D G It St Sy)) → option_copied lent ≡ value → IsAnswerFor play value →
        play.IsHanded (value_given lent)
    lent-handed None None h a = a.so.1
    lent-handed None (Some x) h a = absurd (cc)
    lent-handed (Some r) None h a = absurd (cc)
    lent-handed (Some r) (Some x) h a =
        let same : x ≡ r.now = cc in
        subst (λ y. play.IsHanded (value_sent y)) same a.so.1

    -- it is kept
    pub answer-adds : (value : Option (Sent Su F EF U O C K Ac D G It St Sy))
        (before after : List (Sent Su F EF U O C K Ac D G It St Sy)) → IsAnswerFor play value →
        after ≡ before ++ one_of value → Adds play (value_answered value) (values_sent before) (values_sent after)
    answer-adds None before after h e =
        record {
          handed = h.so.1;
          more = ap values_sent (e ∙ append-nil before) ∙ sym (append-nil (values_sent before))
              ∙ ap (λ l. values_sent before ++ l) (sym (h.so.0 Nothing));
        }
    answer-adds (Some x) before after h e =
        record {
          handed = h.so.1;
          more = ap values_sent e ∙ sent-more before x
              ∙ ap (λ p. values_sent before ++ if_sent p (value_sent x)) (sym h.so.0);
        }

    -- the step is played with it, and what comes of it is kept
    pub played-with : (s : Standing) (given : Value F EF) (here there : Driving S)
        (witnesses0 witnesses1 carried0 carried1 : List F) (drawn0 drawn1 : List (Drawn Su F EF U O C K Ac D G It St Sy))
        (witness : Option F) (drawn : Option (Drawn Su F EF U O C K Ac D G It St Sy)) → StandsSo play s →
        SendsValue play here given witness (drawn_of drawn) there → witnesses1 ≡ witnesses0 ++ one_of witness →
        carried1 ≡ carried0 ++ carried_at s (one_of witness) → drawn1 ≡ drawn0 ++ one_of drawn →
        PlaysWith play given here there witnesses0 witnesses1 carried0 carried1 (challenges_of drawn0) (challenges_of drawn1)
    played-with s given here there w0 w1 c0 c1 d0 d1 witness drawn stands sends w c d =
        record {
          witness = witness;
          drawn = drawn_of drawn;
          sends = record {
            value = value_played witness given;
            fits = sends.fits;
            sent = sends.sent;
            found = sends.found;
            chosen = sends.chosen;
            plays = sends.plays;
            written = sends.written;
          };
          witnesses_is = w;
          carried_is = c ∙ ap (λ l. c0 ++ l) (carried-same play s (one_of witness) stands);
          drawn_is = ap challenges_of d ∙ drawn-more d0 drawn;
        }

-- what was asked for may be answered for the step
pub asked-answer : {Su F EF U O C K Ac D G It St Sy S Symbol P E : Type 0} (play : Play S Symbol F EF O)
    (answers : P → ℕ → Bor (List (Drawn Su F EF U O C K Ac D G It St Sy)) →
    Result (Sent Su F EF U O C K Ac D G It St Sy) E → P → Type 0) (position : ℕ)
    (drawn : Bor (List (Drawn Su F EF U O C K Ac D G It St Sy))) (here there : P)
    (value : Option (Sent Su F EF U O C K Ac D G It St Sy)) →
    IsAsked play answers position drawn here there (Ok value) → IsAnswerFor play value
asked-answer play answers position drawn here there None h = record { so = h.comes.0 }
asked-answer play answers position drawn here there (Some x) h = record { so = h.comes.0 }

module _ {Su F EF U O C K Ac D G It St Sy P E : Type 0} (rules : Rules St Sy It F EF O Ac)
    (script : Run (step.Step Su F EF U O C K Ac D G It St Sy) F EF St)
    (answers : P → ℕ → Bor (List (Drawn Su F EF U O C K Ac D G It St Sy)) →
    Result (Sent Su F EF U O C K Ac D G It St Sy) E → P → Type 0) where
  -- these are the values that it answered from the first state to this one, each at its turn
  pub record HasAnswered (first : P) (sent : List (Sent Su F EF U O C K Ac D G It St Sy)) (now : P) : Type 0 where
    pub so : AnswersInTurn rules script answers [] first sent now

  pub answered-none : (first : P) (sent : List (Sent Su F EF U O C K Ac D G It St Sy)) → sent ≡ [] →
      HasAnswered first sent first
  answered-none first [] e = record { so = refl }
  answered-none first (x ∷ sent) e = absurd (cc)

  -- a turn more
  turn-on : (given sent : List (Sent Su F EF U O C K Ac D G It St Sy)) (first mid last : P) (position : ℕ)
      (x : Sent Su F EF U O C K Ac D G It St Sy) → AnswersInTurn rules script answers given first sent mid →
      AnswersTurn rules script answers (given ++ sent) position mid (Ok x) last →
      AnswersInTurn rules script answers given first (sent ++ x ∷ []) last
  turn-on given [] first mid last position x a t =
      let from : AnswersTurn rules script answers given position first (Ok x) last
      = subst (λ p. AnswersTurn rules script answers given position p (Ok x) last) a
      (subst (λ l. AnswersTurn rules script answers l position mid (Ok x) last) (append-nil given) t) in
      (position, last, from, refl)
  turn-on given (y ∷ sent) first mid last position x a t =
      let on = turn-on (given ++ y ∷ []) sent a.1 mid last position x a.3
      (subst (λ l. AnswersTurn rules script answers l position mid (Ok x) last)
      (sym (append_assoc given (y ∷ []) sent)) t) in
      (a.0, a.1, a.2, on)

  module _ (first here there : P) (sent : List (Sent Su F EF U O C K Ac D G It St Sy)) (i : ℕ)
      (x : step.Step Su F EF U O C K Ac D G It St Sy) (at : drop i script.steps ≡ x ∷ drop (i + 1) script.steps)
      (now : Driving St) (witnesses carried : List F) (drawn : Bor (List (Drawn Su F EF U O C K Ac D G It St Sy)))
      (drawn_is : List (Drawn Su F EF U O C K Ac D G It St Sy)) (lent : drawn.now ≡ drawn_is)
      (f : ProvesFirst rules (play_of rules) script (values_sent sent) i now witnesses carried (challenges_of drawn_is))
      (answered : HasAnswered first sent here) where
    turn-at : (play_of rules x).place ≡ place.Sent →
        IsTurn rules (play_of rules) script (values_sent sent) (challenges_of drawn.now) i x
    turn-at sends = subst (λ l. IsTurn rules (play_of rules) script (values_sent sent) (challenges_of l) i x) (sym lent)
        (first-turn rules (play_of rules) script i x at (values_sent sent) now witnesses carried (challenges_of drawn_is) f
        sends)

    -- it was asked for the step, and answered
    pub asked-on : (value : Option (Sent Su F EF U O C K Ac D G It St Sy)) →
        IsAsked (play_of rules x) answers i drawn here there (Ok value) → (more : List (Sent Su F EF U O C K Ac D G It St Sy)) →
        more ≡ sent ++ one_of value → HasAnswered first more there
    asked-on None c more e =
        record {
          so = subst (λ l. AnswersInTurn rules script answers [] first l there) (sym (e ∙ append-nil sent))
              (subst (λ p. AnswersInTurn rules script answers [] first sent p) (sym c.comes.1) answered.so);
        }
    asked-on (Some v) c more e =
        record {
          so = subst (λ l. AnswersInTurn rules script answers [] first l there) (sym e)
              (turn-on [] sent first here there i v answered.so
              (record { drawn = drawn; step = x; turn = turn-at c.comes.0.0; answered = c.comes.1 }));
        }

    -- there is no answer
    asked-comes : (e : ProveByError E) → Comes (play_of rules x) answers i drawn here there (Err e) →
        IsStopped rules script answers first e
    asked-comes (error.Refused fault) c = absurd c
    asked-comes (error.Unanswered at e) c =
        record {
          given = sent;
          last = here;
          in_turn = answered.so;
          stops = (
            there,
            subst (λ (n : ℕ). AnswersTurn rules script answers sent n here (Err e) there) (sym c.0)
                (record { drawn = drawn; step = x; turn = turn-at c.1; answered = c.2 }),
          );
        }
    asked-comes (error.Unfit at) c =
        record {
          given = sent;
          last = here;
          in_turn = answered.so;
          stops = subst (λ (n : ℕ). AnswersUnfit rules script answers sent n here) (sym c.0) (record {
            value = c.2.value;
            there = there;
            answers_turn = record { drawn = drawn; step = x; turn = turn-at c.1; answered = c.2.answered };
            unfit = c.2.unfit;
          });
        }

    pub asked-stops : (e : ProveByError E) → IsAsked (play_of rules x) answers i drawn here there (Err e) →
        IsStopped rules script answers first e
    asked-stops e c = asked-comes e c.comes
