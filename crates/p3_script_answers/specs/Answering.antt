-- A prover that asks for each value when its step comes.
use Rattle.std.specs.{Borrow.Bor, Prelude.{◌≡◌, ℕ, ◌≤◌, List, [], ◌∷◌, ◌++◌, length, Result, Ok, Err}}
use Rattle.p3_runs.specs.{Fronts.{IsFinished, AreLeast, challenges, Run}, Plays.Play, Rules.Rules}
use Rattle.p3_runs.specs.{Values.{Challenge, Value}, Verdicts.with_steps}
use Rattle.p3_script.specs.Scripts.{play_of, value_sent, values_sent, challenges_of}
use Rattle.p3_script.specs.declared.{fault.Fault.Fault, steps.{Drawn.Drawn, Sent.Sent}}
use Rattle.p3_script_prover.specs.ProverAnswers.{IsRefusedScript}
use Rattle.p3_script_answers.specs.declared.errors.ProveByError.{ProveByError}
use Rattle.p3_runs.specs.Plays as place
use Rattle.p3_runs.specs.Runs as runs
use Rattle.p3_script.specs.declared.steps.Step as step
use Rattle.p3_script_answers.specs.declared.errors.ProveByError.TheVariants as error

-- It is the turn of this step, which sends a value. The prover has finished a run of the steps before, for which it was
-- handed these values and drew these challenges.
pub record IsTurn {X S Symbol I F EF O Ac : Type 0} (rules : Rules S Symbol I F EF O Ac) (play : X → Play S Symbol F EF O)
    (script : Run X F EF S) (given : List (Value F EF)) (drawn : List (Challenge F EF)) (position : ℕ) (step : X) :
    Type 0 where
  pub before : List X
  pub later : List X
  pub steps : script.steps ≡ before ++ (step ∷ later)
  pub position_is : position ≡ length before
  pub values : List (Value F EF)
  pub finished : IsFinished rules play (with_steps script before values)
  pub least : AreLeast rules play (with_steps script before values)
  pub handed : given ≡ runs.handed play before values
  pub drawn_is : drawn ≡ challenges rules play (with_steps script before values)
  pub sends : (play step).place ≡ place.Sent

module _ {Su F EF U O C K Ac D G It St Sy P E : Type 0} (rules : Rules St Sy It F EF O Ac)
    (script : Run (step.Step Su F EF U O C K Ac D G It St Sy) F EF St)
    (answers : P → ℕ → Bor (List (Drawn Su F EF U O C K Ac D G It St Sy)) →
    Result (Sent Su F EF U O C K Ac D G It St Sy) E → P → Type 0) where
  -- From one state to another, the caller answers the step whose turn comes after these values, and borrows the earlier
  -- draws.
  pub record AnswersTurn (given : List (Sent Su F EF U O C K Ac D G It St Sy)) (position : ℕ) (here : P)
      (answer : Result (Sent Su F EF U O C K Ac D G It St Sy) E) (there : P) : Type 0 where
    pub drawn : Bor (List (Drawn Su F EF U O C K Ac D G It St Sy))
    pub step : step.Step Su F EF U O C K Ac D G It St Sy
    pub turn : IsTurn rules (play_of rules) script (values_sent given) (challenges_of drawn.now) position step
    pub answered : answers here position drawn answer there

  -- From one state to another, the caller answers these values after those already given, each at its turn.
  abbrev pub AnswersInTurn : List (Sent Su F EF U O C K Ac D G It St Sy) → P →
      List (Sent Su F EF U O C K Ac D G It St Sy) → P → Type 0
  AnswersInTurn given here [] last = last ≡ here
  AnswersInTurn given here (x ∷ sent) last = (position : ℕ) × (there : P)
      × AnswersTurn given position here (Ok x) there × AnswersInTurn (given ++ x ∷ []) there sent last

  -- the caller answered these values from the first one on, each at its turn
  pub record AreAnswers (first : P) (sent : List (Sent Su F EF U O C K Ac D G It St Sy)) : Type 0 where
    pub last : P
    pub in_turn : AnswersInTurn [] first sent last

  -- ---- where and why it stops

  -- each list that begins with these values is refused so; where all steps were played, these alone
  abbrev pub AreRefused : List (Sent Su F EF U O C K Ac D G It St Sy) → Fault → Type 0
  AreRefused given fault = (later : List (Value F EF)) → (length script.steps ≤ fault.position → later ≡ []) →
      IsRefusedScript rules script (values_sent given ++ later) fault

  -- the answer to the step whose turn it is does not fit the step
  pub record AnswersUnfit (given : List (Sent Su F EF U O C K Ac D G It St Sy)) (position : ℕ) (here : P) : Type 0 where
    pub value : Sent Su F EF U O C K Ac D G It St Sy
    pub there : P
    pub answers_turn : AnswersTurn given position here (Ok value) there
    pub unfit : (play_of rules answers_turn.step).IsHanded (value_sent value) → ⊥

  abbrev pub StopsAfter : List (Sent Su F EF U O C K Ac D G It St Sy) → P → ProveByError E → Type 0
  StopsAfter given here (error.Refused fault) = AreRefused given fault
  StopsAfter given here (error.Unanswered position e) = (there : P) × AnswersTurn given position here (Err e) there
  StopsAfter given here (error.Unfit position) = AnswersUnfit given position here

  -- the caller answered values from the first one on, each at its turn, and then the prover stops with this error
  pub record IsStopped (first : P) (e : ProveByError E) : Type 0 where
    pub given : List (Sent Su F EF U O C K Ac D G It St Sy)
    pub last : P
    pub in_turn : AnswersInTurn [] first given last
    pub stops : StopsAfter given last e
