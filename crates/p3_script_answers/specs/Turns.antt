-- One step of a script, for a prover that asks for the step's value.
use Rattle.std.specs.{Borrow.Bor, Prelude.{◌≡◌, ℕ, List, [], ◌++◌, Option, Some, None, Result, MatchResult, Ok, Err}}
use Rattle.p3_fs_core.specs.declared.error.TranscriptError.{TranscriptError}
use Rattle.p3_driver_core.specs.Driving.{Driving}
use Rattle.p3_runs.specs.{Plays.Play, Sides.Sides, Provings.where_carried, Runs.{if_sent, if_drawn}}
use Rattle.p3_runs.specs.{Stepping.{SendsStep, OrHalts, one_of}, Values.{Value, Challenge, Nothing}}
use Rattle.p3_script.specs.{Scripts.value_sent, declared.steps.{Drawn.Drawn, Sent.Sent}}
use Rattle.p3_script_answers.specs.declared.errors.ProveByError.{ProveByError}
use Rattle.p3_runs.specs.Plays as place
use Rattle.p3_script_answers.specs.declared.errors.ProveByError.TheVariants as error

-- The step is played with this value, or with the witness found, and its results are kept.
pub record PlaysWith {S Symbol F EF O : Type 0} (play : Play S Symbol F EF O) (given : Value F EF) (here there : Driving S)
    (witnesses0 witnesses1 carried0 carried1 : List F) (drawn0 drawn1 : List (Challenge F EF)) : Type 0 where
  pub witness : Option F
  pub drawn : Option (Challenge F EF)
  pub sends : SendsStep play (if_sent play.place given) here witness drawn there
  pub witnesses_is : witnesses1 ≡ witnesses0 ++ one_of witness
  pub carried_is : carried1 ≡ carried0 ++ where_carried play.place (one_of witness)
  pub drawn_is : drawn1 ≡ drawn0 ++ if_drawn (Some drawn)

-- The step is played, or it is refused, or memory for its results was refused.
pub record PlaysOrRefuses {S Symbol F EF O R : Type 0} (play : Play S Symbol F EF O) (sides : Sides S F EF)
    (given : Value F EF) (here : Driving S) (witnesses0 carried0 : List F) (drawn0 : List (Challenge F EF))
    (result : Result R TranscriptError) (there : Driving S) (witnesses1 carried1 : List F)
    (drawn1 : List (Challenge F EF)) : Type 0 where
  pub comes : MatchResult result
      (λ _. PlaysWith play given here there witnesses0 witnesses1 carried0 carried1 drawn0 drawn1)
      (λ e. OrHalts (sides.prover given) here e there)

module _ {Su F EF U O C K Ac D G It St Sy : Type 0} where
  -- the answer for a step, as a value
  abbrev pub value_answered : Option (Sent Su F EF U O C K Ac D G It St Sy) → Value F EF
  value_answered None = Nothing
  value_answered (Some x) = value_sent x

  module _ {S Symbol : Type 0} (play : Play S Symbol F EF O) where
    -- this is a valid answer for the step: a value that fits it, or nothing where the step sends none
    abbrev pub Answers : Option (Sent Su F EF U O C K Ac D G It St Sy) → Type 0
    Answers None = ((v : Value F EF) → if_sent play.place v ≡ []) × play.IsHanded Nothing
    Answers (Some x) = (play.place ≡ place.Sent) × play.IsHanded (value_sent x)

    pub record IsAnswerFor (value : Option (Sent Su F EF U O C K Ac D G It St Sy)) : Type 0 where
      pub so : Answers value

    module _ {P E : Type 0} (answers : P → ℕ → Bor (List (Drawn Su F EF U O C K Ac D G It St Sy)) →
        Result (Sent Su F EF U O C K Ac D G It St Sy) E → P → Type 0) (position : ℕ)
        (drawn : Bor (List (Drawn Su F EF U O C K Ac D G It St Sy))) (here there : P) where
      -- the caller is asked at this step, and its value does not fit the step
      pub record AnswersUnfitly : Type 0 where
        pub value : Sent Su F EF U O C K Ac D G It St Sy
        pub answered : answers here position drawn (Ok value) there
        pub unfit : play.IsHanded (value_sent value) → ⊥

      -- The caller is asked once where the step sends a value, and never where it sends none. Its result is a valid
      -- answer for the step, or the reason why there is no answer.
      abbrev pub Comes : Result (Option (Sent Su F EF U O C K Ac D G It St Sy)) (ProveByError E) → Type 0
      Comes (Ok None) = Answers None × (there ≡ here)
      Comes (Ok (Some x)) = Answers (Some x) × answers here position drawn (Ok x) there
      Comes (Err (error.Refused fault)) = ⊥
      Comes (Err (error.Unanswered at e)) =
          (at ≡ position) × (play.place ≡ place.Sent) × answers here position drawn (Err e) there
      Comes (Err (error.Unfit at)) = (at ≡ position) × (play.place ≡ place.Sent) × AnswersUnfitly

      pub record IsAsked (result : Result (Option (Sent Su F EF U O C K Ac D G It St Sy)) (ProveByError E)) : Type 0 where
        pub comes : Comes result
