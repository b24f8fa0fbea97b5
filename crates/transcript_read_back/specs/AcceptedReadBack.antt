-- What two accepted proofs of one script queried tells of them.
use Rattle.std.specs.Prelude.{◌≡◌, ◌⊎◌, ℕ, List, length}
use Rattle.p3_challenger.specs.{Segments.Call, Queries.CollideAtSomePlace, AnswersBound.{AgreeButHints, HoldsProof}}
use Rattle.p3_challenger.specs.{Fronts.Run, Rules.Rules, Scripts.play_of, Verdicts.with_steps, Verified.Verified}
use Rattle.p3_challenger.specs.VerifierAnswers.{IsVerifiedScript}
use Rattle.transcript_read_back.specs.TranscriptReadBack.{MakesQueries}
use Rattle.p3_challenger.specs.Segments as segments
use Rattle.p3_challenger.specs.Step as script

module _ {F EF O Ac M : Type 0} (Su U C K D G It S T : Type 0) (rules : Rules S T It F EF O Ac) (state : C → S)
    (run : S → List (Call T) → segments.Run T M S) (pending : S → List T) where
  abbrev pub Script : Type 0
  Script = Run (script.Step Su F EF U O C K Ac D G It S T) F EF S

  abbrev pub Accepted : Type 0
  Accepted = Verified Su F EF U O C K Ac D G It S T

  -- A proof of the script, which a program can hold, was accepted with this answer, and its run
  -- queries these.
  pub record AcceptsAndQueries (s : Script) (v : Accepted) (queries : List M) : Type 0 where
    pub proof : List ℕ
    pub carried : List F
    pub accepted : IsVerifiedScript rules s proof carried state v
    pub holds : HoldsProof rules (play_of rules) s.steps proof
    pub makes : MakesQueries run rules (play_of rules) (with_steps s s.steps accepted.values) queries

  -- a script begins at this state, and the final challengers of two answers have the same pending
  pub record AnswersEndAlike (start : S) (s : Script) (v w : Accepted) : Type 0 where
    pub begins : s.challenger ≡ start
    pub pending_same : pending (state v.challenger) ≡ pending (state w.challenger)

  -- Where two accepted proofs query the same, what was received is the same but for hints and
  -- witnesses of 0 bits, and so are the challenges and the final challengers.
  abbrev pub AcceptedReadBack : S → Type 0
  AcceptedReadBack start =
      (s : Script) (v w : Accepted) (queries : List M) → AnswersEndAlike start s v w →
      AcceptsAndQueries s v queries → AcceptsAndQueries s w queries →
      AgreeButHints Su U C K D G It S T rules state s v w

  -- Where they query equally many, the last alike, it is so too, or at one place two collide.
  abbrev pub AcceptedReadBackOrCollide : (LastAlike : List M → List M → Type 0)
      (Collide : M → M → Type 0) → S → Type 0
  AcceptedReadBackOrCollide LastAlike Collide start =
      (s : Script) (v w : Accepted) (queries others : List M) → AnswersEndAlike start s v w →
      AcceptsAndQueries s v queries → AcceptsAndQueries s w others → length queries ≡ length others →
      LastAlike queries others →
      AgreeButHints Su U C K D G It S T rules state s v w ⊎ CollideAtSomePlace Collide queries others
