-- From what accepted proofs of one script queried to their values.
use Rattle.std.proofs.Common.{◌≡◌, inl, inr, List, refl, sym, ap, ◌∙◌}
use Rattle.p3_challenger.specs.{Segments.Call, Queries.LeaveSamePending, Fronts.{last, symbols}, Rules.Rules}
use Rattle.p3_challenger.specs.{AnswersBound.{AgreeButHints, EqualSymbolsHaveEqualValues}, Scripts.play_of}
use Rattle.p3_challenger.specs.Verdicts.{with_steps}
use Rattle.transcript_read_back.specs.AcceptedReadBack.{Script, Accepted, AcceptsAndQueries, AnswersEndAlike}
use Rattle.transcript_read_back.specs.AcceptedReadBack.{AcceptedReadBack, AcceptedReadBackOrCollide}
use Rattle.transcript_read_back.specs.CallByCall.{IsCallByCall}
use Rattle.transcript_read_back.specs.TranscriptReadBackLaws.{symbols-told, symbols-told_or_collide}
use Rattle.p3_challenger.specs.Segments as segments
use Rattle.p3_challenger.specs.Queries as queries

module _ {F EF O Ac M : Type 0} (Su U C K D G It S T : Type 0) (rules : Rules S T It F EF O Ac) (state : C → S)
    (run : S → List (Call T) → segments.Run T M S) (pending : S → List T) (fed : S → List T → S) (next : S → S)
    (by : IsCallByCall run fed next) (equal : EqualSymbolsHaveEqualValues Su U C K D G It S T rules state)
    (start : S) where
  module _ (s : Script Su U C K D G It S T rules state run pending)
      (v w : Accepted Su U C K D G It S T rules state run pending)
      (alike : AnswersEndAlike Su U C K D G It S T rules state run pending start s v w) where
    module _ (ms ns : List M) (one : AcceptsAndQueries Su U C K D G It S T rules state run pending s v ms)
        (other : AcceptsAndQueries Su U C K D G It S T rules state run pending s w ns) where
      ends-alike : pending (last rules (play_of rules) (with_steps s s.steps one.accepted.values))
          ≡ pending (last rules (play_of rules) (with_steps s s.steps other.accepted.values))
      ends-alike =
          sym (ap pending one.accepted.outcome.end_is) ∙ alike.pending_same
          ∙ ap pending other.accepted.outcome.end_is

      -- where they feed the same symbols, they agree
      agree : symbols rules (play_of rules) (with_steps s s.steps one.accepted.values)
          ≡ symbols rules (play_of rules) (with_steps s s.steps other.accepted.values) →
          AgreeButHints Su U C K D G It S T rules state s v w
      agree same =
          equal s one.proof other.proof one.carried other.carried v w one.accepted other.accepted one.holds
          other.holds same

  pub accepted-read_back : queries.ReadsBack (run start) pending →
      AcceptedReadBack Su U C K D G It S T rules state run pending start
  accepted-read_back reads s v w ms alike one other =
      agree s v w alike ms ms one other
      (symbols-told run pending fed next by rules (play_of rules) start
      (with_steps s s.steps one.accepted.values) (with_steps s s.steps other.accepted.values) ms ms
      (alike.begins, alike.begins) (ends-alike s v w alike ms ms one other) one.makes other.makes reads refl)

  pub accepted-read_back_or_collide : (LastAlike : List M → List M → Type 0) (Collide : M → M → Type 0)
      (CallsEndAlike : List (Call T) → List (Call T) → Type 0) →
      ((calls others : List (Call T)) → LastAlike (run start calls).queries (run start others).queries →
      LeaveSamePending (run start) pending calls others → CallsEndAlike calls others) →
      queries.ReadsBackOrCollides (run start) pending CallsEndAlike Collide →
      AcceptedReadBackOrCollide Su U C K D G It S T rules state run pending LastAlike Collide start
  accepted-read_back_or_collide LastAlike Collide CallsEndAlike alike_are reads s v w ms ns alike one other as_many
      last_alike =
      elim (symbols-told_or_collide run pending fed next by rules (play_of rules) start
      (with_steps s s.steps one.accepted.values) (with_steps s s.steps other.accepted.values) ms ns
      (alike.begins, alike.begins) (ends-alike s v w alike ms ns one other) one.makes other.makes LastAlike
      Collide CallsEndAlike alike_are reads as_many last_alike) [
        | inl same ↦ inl (agree s v w alike ms ns one other same)
        | inr found ↦ inr found
      ]
