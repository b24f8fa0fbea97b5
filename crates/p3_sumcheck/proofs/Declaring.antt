-- The steps of rounds, as they are recorded and as they are played.
use Rattle.std.proofs.Common.{◌≡◌, ℕ, suc, ◌+◌, ◌-◌, ◌<◌, false, List, [], ◌∷◌, ◌++◌, length, sym, ap, ◌∙◌, arith}
use Rattle.std.proofs.Common.{append_assoc}
use Rattle.p3_challenger.specs.{Hierarchy.TheVariants.Atomic, Kind.Kind, Length.Length, PatternGrammar.IsViable}
use Rattle.p3_challenger.specs.{Recording.{Recording, Records, RefusesToRecord}, Rounds.{AreRounds, steps_of_rounds}}
use Rattle.p3_challenger.specs.RoundLaws.{rounds-steps, steps_of_rounds-flat, steps_of_rounds-then}
use Rattle.p3_challenger.specs.{Steps.{Step, carried_by, step_with}, TranscriptError.TranscriptError}
use Rattle.p3_challenger.specs.{TranscriptError.TheVariants.OutOfMemory, TranscriptLaws.next-then}
use Rattle.p3_challenger.specs.Transcripts.{AreNext, Transcript, steps_on}
use Rattle.p3_sumcheck.specs.Sumchecks.{PlaysRound, RefusesToDeclare, Sumcheck, round_steps}
use Rattle.p3_sumcheck.specs.{declared.round.Round.Round, DeclaringLaws.{only-memory, viable-first}}

-- a step of the same type as another
abbrev pub alike : Kind → List ℕ → Length → Step → Step
alike kind label length s = step_with Atomic kind label s.type_tag s.type_name (carried_by s.type_tag length)

pub declares-more : (first second : Step) (n : ℕ) (start here middle end : Recording) →
    here.steps ≡ start.steps ++ steps_of_rounds (first ∷ second ∷ []) n → Records here first middle →
    Records middle second end → end.steps ≡ start.steps ++ steps_of_rounds (first ∷ second ∷ []) (n + 1)
declares-more first second n start here middle end so_far one two =
    let done = steps_of_rounds (first ∷ second ∷ []) n in
    rw (steps_of_rounds-then (first ∷ second ∷ []) n 1, two.recorded, one.recorded, so_far)
    (append_assoc (start.steps ++ done) (first ∷ []) (second ∷ [])
    ∙ append_assoc start.steps done (first ∷ second ∷ []))

-- After some of these steps the next one is refused; and where some pattern begins with the steps so far and these, and
-- none was refused before, memory alone is.
abbrev pub StopsAt : List Step → Recording → Recording → TranscriptError → Recording → Type 0
StopsAt steps start here e after =
    RefusesToDeclare steps start e after
    × (here.finished ≡ false → IsViable (start.steps ++ steps) → e ≡ OutOfMemory)

stops-at : (steps done others : List Step) (next : Step) (start here after : Recording) (e : TranscriptError) →
    steps ≡ done ++ (next ∷ others) → here.steps ≡ start.steps ++ done → RefusesToRecord here next e after →
    StopsAt steps start here e after
stops-at steps done others next start here after e all so_far refuses = (
  (done, next, others, here, all, so_far, refuses),
  λ going viable. only-memory here after next e going
      (rw so_far (viable-first start.steps done others next (rw all at viable))) refuses,
)

-- steps of rounds that are equal to others
module _ (first second one other : Step) (is_first : first ≡ one) (is_second : second ≡ other) (n k : ℕ)
    (start here : Recording) (few : n < k)
    (so_far : here.steps ≡ start.steps ++ steps_of_rounds (first ∷ second ∷ []) n) where
  -- so many rounds, and what is left of more
  left-of : (others : List Step) × (steps_of_rounds (one ∷ other ∷ []) k
      ≡ steps_of_rounds (first ∷ second ∷ []) n ++ (first ∷ second ∷ others))
  left-of =
      let all : k ≡ n + suc (k - n - 1) = omega (arith, few) in (
        steps_of_rounds (one ∷ other ∷ []) (k - n - 1),
        rw (is_first, is_second) (ap (steps_of_rounds (one ∷ other ∷ [])) all
            ∙ steps_of_rounds-then (one ∷ other ∷ []) n (suc (k - n - 1))),
      )

  pub stops-first : (after : Recording) (e : TranscriptError) → RefusesToRecord here first e after →
      StopsAt (steps_of_rounds (one ∷ other ∷ []) k) start here e after
  stops-first after e refuses = stops-at _ _ (second ∷ left-of.0) first start here after e left-of.1 so_far refuses

  pub stops-second : (middle after : Recording) (e : TranscriptError) → Records here first middle →
      RefusesToRecord middle second e after → StopsAt (steps_of_rounds (one ∷ other ∷ []) k) start middle e after
  stops-second middle after e recorded refuses =
      let done = steps_of_rounds (first ∷ second ∷ []) n in
      stops-at _ (done ++ (first ∷ [])) left-of.0 second start middle after e
      (left-of.1 ∙ sym (append_assoc done (first ∷ []) (second ∷ left-of.0)))
      (rw (recorded.recorded, so_far) (append_assoc start.steps done (first ∷ []))) refuses

-- ---- rounds that are played

-- the steps of so many rounds
abbrev pub steps_of : {S Symbol F : Type 0} → Sumcheck S Symbol F → ℕ → List Step
steps_of m n = steps_of_rounds (round_steps m.field) n

module _ {S Symbol F : Type 0} (m : Sumcheck S Symbol F) where
  -- a round has its steps next, and passes them
  pub round-passes : (before : Transcript S) (round : Round F) (after : Transcript S) → PlaysRound m before round after →
      AreNext (round_steps m.field) before.playing × (after.playing ≡ steps_on (round_steps m.field) before.playing)
  round-passes before round after plays =
      let here = plays.sends.playing in
      ((plays.sends.is_next, (rw here at plays.draws.is_next, tt)), rw here at plays.draws.playing)

  pub rounds-pass : (rounds : List (Round F)) (before after : Transcript S) → AreRounds (PlaysRound m) before rounds after →
      AreNext (steps_of m (length rounds)) before.playing
      × (after.playing ≡ steps_on (steps_of m (length rounds)) before.playing)
  rounds-pass rounds before after plays =
      rw (← steps_of_rounds-flat (round_steps m.field) rounds)
      (rounds-steps (PlaysRound m) (λ t. t.playing) (λ _. round_steps m.field) round-passes before rounds after plays)

  -- the rounds that are left are next
  pub rounds-left : (n k : ℕ) (before here : Transcript S) (rounds : List (Round F)) → n ≡ length rounds + k →
      AreNext (steps_of m n) before.playing → AreRounds (PlaysRound m) before rounds here →
      AreNext (steps_of m k) here.playing
  rounds-left n k before here rounds is next plays =
      rw (rounds-pass rounds before here plays).1
      (next-then (steps_of m (length rounds)) (steps_of m k) before.playing
      (rw (is, steps_of_rounds-then (round_steps m.field) (length rounds) k) at next))
