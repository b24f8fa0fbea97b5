-- Two sumchecks in one transcript: who sends them is not refused by the pattern, and what is sent is received.
use Rattle.std.proofs.Common.{◌≡◌, ℕ, false, List, [], ◌∷◌, ◌++◌, Option, Some, refl, sym, ap, subst, ◌∙◌, append_assoc}
use Rattle.std.{proofs.{Common.{append-nil, Result, Ok, Err}, lemmas.List.append_cancel_left}, specs.List.flat_map}
use Rattle.std.specs.Result.{IfErr, IfOk, IsOk, MatchResult, OnOk, result_and}
use Rattle.p3_challenger.specs.{Playing.{IsPlayed, Playing}, TranscriptError.TheVariants.MismatchedBeginEnd}
use Rattle.p3_challenger.specs.TranscriptError.TheVariants.{BadProofShape, LabelTooLong, MissingBegin, InvalidKind}
use Rattle.p3_challenger.specs.TranscriptError.TheVariants.{OutOfMemory, Challenger, MissingEnd, Pattern}
use Rattle.p3_challenger.specs.{Proving.{RefusesToWrite, Writes}, Reads.received, OneReason.OnlyMemoryRefusesToRead}
use Rattle.p3_challenger.specs.{Rounds.steps_of_rounds, PatternSteps.PatternSteps, Steps.Step}
use Rattle.p3_challenger.specs.{Completeness.{IsOwnRefusal, Completes}, Transcripts.{steps_on, AreNext, step_on}}
use Rattle.p3_challenger.specs.{RoundLaws.{rounds-written, listed-played}, Driving.{RefusesStart, Driving}}
use Rattle.p3_challenger.specs.{TranscriptError.TranscriptError, TranscriptLaws.{listed-next, next-first, next-then}}
use Rattle.p3_challenger.specs.{Verifying.{RefusesToRead, EndsReading, Receives}, CompletenessLaws.next-own_refusal}
use Rattle.p3_sumcheck.specs.{Tables.total, Sumchecks.{Proves, Sumcheck, WritesRound, pair_of, round_steps, sent_pair}}
use Rattle.p3_sumcheck.specs.{Claims.true_rounds, declared.round.Round.Round}
use Rattle.uses.specs.TwoSums.{ProvesTwo, SendsSum, SendsTwo, begun, sent_sum, steps_of_sum, sum_step, with_bytes}
use Rattle.p3_challenger.specs.ChallengerError.TheVariants as challenger

-- ---- the pattern

steps-then : (first then : List Step) (playing : Playing) →
    steps_on (first ++ then) playing ≡ steps_on then (steps_on first playing)
steps-then [] then playing = refl
steps-then (s ∷ first) then playing = steps-then first then (step_on playing)

-- what follows of a step's or a call's being played
pub match-then : {R E P Q : Type 0} (B : E → Type 0) (result : Result R E) → (P → Q) →
    MatchResult result (λ _. P) B → MatchResult result (λ _. Q) B
match-then B (Ok r) then p = then p
match-then B (Err e) then b = b

pub ok-then : {R E P Q : Type 0} (result : Result R E) → (P → Q) → OnOk result P → OnOk result Q
ok-then (Ok r) then p = then p
ok-then (Err e) then p = tt

-- two calls of one list of steps: the first is next, and then the second
module _ (steps : List Step) (start here : Playing) (next : AreNext (steps ++ steps) start) where
  pub first-next : AreNext steps start
  first-next = next-first steps steps start next

  pub second-next : here ≡ steps_on steps start → AreNext steps here
  second-next is = subst (AreNext steps) (sym is) (next-then steps steps start next)

  pub both-passed : (end : Playing) → here ≡ steps_on steps start → end ≡ steps_on steps here →
      end ≡ steps_on (steps ++ steps) start
  both-passed end one other = other ∙ ap (steps_on steps) one ∙ sym (steps-then steps steps start)

-- why a driver could not be made is no fault of the pattern
pub start-own : (IsTooLong : Type 0) (e : TranscriptError) → RefusesStart IsTooLong e → IsOwnRefusal e
start-own IsTooLong (MissingBegin info) refuses = refuses
start-own IsTooLong (InvalidKind info) refuses = refuses
start-own IsTooLong (MismatchedBeginEnd info) refuses = refuses
start-own IsTooLong (MissingEnd info) refuses = refuses
start-own IsTooLong (BadProofShape reason) refuses = refuses
start-own IsTooLong (Pattern e) refuses = refuses
start-own IsTooLong (Challenger e) refuses = tt
start-own IsTooLong LabelTooLong refuses = refuses
start-own IsTooLong OutOfMemory refuses = tt

pub start-memory : (IsTooLong : Type 0) (e : TranscriptError) → (IsTooLong → ⊥) → RefusesStart IsTooLong e →
    e ≡ OutOfMemory
start-memory IsTooLong (MissingBegin info) short refuses = absurd refuses
start-memory IsTooLong (InvalidKind info) short refuses = absurd refuses
start-memory IsTooLong (MismatchedBeginEnd info) short refuses = absurd refuses
start-memory IsTooLong (MissingEnd info) short refuses = absurd refuses
start-memory IsTooLong (BadProofShape reason) short refuses = absurd refuses
start-memory IsTooLong (Pattern e) short refuses = absurd refuses
start-memory IsTooLong (Challenger challenger.OutOfMemory) short refuses = absurd refuses
start-memory IsTooLong (Challenger challenger.DrawLimit) short refuses = absurd refuses
start-memory IsTooLong (Challenger challenger.NoWitness) short refuses = absurd refuses
start-memory IsTooLong (Challenger challenger.TooLong) short refuses = absurd (short refuses)
start-memory IsTooLong LabelTooLong short refuses = absurd refuses
start-memory IsTooLong OutOfMemory short refuses = refl

-- a prover that has played all steps of its pattern ends
pub sent-ends : {A B : Type 0} (steps : List Step) (start end : Playing) (sent : Result A TranscriptError)
    (last result : Result B TranscriptError) → result ≡ result_and sent last → start.pattern.steps ≡ steps →
    start.position ≡ 0 → start.finished ≡ false →
    MatchResult sent (λ _. end ≡ steps_on steps start) IsOwnRefusal → (IsPlayed end → IsOk last) →
    IfErr result IsOwnRefusal
sent-ends steps start end (Err e) last result is has at going own ends =
    subst (λ r. IfErr r IsOwnRefusal) (sym is) own
sent-ends steps start end (Ok x) (Ok y) result is has at going passed ends =
    subst (λ r. IfErr r IsOwnRefusal) (sym is) tt
sent-ends steps start end (Ok x) (Err e) result is has at going passed ends =
    let ok = ends (subst IsPlayed (sym passed) (listed-played [] steps start has at going)) in absurd (cc)

-- a verifier that has played all of it, and has no bytes left, ends
pub reads-end : {S : Type 0} (v end : Driving S) → v ≡ with_bytes end [] → IsPlayed end.transcript.playing →
    EndsReading v
reads-end v end is played =
    record {
      played = subst (λ (d : Driving _). IsPlayed d.transcript.playing) (sym is) played;
      whole = ap (λ (d : Driving _). d.bytes) is;
    }

-- all steps of a pattern are next where none was played
pub all-next : (steps : List Step) (playing : Playing) → playing.pattern.steps ≡ steps → playing.position ≡ 0 →
    playing.finished ≡ false → AreNext steps playing
all-next steps playing has at going = listed-next steps [] [] playing (has ∙ sym (append-nil steps)) at going

-- ---- a sum and its rounds

module _ {S Symbol F : Type 0} (m : Sumcheck S Symbol F) where
  -- what is sent is what is written
  pub sum-sent : (x y sum : F) (before after : Driving S) → Writes (sent_sum m x) before y after → x ≡ sum →
      Writes (sent_sum m sum) before sum after
  sum-sent x y sum before after writes is =
      let gives : ◌≡◌ {A = Option F} (Some x) (Some y) = writes.plays.gives in
      let same : y ≡ x = cc in
      subst (λ z. Writes (sent_sum m z) before z after) is
      (subst (λ z. Writes (sent_sum m x) before z after) same writes)

  pub sum-own : (n : ℕ) (x : F) (before after : Driving S) (e : TranscriptError) →
      AreNext (steps_of_sum m.field n) before.transcript.playing → RefusesToWrite (sent_sum m x) before e after →
      IsOwnRefusal e
  sum-own n x before after e next refuses =
      next-own_refusal (sent_sum m x) before.transcript after.transcript e next.0 refuses.refuses

  pub rounds-next : (n : ℕ) (x y : F) (before here : Driving S) →
      AreNext (steps_of_sum m.field n) before.transcript.playing → Writes (sent_sum m x) before y here →
      AreNext (steps_of_rounds (round_steps m.field) n) here.transcript.playing
  rounds-next n x y before here next writes = subst (AreNext (steps_of_rounds (round_steps m.field) n)) (sym writes.plays.playing) next.1

  pub sum-passed : (n : ℕ) (x y : F) (before here after : Driving S) → Writes (sent_sum m x) before y here →
      after.transcript.playing ≡ steps_on (steps_of_rounds (round_steps m.field) n) here.transcript.playing →
      after.transcript.playing ≡ steps_on (steps_of_sum m.field n) before.transcript.playing
  sum-passed n x y before here after writes passed = passed ∙ ap (steps_on (steps_of_rounds (round_steps m.field) n)) writes.plays.playing

  -- ---- its bytes

  rounds-wire : (table point : List F) (value : F) (before after : Driving S) → Proves m table point value before after →
      (wire : List ℕ) × (after.bytes ≡ before.bytes ++ wire)
  rounds-wire table point value before after proves =
      let wire = λ (round : Round F). (sent_pair m (pair_of round)).wire in
      let rounds = true_rounds m.residues table point in (
        flat_map wire rounds,
        rounds-written (WritesRound m) (λ v. v.bytes) wire (λ b x a round. round.bytes) before rounds after
            proves.writes,
      )

  pub sum-wire : (table : List F) (before after : Driving S) → SendsSum m table before after →
      (wire : List ℕ) × (after.bytes ≡ before.bytes ++ wire)
  sum-wire table before after sends =
      let rounds = rounds-wire table sends.point sends.value sends.here after sends.rounds in
      let first = m.encoding.wire (total m.residues table) in (
        first ++ rounds.0,
        rounds.1 ∙ ap (λ l. l ++ rounds.0) sends.sum.wire ∙ append_assoc before.bytes first rounds.0,
      )

  module _ (table : List F) (p q : Driving S) (sends : SendsSum m table p q) (sent rest : List ℕ)
      (is_sent : q.bytes ≡ p.bytes ++ sent) where
    -- the bytes of its rounds
    pub rounds-bytes : List ℕ
    rounds-bytes = (rounds-wire table sends.point sends.value sends.here q sends.rounds).0

    pub rounds-left : q.bytes ≡ sends.here.bytes ++ rounds-bytes
    unfolding rounds-bytes
    rounds-left = (rounds-wire table sends.point sends.value sends.here q sends.rounds).1

    split : sent ++ rest ≡ m.encoding.wire (total m.residues table) ++ (rounds-bytes ++ rest)
    split =
        let first = m.encoding.wire (total m.residues table) in
        let all = sym is_sent ∙ rounds-left ∙ ap (λ l. l ++ rounds-bytes) sends.sum.wire
        ∙ append_assoc p.bytes first rounds-bytes in
        ap (λ l. l ++ rest) (append_cancel_left p.bytes sent (first ++ rounds-bytes) all)
        ∙ append_assoc first rounds-bytes rest

    pub sum-received : Completes (sent_sum m (total m.residues table))
        (received (sum_step m.field) m.observation m.encoding) (total m.residues table) → (start here : Driving S)
        (y : F) → start ≡ with_bytes p (sent ++ rest) →
        Receives (received (sum_step m.field) m.observation m.encoding) start y here →
        (y ≡ total m.residues table) × (here ≡ with_bytes sends.here (rounds-bytes ++ rest))
    sum-received completes start here y is receives =
        completes.receives p.transcript sends.here.transcript (rounds-bytes ++ rest) start here y sends.sum.plays
        (is ∙ ap (with_bytes p) split) receives

    pub sum-refused : OnlyMemoryRefusesToRead (sent_sum m (total m.residues table))
        (received (sum_step m.field) m.observation m.encoding) (total m.residues table) → (start here : Driving S)
        (e : TranscriptError) → start ≡ with_bytes p (sent ++ rest) →
        RefusesToRead (received (sum_step m.field) m.observation m.encoding) start e here → e ≡ OutOfMemory
    sum-refused memory start here e is refuses =
        memory p.transcript sends.here.transcript (rounds-bytes ++ rest) start here e sends.sum.plays
        (is ∙ ap (with_bytes p) split) refuses

  -- ---- two of them

  module _ (first second : List F) (p q : Driving S) (sends : SendsTwo m first second p q) (sent : List ℕ)
      (is_sent : q.bytes ≡ p.bytes ++ sent) where
    pub first-bytes : List ℕ
    first-bytes = (sum-wire first p sends.here sends.one).0

    pub first-left : sends.here.bytes ≡ p.bytes ++ first-bytes
    unfolding first-bytes
    first-left = (sum-wire first p sends.here sends.one).1

    pub second-bytes : List ℕ
    second-bytes = (sum-wire second sends.here q sends.other).0

    pub second-left : q.bytes ≡ sends.here.bytes ++ second-bytes
    unfolding second-bytes
    second-left = (sum-wire second sends.here q sends.other).1

    pub two-split : sent ≡ first-bytes ++ second-bytes
    two-split =
        append_cancel_left p.bytes sent (first-bytes ++ second-bytes)
        (sym is_sent ∙ second-left ∙ ap (λ l. l ++ second-bytes) first-left
        ∙ append_assoc p.bytes first-bytes second-bytes)

  -- a prover that has sent both, and is spent, gives a proof of them
  pub proves-two : {A B : Type 0} (first second : List F) (challenger : S) (pattern : PatternSteps)
      (start end : Driving S) (bytes : B → List ℕ) (sent : Result A TranscriptError) (last result : Result B TranscriptError) →
      result ≡ result_and sent last → start ≡ begun challenger pattern →
      OnOk sent (SendsTwo m first second start end) →
      IfOk last (λ proof. IsPlayed end.transcript.playing × (bytes proof ≡ end.bytes)) →
      IfOk result (λ proof. ProvesTwo m first second challenger pattern (bytes proof))
  proves-two first second challenger pattern start end bytes (Ok x) (Ok proof) result is at sends ends =
      subst (λ r. IfOk r (λ proof. ProvesTwo m first second challenger pattern (bytes proof))) (sym is)
      (record {
        end = end;
        sends = subst (λ v. SendsTwo m first second v end) at sends;
        played = ends.0;
        written = ends.1;
      })
  proves-two first second challenger pattern start end bytes (Ok x) (Err e) result is at sends ends =
      subst (λ r. IfOk r (λ proof. ProvesTwo m first second challenger pattern (bytes proof))) (sym is) tt
  proves-two first second challenger pattern start end bytes (Err e) last result is at sends ends =
      subst (λ r. IfOk r (λ proof. ProvesTwo m first second challenger pattern (bytes proof))) (sym is) tt
