-- Rounds that a prover has sent so far, and the table that is left.
use Rattle.std.proofs.Common.{◌≡◌, ℕ, zero, suc, ◌+◌, ◌-◌, ◌^◌, ◌<◌, ◌≤◌, inl, inr, List, [], ◌∷◌, ◌++◌, length, refl, sym, ap}
use Rattle.std.proofs.{Common.{◌∙◌, arith, get_or, zero-add, Option, Some}, lemmas.List.length-append, Math.Nat.pow-suc}
use Rattle.std.proofs.lemmas.Nat.{pow_pos}
use Rattle.p3_challenger.specs.{Completeness.IsOwnRefusal, CompletenessLaws.next-own_refusal, Driving.Driving}
use Rattle.p3_challenger.specs.{Proving.Writes, Rounds.AreRounds, RoundLaws.{rounds-more, rounds-seen}}
use Rattle.p3_challenger.specs.{TranscriptError.TranscriptError, TranscriptLaws.next-first}
use Rattle.p3_challenger.specs.TranscriptError.TheVariants.{OutOfMemory}
use Rattle.p3_challenger.specs.Transcripts.{AreNext, Meaning, PlaysStep, steps_on}
use Rattle.p3_sumcheck.{specs.declared.round.Round.Round, specs.Claims.true_rounds, proofs.Folding.folded-half}
use Rattle.p3_sumcheck.specs.Sumchecks.{PlaysRound, Proves, RefusesToProve, RefusesToSend, Sumcheck, WritesRound}
use Rattle.p3_sumcheck.specs.Sumchecks.{drawn_challenge, round_steps, sent_pair}
use Rattle.p3_sumcheck.specs.Tables.{folded, folded_at, high_half, low_half, total}
use Rattle.p3_sumcheck.proofs.ClaimLaws.{folded-length, folded_at-more, true_rounds-length, true_rounds-more}
use Rattle.p3_sumcheck.proofs.Declaring.{rounds-left, rounds-pass, steps_of}

-- a list of one value
one-value : {F : Type 0} (xs : List F) (x : F) → length xs ≡ 1 → x ≡ get_or xs 0 x → xs ≡ x ∷ []
one-value (y ∷ []) x long is = ap (λ z. z ∷ []) (sym is)
one-value _ x long is = absurd (omega (arith, long))

-- a power of two is 1, or twice another
some-left : (n k : ℕ) → k ≡ 2 ^ n → 1 < k → (m : ℕ) × (n ≡ suc m)
some-left zero k is above = absurd (omega (arith, is))
some-left (suc n) k is above = (n, refl)

none-left : (n k : ℕ) → k ≡ 2 ^ n → k ≤ 1 → n ≡ 0
none-left zero k is below = refl
none-left (suc n) k is below = let twice = pow-suc 2 n in let some = pow_pos n in absurd (omega arith)

-- and of one number
pub one-power : (n k : ℕ) → 2 ^ n ≡ 2 ^ k → n ≡ k
one-power zero zero is = refl
one-power zero (suc k) is = let twice = pow-suc 2 k in let some = pow_pos k in absurd (omega arith)
one-power (suc n) zero is = let twice = pow-suc 2 n in let some = pow_pos n in absurd (omega arith)
one-power (suc n) (suc k) is = let a = pow-suc 2 n in let b = pow-suc 2 k in ap suc (one-power n k (omega arith))

pub some-table : {F : Type 0} (table : List F) → (n : ℕ) × (length table ≡ 2 ^ n) → length table ≤ 1 → 0 < length table
some-table table size few = let some = pow_pos size.0 in let is = size.1 in omega arith

-- what a step that sends gives is what it writes
pub writes-given : {S Symbol A : Type 0} (sent : Meaning S Symbol A) (x y : A) (before after : Driving S) →
    sent.effect.gives before.transcript.challenger ≡ Some y → Writes sent before x after → Writes sent before y after
writes-given {A = A} sent x y before after gives writes =
    let both : ◌≡◌ {A = Option A} (Some y) (Some x) = sym gives ∙ writes.plays.gives in
    let same : y ≡ x = cc in
    rw same writes

module _ {S Symbol F : Type 0} (m : Sumcheck S Symbol F) where
  pub round-written : (before here after : Driving S) (first second drawn x : F) (sent : List F) →
      Writes (sent_pair m (first ∷ second ∷ [])) before sent here →
      PlaysStep (drawn_challenge m) here.transcript drawn after.transcript → after.bytes ≡ here.bytes → x ≡ drawn →
      WritesRound m before (record { first = first; second = second; challenge = x }) after
  round-written before here after first second drawn x sent writes draws kept is =
      let sends = (writes-given (sent_pair m (first ∷ second ∷ [])) sent _ before here refl writes).plays in
      rw is (record {
        plays = record { here = here.transcript; sends = sends; draws = draws };
        bytes = kept ∙ writes.wire;
      })

  -- rounds that are written are played
  pub writes-plays : (before : Driving S) (xs : List (Round F)) (after : Driving S) →
      AreRounds (WritesRound m) before xs after → AreRounds (PlaysRound m) before.transcript xs after.transcript
  writes-plays = rounds-seen (WritesRound m) (λ v. v.transcript) (PlaysRound m) (λ b x a round. round.plays)

  -- The true rounds at the point were written, this table is left, and this is its true pair.
  pub record Sends (table : List F) (before : Driving S) (point left : List F) (pair : F × F) (here : Driving S) : Type 0
    where
      pub rounds_left : ℕ
      pub size : length left ≡ 2 ^ rounds_left
      pub whole : length table ≡ 2 ^ (rounds_left + length point)
      pub writes : AreRounds (WritesRound m) before (true_rounds m.residues table point) here
      pub folds : left ≡ folded_at m.residues point table
      pub first : pair.0 ≡ total m.residues (low_half left)
      pub second : pair.1 ≡ total m.residues (high_half left)

  pub sends-none : (table : List F) (before : Driving S) (point : List F) (pair : F × F) →
      (n : ℕ) × (length table ≡ 2 ^ n) → point ≡ [] → pair.0 ≡ total m.residues (low_half table) →
      pair.1 ≡ total m.residues (high_half table) → Sends table before point table pair before
  sends-none table before point pair size none first second =
      rw none (record {
        rounds_left = size.0;
        size = size.1;
        whole = size.1 ∙ ap (λ k. 2 ^ k) (omega arith);
        writes = refl;
        folds = refl;
        first = first;
        second = second;
      })

  module _ (table : List F) (before here after : Driving S) (point left : List F) (pair : F × F)
      (so_far : Sends table before point left pair here) (some : 1 < length left) where
    -- the next round is given up
    pub stops-at : (e : TranscriptError) → RefusesToSend m (pair.0 ∷ pair.1 ∷ []) here e after →
        RefusesToProve m table before e after
    stops-at e refuses =
        record {
          point = point;
          here = here;
          writes = so_far.writes;
          refuses = inl (rw (← so_far.folds, ← so_far.first, ← so_far.second) (some, refuses));
        }

    module _ (x : F) (writes : WritesRound m here (record { first = pair.0; second = pair.1; challenge = x }) after) where
      written-more : AreRounds (WritesRound m) before (true_rounds m.residues table (point ++ (x ∷ []))) after
      written-more =
          rw (true_rounds-more m.residues table point x, ← so_far.folds, ← so_far.first, ← so_far.second)
          (rounds-more (WritesRound m) before (true_rounds m.residues table point) here _ after so_far.writes writes)

      pub sends-more : (grown more : List F) (next : F × F) → more ≡ folded m.residues x left →
          next.0 ≡ total m.residues (low_half more) → next.1 ≡ total m.residues (high_half more) →
          grown ≡ point ++ (x ∷ []) → Sends table before grown more next after
      sends-more grown more next folding first second added =
          let r = m.residues in
          let fewer = some-left so_far.rounds_left (length left) so_far.size some in
          rw added (record {
            rounds_left = fewer.0;
            size = ap length folding ∙ folded-length r x fewer.0 left (so_far.size ∙ ap (λ k. 2 ^ k) fewer.1);
            whole = so_far.whole ∙ ap (λ k. 2 ^ k) (omega (arith, fewer.1, length-append point (x ∷ [])));
            writes = written-more;
            folds = rw (folded_at-more r table point x, ← so_far.folds) folding;
            first = first;
            second = second;
          })

      -- there is no room for its challenge
      pub stops-after : (e : TranscriptError) → e ≡ OutOfMemory → RefusesToProve m table before e after
      stops-after e memory =
          record { point = point ++ (x ∷ []); here = after; writes = written-more; refuses = inr (memory, refl) }

  pub sends-end : (table : List F) (before here : Driving S) (point left : List F) (pair : F × F) (x : F) →
      Sends table before point left pair here → length left ≤ 1 → x ≡ get_or left 0 x → Proves m table point x before here
  sends-end table before here point left pair x so_far few is =
      let none = none-left so_far.rounds_left (length left) so_far.size few in
      let one : length left ≡ 1 = so_far.size ∙ ap (λ k. 2 ^ k) none in
      record {
        writes = so_far.writes;
        size = so_far.whole ∙ ap (λ k. 2 ^ (k + length point)) none ∙ ap (λ k. 2 ^ k) (zero-add (length point));
        folds = sym so_far.folds ∙ one-value left x one is;
      }

  -- ---- where the rounds are next, the challenger or memory alone refuses

  pub sent-own_refusal : (pair : List F) (before after : Driving S) (e : TranscriptError) →
      AreNext (round_steps m.field) before.transcript.playing → RefusesToSend m pair before e after → IsOwnRefusal e
  sent-own_refusal pair before after e next refuses = elim refuses [
    | inl unsent ↦ next-own_refusal (sent_pair m pair) before.transcript after.transcript e next.0 unsent.refuses
    | inr undrawn ↦
        next-own_refusal (drawn_challenge m) undrawn.0.transcript after.transcript e
        (rw undrawn.1.plays.playing next.1.0) undrawn.2
  ]

  -- one value or none stays so
  few-folded : (table point : List F) → length table ≤ 1 → length (folded_at m.residues point table) ≤ 1
  few-folded table [] few = few
  few-folded table (x ∷ point) few =
      few-folded (folded m.residues x table) point (omega (arith, few, folded-half m.residues x table))

  -- a table of which some values are left was folded fewer times than it can be
  fewer-folds : (n : ℕ) (table point : List F) → length table ≡ 2 ^ n → 1 < length (folded_at m.residues point table) →
      length point < n
  fewer-folds zero table point size some = absurd (omega (arith, some, few-folded table point (omega (arith, size))))
  fewer-folds (suc n) table [] size some = omega arith
  fewer-folds (suc n) table (x ∷ point) size some =
      omega (arith, fewer-folds n (folded m.residues x table) point (folded-length m.residues x n table size) some)

  pub own_refusal : (n : ℕ) (table : List F) (before after : Driving S) (e : TranscriptError) → length table ≡ 2 ^ n →
      AreNext (steps_of m n) before.transcript.playing → RefusesToProve m table before e after → IsOwnRefusal e
  own_refusal n table before after e size next refuses = elim refuses.refuses [
    | inr memory ↦ rw memory.0 tt
    | inl round ↦
        let point = refuses.point in
        let rounds = true_rounds m.residues table point in
        let left = n - length point - 1 in
        let is : n ≡ length rounds + suc left = omega (
          arith,
          true_rounds-length m.residues table point,
          fewer-folds n table point size round.0,
        ) in
        sent-own_refusal _ refuses.here after e
        (next-first (round_steps m.field) (steps_of m left) _
        (rounds-left m n (suc left) before.transcript _ rounds is next
        (writes-plays before rounds refuses.here refuses.writes))) round.1
  ]

  -- and where they are played, the driver stands after them
  pub passes : (table point : List F) (value : F) (n : ℕ) (before after : Driving S) → length table ≡ 2 ^ n →
      Proves m table point value before after →
      (length point ≡ n) × (after.transcript.playing ≡ steps_on (steps_of m n) before.transcript.playing)
  passes table point value n before after size proves =
      let rounds = true_rounds m.residues table point in
      let many = one-power (length point) n (sym proves.size ∙ size) in (
        many,
        rw (← many, ← true_rounds-length m.residues table point)
            (rounds-pass m rounds before.transcript after.transcript (writes-plays before rounds after proves.writes)).1,
      )
