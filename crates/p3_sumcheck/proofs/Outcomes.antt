-- What comes of a verifier, where rounds are ahead of it that it may accept.
use Rattle.std.proofs.Common.{length, Result, arith, List, ◌++◌, refl, ◌≡◌, ◌+◌, ◌^◌, ◌<◌, ◌≤◌, ◌⊎◌, inl, inr, ◌∷◌, sym}
use Rattle.std.{proofs.Common.{◌∙◌, Err, [], ap, Ok, ℕ}, specs.{List.flat_map, Result.{MatchResult, IfErr, IfOk, OnOk}}}
use Rattle.std.proofs.lemmas.{Bool.cases_order, List.{append_cancel_left, length-append, map-append}}
use Rattle.p3_challenger.specs.{Driving.Driving, TranscriptError.TranscriptError, Encoding.IsEncoding}
use Rattle.p3_challenger.specs.{Verifying.RefusesToRead, Transcripts.steps_on, RoundLaws.{rounds-more, rounds-written}}
use Rattle.p3_challenger.specs.{Rounds.AreRounds, OneReason.{OnlyMemoryRefuses, OnlyMemoryRefusesToRead}}
use Rattle.p3_field.specs.Residues.{IsResidues, sum_of}
use Rattle.p3_sumcheck.proofs.ClaimLaws.{false-is_lucky, true-reduces, true_rounds-challenges, true_rounds-length}
use Rattle.p3_sumcheck.specs.{Claims.{HasLuckyRound, Reduces, claim_after, true_rounds}, Tables.{folded_at, total}}
use Rattle.p3_sumcheck.specs.Sumchecks.{Accepts, AcceptsAt, Disagrees, IsMemory, Proves, ReadsPair, ReadsRound, Refuses}
use Rattle.p3_sumcheck.specs.Sumchecks.{RefusesRound, Sumcheck, WritesRound, challenges_of, drawn_challenge, read_pair}
use Rattle.p3_sumcheck.specs.{Sumchecks.sent_pair, declared.{error.SumcheckError.SumcheckError, round.Round.Round}}
use Rattle.p3_sumcheck.proofs.Reading.{at, pair-of_round, pair-same, plays-reads, reads-plays, round-same, wire}
use Rattle.p3_sumcheck.proofs.{Sending.{one-power, writes-plays}, Declaring.{rounds-pass, steps_of}}
use Rattle.p3_sumcheck.specs.declared.error.SumcheckError.TheVariants as fault

module _ {S Symbol F : Type 0} (m : Sumcheck S Symbol F) where
  -- ---- rounds that are accepted so far, and their challenges

  pub reaches-none : (claim : F) (before : Driving S) (point : List F) → point ≡ [] →
      AcceptsAt m claim 0 before point claim before
  reaches-none claim before point none = ([], none, record { count = refl; reads = refl; reduces = refl })

  module _ (claim : F) (before : Driving S) where
    pub reaches-more : (i : ℕ) (here after : Driving S) (point grown : List F) (current last : F) (round : Round F) →
        AcceptsAt m claim i before point current here → ReadsRound m here round after →
        sum_of m.residues round.first round.second ≡ current → last ≡ claim_after m.residues round →
        grown ≡ point ++ (round.challenge ∷ []) → AcceptsAt m claim (i + 1) before grown last after
    reaches-more i here after point grown current last round so_far reads adds is added =
        let played = so_far.0 in
        let accepts = so_far.2 in (
          played ++ (round ∷ []),
          added ∙ ap (λ xs. xs ++ (round.challenge ∷ [])) so_far.1
              ∙ sym (map-append (λ (it : Round F). it.challenge) played (round ∷ [])),
          record {
            count = length-append played (round ∷ []) ∙ ap (λ k. k + 1) accepts.count;
            reads = rounds-more (ReadsRound m) before played here round after accepts.reads reads;
            reduces = rounds-more (Reduces m.residues) claim played current round last accepts.reduces (adds, is);
          },
        )

    module _ (i n : ℕ) (here after : Driving S) (point : List F) (current : F) (e : SumcheckError)
        (so_far : AcceptsAt m claim i before point current here) where
      pub refuses-at : i < n → RefusesRound m current i here e after → Refuses m claim n before e after
      refuses-at few refuses =
          let count = so_far.2.count in
          record {
            rounds = so_far.0;
            current = current;
            here = here;
            accepts = rw count so_far.2;
            refuses = inl (omega (arith, count, few), rw count refuses);
          }

      pub refuses-room : i ≤ n → IsMemory e → after ≡ here → Refuses m claim n before e after
      refuses-room few memory same =
          let count = so_far.2.count in
          record {
            rounds = so_far.0;
            current = current;
            here = here;
            accepts = rw count so_far.2;
            refuses = inr (omega (arith, count, few), memory, same);
          }

module _ {S Symbol F : Type 0} (m : Sumcheck S Symbol F) (encodes : IsEncoding m.encoding) where
  -- ---- two ways to accept are one

  -- these rounds are read, and bring the claim to the last one
  abbrev Brings : F → Driving S → List (Round F) → F → Driving S → Type 0
  Brings claim before rounds last after =
      AreRounds (ReadsRound m) before rounds after × AreRounds (Reduces m.residues) claim rounds last

  -- after one round of each, both are where the one is
  after-first : (claim last : F) (before here end : Driving S) (x y : Round F) (xs ys : List (Round F))
      (current : F) (one : Brings claim before (x ∷ xs) current here) → Brings claim before (y ∷ ys) last end →
      (y ≡ x) × Brings one.1.0 one.0.0 ys last end
  after-first claim last before here end x y xs ys current one other =
      let same = round-same m encodes before one.0.0 other.0.0 x y one.0.1 other.0.1 in
      let brought = other.1.1.1 ∙ ap (claim_after m.residues) same.0 ∙ sym one.1.1.1 in
      (same.0, (rw (← same.1) other.0.2, rw (← brought) other.1.2))

  -- as many rounds are these
  same-rounds : (xs ys : List (Round F)) (claim current last : F) (before here end : Driving S) →
      Brings claim before xs current here → Brings claim before ys last end → length ys ≡ length xs →
      (ys ≡ xs) × (last ≡ current) × (end ≡ here)
  same-rounds [] [] claim current last before here end one other many =
      (refl, other.1 ∙ sym one.1, other.0 ∙ sym one.0)
  same-rounds (x ∷ xs) (y ∷ ys) claim current last before here end one other many =
      let first = after-first claim last before here end x y xs ys current one other in
      let then = same-rounds xs ys one.1.0 current last one.0.0 here end (one.0.2, one.1.2) first.1 (omega (arith, many))
      in
      (cc (first.0, then.0), then.1, then.2)
  same-rounds _ _ claim current last before here end one other many = absurd (omega (arith, many))

  -- fewer rounds have the next one of these ahead
  next-round : (xs ys : List (Round F)) (claim current last : F) (before here end : Driving S) →
      Brings claim before xs current here → Brings claim before ys last end → length xs < length ys →
      (y : Round F) × (after : Driving S) × ReadsRound m here y after × (sum_of m.residues y.first y.second ≡ current)
  next-round xs [] claim current last before here end one other few = absurd (omega (arith, few))
  next-round [] (y ∷ ys) claim current last before here end one other few =
      (y, other.0.0, rw one.0 other.0.1, other.1.1.0 ∙ sym one.1)
  next-round (x ∷ xs) (y ∷ ys) claim current last before here end one other few =
      let first = after-first claim last before here end x y xs ys current one other in
      next-round xs ys one.1.0 current last one.0.0 here end (one.0.2, one.1.2) first.1 (omega (arith, few))

  -- ---- a round that may be accepted is not refused but for memory

  module _ (reads_or_memory : (a b : F) → OnlyMemoryRefusesToRead (sent_pair m (a ∷ b ∷ [])) (read_pair m) (a ∷ b ∷ []))
      (draws_or_memory : OnlyMemoryRefuses (drawn_challenge m)) where
    pair-unread : (a b : F) (here u after : Driving S) (e : TranscriptError) → ReadsPair m here (a ∷ b ∷ []) u →
        RefusesToRead (read_pair m) here e after → IsMemory (fault.Transcript e)
    pair-unread a b here u after e reads unread =
        let bytes = reads.bytes in
        ap fault.Transcript (reads_or_memory a b here.transcript u.transcript u.bytes here after e reads.plays
        (λ k. at here.transcript (bytes k)) unread)

    pair-refused : (current : F) (i : ℕ) (here bad after : Driving S) (e : SumcheckError) →
        Disagrees m current here bad → RefusesRound m current i here e after →
        IsMemory e ⊎ ((e ≡ fault.Round i) × (after ≡ bad))
    pair-refused current i here bad after (fault.Round j) differs refuses =
        inr (ap fault.Round refuses.0, (pair-same m encodes here bad after _ _ _ _ differs.2 refuses.1.2).2)
    pair-refused current i here bad after (fault.Transcript e) differs refuses = elim refuses [
      | inl unread ↦ inl (pair-unread differs.0 differs.1 here bad after e differs.2 unread)
      | inr undrawn ↦
          let same = pair-same m encodes here bad undrawn.2 _ _ _ _ differs.2 undrawn.3 in
          absurd (differs.3 (rw (← same.0, ← same.1) undrawn.4))
    ]

    round-refused : (current : F) (i : ℕ) (x : Round F) (here u after : Driving S) (e : SumcheckError) →
        ReadsRound m here x u → sum_of m.residues x.first x.second ≡ current → RefusesRound m current i here e after →
        IsMemory e
    round-refused current i x here u after (fault.Round j) reads adds refuses =
        let same = pair-same m encodes here _ after _ _ _ _ (pair-of_round m here u x reads) refuses.1.2 in
        absurd (refuses.1.3 (rw (same.0, same.1) adds))
    round-refused current i x here u after (fault.Transcript e) reads adds refuses = elim refuses [
      | inl unread ↦ pair-unread x.first x.second here _ after e (pair-of_round m here u x reads) unread
      | inr undrawn ↦
          let same = pair-same m encodes here _ undrawn.2 _ _ _ _ (pair-of_round m here u x reads) undrawn.3 in
          ap fault.Transcript (draws_or_memory reads.plays.here u.transcript undrawn.2.transcript after.transcript
          x.challenge e reads.plays.draws (ap (λ (k : Driving S). k.transcript) same.2) undrawn.5)
    ]

    -- where more rounds may be accepted than were before the refused one
    ahead-refused : (claim : F) (n i : ℕ) (before : Driving S) (rounds : List (Round F)) (last : F)
        (end after : Driving S) (e : SumcheckError) → Accepts m claim i before rounds last end →
        (refuses : Refuses m claim n before e after) → (length refuses.rounds < n → length refuses.rounds < i) → IsMemory e
    ahead-refused claim n i before rounds last end after e accepts refuses fewer = elim refuses.refuses [
      | inr memory ↦ memory.1
      | inl round ↦
          let next = next-round refuses.rounds rounds claim refuses.current last before refuses.here end
          (refuses.accepts.reads, refuses.accepts.reduces) (accepts.reads, accepts.reduces)
          (omega (arith, accepts.count, fewer round.0)) in
          round-refused refuses.current _ next.0 refuses.here next.1 after e next.2 next.3 round.1
    ]

    module _ {R : Type 0} (points : R → List F) (lasts : R → F) (claim : F) (n : ℕ) (before after : Driving S) where
      -- what a verifier says of its result
      abbrev Ends : Result R SumcheckError → Type 0
      Ends result = IfOk result (λ r. AcceptsAt m claim n before (points r) (lasts r) after)

      abbrev Gives : List F → F → Driving S → R → Type 0
      Gives point last end r = (points r ≡ point) × (lasts r ≡ last) × (after ≡ end)

      -- ---- the outcome where all rounds may be accepted

      pub outcome : (result : Result R SumcheckError) (rounds : List (Round F)) (last : F) (end : Driving S) →
          Ends result → IfErr result (λ e. Refuses m claim n before e after) → Accepts m claim n before rounds last end →
          MatchResult result (Gives (challenges_of rounds) last end) IsMemory
      outcome (Ok r) rounds last end ok err accepts =
          let same = same-rounds rounds ok.0 claim last (lasts r) before end after (accepts.reads, accepts.reduces)
          (ok.2.reads, ok.2.reduces) (ok.2.count ∙ sym accepts.count) in
          (ok.1 ∙ ap challenges_of same.0, same.1, same.2)
      outcome (Err e) rounds last end ok err accepts =
          ahead-refused claim n n before rounds last end after e accepts err (λ few. few)

      -- what is accepted is passed
      pub passed : (result : Result R SumcheckError) → Ends result →
          OnOk result (after.transcript.playing ≡ steps_on (steps_of m n) before.transcript.playing)
      passed (Ok r) ok =
          rw (← ok.2.count)
          (rounds-pass m ok.0 before.transcript after.transcript (reads-plays m before ok.0 after ok.2.reads)).1
      passed (Err e) ok = tt

      -- what a prover has sent may be accepted
      sent-accepted : (table point : List F) (value : F) (p q : Driving S) (sent rest : List ℕ) →
          IsResidues m.residues → Proves m table point value p q → length table ≡ 2 ^ n → claim ≡ total m.residues table →
          q.bytes ≡ p.bytes ++ sent → before ≡ at p.transcript (sent ++ rest) →
          Accepts m claim n before (true_rounds m.residues table point) value (at q.transcript rest)
      sent-accepted table point value p q sent rest laws proves many is_claim is_sent start =
          let rounds = true_rounds m.residues table point in
          let written = rounds-written (WritesRound m) (λ v. v.bytes) (wire m) (λ b x a round. round.bytes) p rounds q
          proves.writes in
          let same = append_cancel_left p.bytes sent (flat_map (wire m) rounds) (sym is_sent ∙ written) in
          rw (start, same, is_claim) (record {
            count = true_rounds-length m.residues table point ∙ one-power (length point) n (sym proves.size ∙ many);
            reads = plays-reads m p.transcript rounds q.transcript rest
                (writes-plays m p rounds q proves.writes);
            reduces = true-reduces m.residues laws table point value proves.size proves.folds;
          })

      pub complete : (result : Result R SumcheckError) (table point : List F) (value : F) (p q : Driving S)
          (sent rest : List ℕ) → IsResidues m.residues → Ends result →
          IfErr result (λ e. Refuses m claim n before e after) → Proves m table point value p q → length table ≡ 2 ^ n →
          claim ≡ total m.residues table → q.bytes ≡ p.bytes ++ sent → before ≡ at p.transcript (sent ++ rest) →
          MatchResult result (Gives point value (at q.transcript rest)) IsMemory
      complete result table point value p q sent rest laws ok err proves many is_claim is_sent start =
          rw (true_rounds-challenges m.residues table point) at
          (outcome result (true_rounds m.residues table point) value (at q.transcript rest) ok err
          (sent-accepted table point value p q sent rest laws proves many is_claim is_sent start))

      -- a false claim
      pub sound : (result : Result R SumcheckError) (table : List F) (rounds : List (Round F)) → IsResidues m.residues →
          Ends result → length table ≡ 2 ^ n → (claim ≡ total m.residues table → ⊥) →
          IfOk result (λ r. Accepts m claim n before rounds (lasts r) after →
          folded_at m.residues (points r) table ≡ lasts r ∷ [] → HasLuckyRound m.residues table rounds)
      sound (Ok r) table rounds laws ok size differs = λ accepts folds.
          let same = outcome (Ok r) rounds (lasts r) after ok tt accepts in
          false-is_lucky m.residues laws table rounds claim (lasts r) (size ∙ ap (λ k. 2 ^ k) (sym accepts.count))
          (rw (← same.0) folds) accepts.reduces differs
      sound (Err e) table rounds laws ok size differs = tt

      -- ---- the outcome where some rounds may be accepted, and the next pair does not add

      module _ (i : ℕ) (here bad : Driving S) (rounds : List (Round F)) (current : F)
          (accepts : Accepts m claim i before rounds current here) (differs : Disagrees m current here bad) where
        -- it is not among rounds that add
        not-among : (k : ℕ) (others : List (Round F)) (last : F) (end : Driving S) →
            Accepts m claim k before others last end → i < k → ⊥
        not-among k others last end all more =
            let next = next-round rounds others claim current last before here end (accepts.reads, accepts.reduces)
            (all.reads, all.reduces) (omega (arith, more, accepts.count, all.count)) in
            let same = pair-same m encodes here bad _ _ _ _ _ differs.2 (pair-of_round m here next.1 next.0 next.2) in
            differs.3 (rw (← same.0, ← same.1) next.3)

        -- a refusal of its round
        at-refused : (e : SumcheckError) (refuses : Refuses m claim n before e after) → i ≡ length refuses.rounds →
            IsMemory e ⊎ ((e ≡ fault.Round i) × (after ≡ bad))
        at-refused e refuses is = elim refuses.refuses [
          | inr memory ↦ inl memory.1
          | inl round ↦
              let same = same-rounds rounds refuses.rounds claim current refuses.current before here refuses.here
              (accepts.reads, accepts.reduces) (refuses.accepts.reads, refuses.accepts.reduces)
              (sym is ∙ sym accepts.count) in
              pair-refused current i here bad after e differs (rw (is, ← same.1, ← same.2) round.1)
        ]

        pub disagrees : (result : Result R SumcheckError) → i < n → Ends result →
            IfErr result (λ e. Refuses m claim n before e after) →
            MatchResult result (λ _. ⊥) (λ e. IsMemory e ⊎ ((e ≡ fault.Round i) × (after ≡ bad)))
        disagrees (Ok r) few ok err = not-among n ok.0 (lasts r) after ok.2 few
        disagrees (Err e) few ok err = elim (cases_order i (length err.rounds)) [
          | inl same ↦ at-refused e err same
          | inr (inl more) ↦ absurd (not-among _ err.rounds err.current err.here err.accepts more)
          | inr (inr fewer) ↦ inl (ahead-refused claim n i before rounds current here after e accepts err (λ _. fewer))
        ]
