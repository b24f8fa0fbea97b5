-- Rounds that a verifier reads: where it stands and the bytes determine them.
use Rattle.std.proofs.Common.{◌≡◌, ℕ, List, [], ◌∷◌, ◌++◌, length, refl, ap, sym, ◌∙◌, append_assoc}
use Rattle.std.specs.List.{flat_map}
use Rattle.p3_challenger.specs.{CompletenessLaws.step-completes, Driving.Driving, Encoding.IsEncoding, Reading.AreBytes}
use Rattle.p3_challenger.specs.{Rounds.AreRounds, RoundLaws.rounds-seen, ReadBack.OnlyReads, Verifying.Receives}
use Rattle.p3_challenger.specs.Transcripts.{PlaysStep, Transcript}
use Rattle.p3_sumcheck.specs.{declared.round.Round.Round, Sumchecks.{read_pair, sent_pair, PlaysRound, ReadsPair}}
use Rattle.p3_sumcheck.specs.Sumchecks.{ReadsRound, Sumcheck, drawn_challenge, pair_of}

-- a driver at a transcript, with these bytes
abbrev pub at : {S : Type 0} → Transcript S → List ℕ → Driving S
at transcript bytes = record { transcript = transcript; bytes = bytes }

module _ {S Symbol F : Type 0} (m : Sumcheck S Symbol F) where
  -- ---- what the steps say

  pub pair-read : OnlyReads (read_pair m) (λ xs. length xs ≡ 2) (λ xs. sent_pair m xs) → (before : Driving S)
      (pair : List F) (after : Driving S) → AreBytes before.bytes → Receives (read_pair m) before pair after →
      ReadsPair m before pair after
  pair-read encoded before pair after are receives =
      record {
        plays = record {
          is_next = receives.is_next;
          fits = receives.fits;
          gives = receives.gives;
          challenger = receives.challenger;
          playing = receives.playing;
        };
        bytes = encoded.encoded before.bytes pair after.bytes are receives.read;
      }

  pub round-read : (before here after : Driving S) (first second drawn x : F) →
      ReadsPair m before (first ∷ second ∷ []) here →
      PlaysStep (drawn_challenge m) here.transcript drawn after.transcript → after.bytes ≡ here.bytes → x ≡ drawn →
      ReadsRound m before (record { first = first; second = second; challenge = x }) after
  round-read before here after first second drawn x reads draws kept is =
      rw is (record {
        plays = record { here = here.transcript; sends = reads.plays; draws = draws };
        bytes = rw kept reads.bytes;
      })

  -- the bytes of a round
  abbrev pub wire : Round F → List ℕ
  wire round = flat_map m.encoding.wire (pair_of round)

  -- ---- from one driver

  pub pair-of_round : (w u : Driving S) (x : Round F) (reads : ReadsRound m w x u) →
      ReadsPair m w (pair_of x) (at reads.plays.here u.bytes)
  pair-of_round w u x reads = record { plays = reads.plays.sends; bytes = reads.bytes }

  module _ (encodes : IsEncoding m.encoding) where
    -- two pairs that are read are one
    pub pair-same : (w u t : Driving S) (a b c d : F) → ReadsPair m w (a ∷ b ∷ []) u → ReadsPair m w (c ∷ d ∷ []) t →
        (c ≡ a) × (d ≡ b) × (t ≡ u)
    pair-same w u t a b c d one other =
        let first = encodes.prefix_code c a _ _ (simp append_assoc at (sym other.bytes ∙ one.bytes)) in
        let second = encodes.prefix_code d b t.bytes u.bytes first.1 in
        let plays : PlaysStep (sent_pair m (a ∷ b ∷ [])) w.transcript (a ∷ b ∷ []) t.transcript
        = rw (← first.0, ← second.0) other.plays in
        let end = ((step-completes (sent_pair m (a ∷ b ∷ []))).plays w.transcript u.transcript w.transcript t.transcript
        _ _ one.plays refl plays).1 in
        let left = second.1 in
        (first.0, second.0, λ i. at (end i) (left i))

    -- and so are two rounds
    pub round-same : (w u t : Driving S) (x y : Round F) → ReadsRound m w x u → ReadsRound m w y t →
        (y ≡ x) × (t ≡ u)
    round-same w u t x y one other =
        let pair = pair-same w _ _ x.first x.second y.first y.second (pair-of_round w u x one) (pair-of_round w t y other)
        in
        let first = pair.0 in
        let second = pair.1 in
        let draw = (step-completes (drawn_challenge m)).plays one.plays.here u.transcript other.plays.here t.transcript
        x.challenge y.challenge one.plays.draws (ap (λ (k : Driving S). k.transcript) pair.2) other.plays.draws in
        let drawn = draw.0 in
        let end = draw.1 in
        let left = ap (λ (k : Driving S). k.bytes) pair.2 in
        (λ i. record { first = first i; second = second i; challenge = drawn i }, λ i. at (end i) (left i))

  -- ---- rounds that are read are played, and the other way round

  pub reads-plays : (before : Driving S) (xs : List (Round F)) (after : Driving S) →
      AreRounds (ReadsRound m) before xs after → AreRounds (PlaysRound m) before.transcript xs after.transcript
  reads-plays = rounds-seen (ReadsRound m) (λ v. v.transcript) (PlaysRound m) (λ b x a round. round.plays)

  pub plays-reads : (v : Transcript S) (xs : List (Round F)) (end : Transcript S) (rest : List ℕ) →
      AreRounds (PlaysRound m) v xs end → AreRounds (ReadsRound m) (at v (flat_map wire xs ++ rest)) xs (at end rest)
  plays-reads v [] end rest plays = ap (λ t. at t rest) plays
  plays-reads v (x ∷ xs) end rest plays = (
    at plays.0 (flat_map wire xs ++ rest),
    record { plays = plays.1; bytes = append_assoc (wire x) (flat_map wire xs) rest },
    plays-reads plays.0 xs end rest plays.2,
  )
