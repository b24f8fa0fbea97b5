-- Worked rows, computed on the definitions: rounds in which a byte is sent, and read.
use Rattle.std.proofs.Common.{◌≡◌, ℕ, List, [], ◌∷◌, ◌++◌, length, refl, sym, ◌∙◌}
use Rattle.p3_fs_core.specs.Steps.{Step}
use Rattle.p3_driver_core.specs.Transcripts.{Transcript}
use Rattle.p3_step_laws.specs.RoundLaws.{StandsBefore, rounds-written, rounds-same}
use Rattle.p3_step_laws.specs.Rounds.{AreRounds, steps_of_rounds}

-- a byte is added to those sent before, and is the next one of those left to read
abbrev Sends : List ℕ → ℕ → List ℕ → Type 0
Sends before x after = after ≡ before ++ (x ∷ [])

abbrev Reads : List ℕ → ℕ → List ℕ → Type 0
Reads before x after = before ≡ x ∷ after

two_sent : AreRounds Sends (1 ∷ []) (5 ∷ 7 ∷ []) (1 ∷ 5 ∷ 7 ∷ [])
two_sent = (1 ∷ 5 ∷ [], refl, (1 ∷ 5 ∷ 7 ∷ [], refl, refl))

two_read : AreRounds Reads (5 ∷ 7 ∷ 9 ∷ []) (5 ∷ 7 ∷ []) (9 ∷ [])
two_read = (7 ∷ 9 ∷ [], refl, (9 ∷ [], refl, refl))

none_sent : AreRounds Sends (1 ∷ []) [] (1 ∷ [])
none_sent = refl

another_sent : AreRounds Sends [] (5 ∷ 8 ∷ []) (5 ∷ 7 ∷ []) → ⊥
another_sent rounds =
    let bytes : ◌≡◌ {A = List ℕ} (5 ∷ 7 ∷ []) (5 ∷ 8 ∷ [])
    = rounds-written Sends (λ s. s) (λ x. x ∷ []) (λ _ _ _ is. is) [] (5 ∷ 8 ∷ []) (5 ∷ 7 ∷ []) rounds in
    cc

-- whoever reads two bytes where these two were sent, reads them, and has left what followed
only_these_read : (bytes left : List ℕ) → AreRounds Reads (5 ∷ 7 ∷ 9 ∷ []) bytes left → length bytes ≡ 2 →
    (bytes ≡ 5 ∷ 7 ∷ []) × (left ≡ 9 ∷ [])
only_these_read bytes left reads many =
    rounds-same Sends Reads (λ sent xs unread. unread ≡ xs ++ (9 ∷ []))
    (λ v x xs t w y u before sends reads.
    let both : y ∷ u ≡ x ∷ (xs ++ (9 ∷ [])) = sym reads ∙ before in
    let same : y ≡ x = cc in
    let others : u ≡ xs ++ (9 ∷ []) = cc in
    (same, others))
    [] (5 ∷ 7 ∷ []) (5 ∷ 7 ∷ []) (5 ∷ 7 ∷ 9 ∷ []) bytes left refl (5 ∷ [], refl, (5 ∷ 7 ∷ [], refl, refl)) reads many

-- ---- a verifier, and a pattern

before_two : {S : Type 0} (transcript : Transcript S) →
    StandsBefore (λ x. x ∷ []) (9 ∷ []) transcript (5 ∷ 7 ∷ [])
    (record { transcript = transcript; bytes = 5 ∷ 7 ∷ 9 ∷ [] })
before_two transcript = refl

two_rounds : (message challenge : Step) →
    steps_of_rounds (message ∷ challenge ∷ []) 2 ≡ message ∷ challenge ∷ message ∷ challenge ∷ []
two_rounds message challenge = refl
