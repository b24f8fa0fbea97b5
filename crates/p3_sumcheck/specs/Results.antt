-- What each side of a sumcheck returns, by the states before and after its call.
use Rattle.std.specs.Prelude.{◌≡◌, ℕ, ◌<◌, ◌^◌, ◌⊎◌, List, [], ◌∷◌, ◌++◌, length, Vec, Result, Err, IfOk, IfErr, OnOk}
use Rattle.std.specs.{Prelude.MatchResult, declared.alloc.Global.Global}
use Rattle.p3_challenger.specs.{Completeness.IsOwnRefusal, Driving.Driving, TranscriptError.TranscriptError}
use Rattle.p3_challenger.specs.Transcripts.{AreNext, steps_on}
use Rattle.p3_sumcheck.specs.{Claims.HasLuckyRound, Tables.{folded_at, total}}
use Rattle.p3_sumcheck.specs.Sumchecks.{Accepts, AcceptsAt, Disagrees, IsMemory, IsNoPatternFault, Proves, Refuses}
use Rattle.p3_sumcheck.specs.Sumchecks.{RefusesToProve, Sumcheck, challenges_of, sumcheck_steps}
use Rattle.p3_sumcheck.specs.declared.{error.SumcheckError.SumcheckError, round.Round.Round}
use Rattle.p3_sumcheck.specs.declared.error.SumcheckError.TheVariants as fault

-- ---- a prover of a table

module _ {S Symbol F : Type 0} (m : Sumcheck S Symbol F) (table : List F) (before : Driving S)
    (result : Result (Vec F Global × F) TranscriptError) (after : Driving S) where
  -- the true rounds are written, and the table's value at the point of their challenges is returned
  abbrev pub WritesTrueRounds : Type 0
  WritesTrueRounds = IfOk result (λ sent. Proves m table sent.0.items sent.1 before after)

  -- true rounds are written, and the error is that of the next one, or memory for the point is refused
  abbrev pub NamesUnwrittenRound : Type 0
  NamesUnwrittenRound = IfErr result (λ e. RefusesToProve m table before e after)

  -- Where the rounds are next they are played, and the prover then stands after them; or the challenger alone refuses,
  -- or memory is out.
  abbrev pub PlaysRoundsNext : Type 0
  PlaysRoundsNext = let steps = sumcheck_steps m.field in (n : ℕ) → length table ≡ 2 ^ n →
      AreNext (steps n) before.transcript.playing → MatchResult result (λ sent. (length sent.0.items ≡ n)
      × (after.transcript.playing ≡ steps_on (steps n) before.transcript.playing)) IsOwnRefusal

-- ---- a verifier of a claim, in so many rounds

module _ {S Symbol F : Type 0} (m : Sumcheck S Symbol F) (claim : F) (rounds : ℕ) (before : Driving S)
    (result : Result (Vec F Global × F) SumcheckError) (after : Driving S) where
  -- What is accepted are so many rounds: each pair is next in the proof and adds to the running claim, and each challenge
  -- is drawn right after its pair.
  abbrev pub AcceptsReadRounds : Type 0
  AcceptsReadRounds = IfOk result (λ read. AcceptsAt m claim rounds before read.0.items read.1 after)

  -- what is accepted is passed: the verifier stands after the steps
  abbrev pub PassesRounds : Type 0
  PassesRounds = OnOk result
      (after.transcript.playing ≡ steps_on (sumcheck_steps m.field rounds) before.transcript.playing)

  -- rounds that may be so accepted are, or memory is out
  abbrev pub AcceptsRoundsAhead : Type 0
  AcceptsRoundsAhead = (played : List (Round F)) (last : F) (end : Driving S) →
      Accepts m claim rounds before played last end → MatchResult result
      (λ read. (read.0.items ≡ challenges_of played) × (read.1 ≡ last) × (after ≡ end)) IsMemory

  -- some rounds are accepted, and the error is that of the next one, or memory for the point is refused
  abbrev pub NamesRefusedRound : Type 0
  NamesRefusedRound = IfErr result (λ e. Refuses m claim rounds before e after)

  -- Where the rounds are next, no step is refused for the sake of the pattern: the proof has another shape there, or
  -- the challenger or memory is refused.
  abbrev pub FindsNoPatternFault : Type 0
  FindsNoPatternFault = AreNext (sumcheck_steps m.field rounds) before.transcript.playing →
      (e : TranscriptError) → result ≡ Err (fault.Transcript e) → IsNoPatternFault e

  -- The first pair that does not add to the running claim is refused as that of its round, with no challenge drawn
  -- after it, or memory is out.
  abbrev pub StopsAtFirstWrongPair : Type 0
  StopsAtFirstWrongPair = (i : ℕ) (played : List (Round F)) (current : F) (here end : Driving S) → i < rounds →
      Accepts m claim i before played current here → Disagrees m current here end →
      MatchResult result (λ _. ⊥) (λ e. IsMemory e ⊎ ((e ≡ fault.Round i) × (after ≡ end)))

  -- what a prover sent of a table from the same transcript is accepted for the table's sum, or memory is out
  abbrev pub AcceptsTrueRounds : Type 0
  AcceptsTrueRounds = (table point : List F) (value : F) (start end : Driving S) (sent rest : List ℕ) →
      Proves m table point value start end → length table ≡ 2 ^ rounds → claim ≡ total m.residues table →
      end.bytes ≡ start.bytes ++ sent → before ≡ record start { bytes = sent ++ rest } → MatchResult result
      (λ read. (read.0.items ≡ point) × (read.1 ≡ value) × (after ≡ record end { bytes = rest })) IsMemory

  -- For every table: where the claim is not its sum, and yet the last claim is its value at the point, some round's
  -- challenge makes one claim of its pair and of the true one, which is another.
  abbrev pub FalseClaimNeedsLuckyRound : Type 0
  FalseClaimNeedsLuckyRound = (table : List F) (played : List (Round F)) → length table ≡ 2 ^ rounds →
      (claim ≡ total m.residues table → ⊥) → IfOk result (λ read.
      Accepts m claim rounds before played read.1 after → folded_at m.residues read.0.items table ≡ read.1 ∷ [] →
      HasLuckyRound m.residues table played)
