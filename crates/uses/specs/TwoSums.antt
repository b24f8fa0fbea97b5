-- Two sumchecks in one transcript, each after its sum.
use Rattle.std.specs.Prelude.{◌≡◌, ◌<◌, ◌^◌, ℕ, List, [], ◌∷◌, ◌++◌, false, codes, length, Result, MatchResult}
use Rattle.p3_challenger.specs.{Steps.{NamedAlgebra, algebra_step, Step}, Driving.Driving, Kind.TheVariants.Message}
use Rattle.p3_challenger.specs.{Length.TheVariants.Scalar, Meanings.sent, PatternSteps.PatternSteps, Playing.IsPlayed}
use Rattle.p3_challenger.specs.{Proving.Writes, Rounds.steps_of_rounds, Verifying.EndsReading, Recording.Recording}
use Rattle.p3_challenger.specs.Transcripts.{AreNext, Meaning, PlaysStep, steps_on}
use Rattle.p3_challenger.specs.{PatternGrammar.IsViable, TranscriptError.{TranscriptError, TheVariants.OutOfMemory}}
use Rattle.p3_sumcheck.specs.Sumchecks.{IsMemory, IsNoPatternFault, Accepts, Proves, Sumcheck, challenges_of}
use Rattle.p3_sumcheck.specs.{Sumchecks.round_steps, Tables.total}
use Rattle.p3_sumcheck.specs.declared.{error.SumcheckError.SumcheckError, round.Round.Round}
use Rattle.uses.specs.declared.two_sums.Reduced.{Reduced}
use Rattle.p3_sumcheck.specs.declared.error.SumcheckError.TheVariants as fault

-- the steps of a sum and its rounds, and those of two sums
abbrev pub sum_step : NamedAlgebra → Step
sum_step field = algebra_step Message (codes "sum") field Scalar

abbrev pub steps_of_sum : NamedAlgebra → ℕ → List Step
steps_of_sum field n = sum_step field ∷ steps_of_rounds (round_steps field) n

abbrev pub steps_of_two : NamedAlgebra → ℕ → List Step
steps_of_two field n = steps_of_sum field n ++ steps_of_sum field n

-- A recorder that has refused none yet, and with whose steps and these some pattern begins, has refused none then, or
-- is out of memory.
abbrev pub RecordsViable : {R : Type 0} → List Step → Recording → Result R TranscriptError → Recording → Type 0
RecordsViable steps before result after = before.finished ≡ false → IsViable (before.steps ++ steps) →
    MatchResult result (λ _. after.finished ≡ false) (λ e. e ≡ OutOfMemory)

-- Where these steps are next they are played, and the driver then stands after them, or one of them is refused with
-- such a fault.
abbrev pub PlaysNext : {S R E : Type 0} → List Step → (E → Type 0) → Driving S → Result R E → Driving S → Type 0
PlaysNext steps IsFault before result after = AreNext steps before.transcript.playing → MatchResult result
    (λ _. after.transcript.playing ≡ steps_on steps before.transcript.playing) IsFault

-- a prover before its first step
abbrev pub begun : {S : Type 0} → S → PatternSteps → Driving S
begun challenger pattern =
    record {
      transcript = record {
        challenger = challenger;
        playing = record { pattern = pattern; position = 0; finished = false };
      };
      bytes = [];
    }

-- a driver at this point, with these bytes left
abbrev pub with_bytes : {S : Type 0} → Driving S → List ℕ → Driving S
with_bytes driver bytes = record { transcript = driver.transcript; bytes = bytes }

module _ {S Symbol F : Type 0} (m : Sumcheck S Symbol F) where
  abbrev pub sent_sum : F → Meaning S Symbol F
  sent_sum x = sent (sum_step m.field) m.observation m.encoding x

  -- the sum of a table is sent, followed by its true rounds at a point, where the table's value is this one
  pub record SendsSum (table : List F) (before after : Driving S) : Type 0 where
    pub point : List F
    pub value : F
    pub here : Driving S
    pub sum : Writes (sent_sum (total m.residues table)) before (total m.residues table) here
    pub rounds : Proves m table point value here after

  -- the sums and the rounds of two tables are sent
  pub record SendsTwo (first second : List F) (before after : Driving S) : Type 0 where
    pub here : Driving S
    pub one : SendsSum first before here
    pub other : SendsSum second here after

  -- these bytes are a proof of both sums
  pub record ProvesTwo (first second : List F) (challenger : S) (pattern : PatternSteps) (proof : List ℕ) : Type 0 where
    pub end : Driving S
    pub sends : SendsTwo first second (begun challenger pattern) end
    pub played : IsPlayed end.transcript.playing
    pub written : proof ≡ end.bytes

  -- a verifier is left with the sum of the table, and with its value at the point of the rounds
  pub record IsReduced (table : List F) {before after : Driving S} (it : SendsSum table before after) (read : Reduced F) :
      Type 0 where
    pub sum : read.sum ≡ total m.residues table
    pub point : read.point.items ≡ it.point
    pub value : read.value ≡ it.value

  -- a verifier is left with the sums of two tables, and with their values at the points of the rounds
  pub record AreReduced (first second : List F) {before after : Driving S} (it : SendsTwo first second before after)
      (one other : Reduced F) : Type 0 where
    pub one_is : IsReduced first it.one one
    pub other_is : IsReduced second it.other other

  -- ---- the verifier's side, for any bytes

  -- this value's bytes are next, and it is observed
  pub record ReadsValue (x : F) (before after : Driving S) : Type 0 where
    pub plays : PlaysStep (sent_sum x) before.transcript x after.transcript
    pub bytes : before.bytes ≡ m.encoding.wire x ++ after.bytes

  -- a sum is read, and rounds that lead from it to the value left
  pub record ReadsSum (n : ℕ) (read : Reduced F) (before after : Driving S) : Type 0 where
    pub rounds : List (Round F)
    pub here : Driving S
    pub sum : ReadsValue read.sum before here
    pub accepts : Accepts m read.sum n here rounds read.value after
    pub point : read.point.items ≡ challenges_of rounds

  -- two sums are read, each with its rounds
  pub record ReadsTwo (n : ℕ) (one other : Reduced F) (before after : Driving S) : Type 0 where
    pub here : Driving S
    pub first : ReadsSum n one before here
    pub second : ReadsSum n other here after

  -- these bytes are two sums with their rounds, and nothing more
  pub record AcceptsTwo (n : ℕ) (one other : Reduced F) (challenger : S) (pattern : PatternSteps) (proof : List ℕ) :
      Type 0 where
    pub end : Driving S
    pub reads : ReadsTwo n one other (with_bytes (begun challenger pattern) proof) end
    pub ends : EndsReading end

  -- ---- the verifier's side, for what was sent

  -- a sum that was sent of a table, with whatever follows it, is read, or memory is out
  abbrev pub ReadsSentSum : ℕ → Driving S → Result (Reduced F) SumcheckError → Driving S → Type 0
  ReadsSentSum n before result after = (table : List F) (start end : Driving S) (sent rest : List ℕ) →
      length table ≡ 2 ^ n → (it : SendsSum table start end) → end.bytes ≡ start.bytes ++ sent →
      before ≡ with_bytes start (sent ++ rest) →
      MatchResult result (λ read. IsReduced table it read × (after ≡ with_bytes end rest)) IsMemory

  -- two sums that were sent of tables are read, and no byte is left, or memory is out
  abbrev pub ReadsSentTwo : ℕ → Driving S → Result (Reduced F × Reduced F) SumcheckError → Driving S → Type 0
  ReadsSentTwo n before result after = (first second : List F) (start end : Driving S) (sent : List ℕ) →
      length first ≡ 2 ^ n → length second ≡ 2 ^ n → (it : SendsTwo first second start end) →
      end.bytes ≡ start.bytes ++ sent → before ≡ with_bytes start sent → MatchResult result
      (λ read. AreReduced first second it read.0 read.1 × (after ≡ with_bytes end [])) IsMemory

  -- a proof of both sums of two tables is accepted, or memory is out
  abbrev pub AcceptsProofOfTwo : ℕ → S → PatternSteps → List ℕ → Result (Reduced F × Reduced F) SumcheckError → Type 0
  AcceptsProofOfTwo n challenger pattern proof result = (first second : List F) → length first ≡ 2 ^ n →
      length second ≡ 2 ^ n → (it : ProvesTwo first second challenger pattern proof) →
      MatchResult result (λ read. AreReduced first second it.sends read.0 read.1) IsMemory

-- Sumchecks of n rounds whose steps are next are refused for one of these reasons. A round's pair does not add up
-- to its claim, the proof has another shape, or the challenger or memory is refused.
abbrev pub IsSumcheckFault : ℕ → SumcheckError → Type 0
IsSumcheckFault n (fault.Round i) = i < n
IsSumcheckFault n (fault.Transcript e) = IsNoPatternFault e
