-- A sumcheck in a transcript: its rounds on both sides, and the result of each side.
use Rattle.std.specs.Prelude.{◌≡◌, ℕ, ◌^◌, ◌<◌, ◌≤◌, ◌⊎◌, false, List, [], ◌∷◌, ◌++◌, codes, length, map}
use Rattle.p3_challenger.specs.{Observation.Observation, Proving.{RefusesToWrite, Writes}, Rounds.steps_of_rounds}
use Rattle.p3_challenger.specs.{Rounds.AreRounds, Errors.IsBadShape, TranscriptError.TranscriptError, Sampling.Sampling}
use Rattle.p3_challenger.specs.{TranscriptError.TheVariants.OutOfMemory, Verifying.RefusesToRead, Encoding.Encoding}
use Rattle.p3_challenger.specs.{Transcripts.{AreNext, RefusesStep, Transcript, PlaysStep, Meaning}, Playing.Playing}
use Rattle.p3_challenger.specs.Meanings.{sent_list, drawn}
use Rattle.p3_challenger.specs.{Steps.{NamedAlgebra, algebra_step, Step}, Recording.{RefusesToRecord, Recording}}
use Rattle.p3_challenger.specs.{Driving.Driving, Completeness.IsOwnRefusal, Length.TheVariants.{Scalar, Fixed}}
use Rattle.p3_challenger.specs.{Codec.Ghosts, Reads.{received_list, Reading}, Kind.TheVariants.{Challenge, Message}}
use Rattle.p3_field.specs.Residues.{Residues, sum_of}
use Rattle.p3_sumcheck.specs.{declared.{error.SumcheckError.SumcheckError, round.Round.Round}, Tables.folded_at}
use Rattle.p3_sumcheck.specs.Claims.{Reduces, true_pair, true_rounds}
use Rattle.p3_sumcheck.specs.declared.error.SumcheckError.TheVariants as fault

-- a step of the pattern is refused: the proof has another shape, or the challenger or memory is refused
abbrev pub IsNoPatternFault : TranscriptError → Type 0
IsNoPatternFault e = ((reason : List ℕ) × IsBadShape reason e) ⊎ IsOwnRefusal e

-- ---- the steps

-- the steps of a round over a field: a message of two elements, and a challenge
abbrev pub pair_step : NamedAlgebra → Step
pair_step field = algebra_step Message (codes "round") field (Fixed 2)

abbrev pub round_steps : NamedAlgebra → List Step
round_steps field = pair_step field ∷ algebra_step Challenge (codes "fold") field Scalar ∷ []

-- the steps of n rounds
abbrev pub sumcheck_steps : NamedAlgebra → ℕ → List Step
sumcheck_steps field n = steps_of_rounds (round_steps field) n

-- the parameters of a sumcheck: a field, its name in steps, and the observation, draw and encoding of an element
pub record Sumcheck (S Symbol F : Type 0) : Type 1 where
  pub residues : Residues F
  pub field : NamedAlgebra
  pub observation : Observation S Symbol F
  pub sampling : Sampling S F
  pub encoding : Encoding F

abbrev pub sumcheck_of : {S Symbol F : Type 0} → Residues F → NamedAlgebra → Observation S Symbol F → Sampling S F →
    Encoding F → Sumcheck S Symbol F
sumcheck_of r field o d e = record { residues = r; field = field; observation = o; sampling = d; encoding = e }

-- the parameters of a sumcheck with a codec
abbrev pub sumcheck_by : {K C S Symbol F : Type 0} → Residues F → NamedAlgebra → Ghosts K C F S Symbol → Sumcheck S Symbol F
sumcheck_by r field codec = sumcheck_of r field codec.observation codec.sampling codec.encoding

abbrev pub pair_of : {F : Type 0} → Round F → List F
pair_of round = round.first ∷ round.second ∷ []

abbrev pub challenges_of : {F : Type 0} → List (Round F) → List F
challenges_of rounds = map (λ round. round.challenge) rounds

module _ {S Symbol F : Type 0} (m : Sumcheck S Symbol F) where
  -- a pair is sent, a pair is read, and a challenge is drawn
  abbrev pub sent_pair : List F → Meaning S Symbol (List F)
  sent_pair pair = sent_list (pair_step m.field) m.observation m.encoding pair

  abbrev pub read_pair : Reading S Symbol (List F)
  read_pair = received_list (pair_step m.field) m.observation m.encoding 2

  abbrev pub drawn_challenge : Meaning S Symbol F
  drawn_challenge = drawn (algebra_step Challenge (codes "fold") m.field Scalar) m.sampling

  -- either side plays a round: its pair is observed, and its challenge is drawn right after that
  pub record PlaysRound (before : Transcript S) (round : Round F) (after : Transcript S) : Type 0 where
    pub here : Transcript S
    pub sends : PlaysStep (sent_pair (pair_of round)) before (pair_of round) here
    pub draws : PlaysStep drawn_challenge here round.challenge after

  -- a prover plays a round, and adds the bytes of its pair
  pub record WritesRound (before : Driving S) (round : Round F) (after : Driving S) : Type 0 where
    pub plays : PlaysRound before.transcript round after.transcript
    pub bytes : after.bytes ≡ before.bytes ++ (sent_pair (pair_of round)).wire

  -- a verifier plays a round, whose pair's bytes are next
  pub record ReadsRound (before : Driving S) (round : Round F) (after : Driving S) : Type 0 where
    pub plays : PlaysRound before.transcript round after.transcript
    pub bytes : before.bytes ≡ (sent_pair (pair_of round)).wire ++ after.bytes

  -- a verifier reads a pair, whose bytes are next
  pub record ReadsPair (before : Driving S) (pair : List F) (after : Driving S) : Type 0 where
    pub plays : PlaysStep (sent_pair pair) before.transcript pair after.transcript
    pub bytes : before.bytes ≡ (sent_pair pair).wire ++ after.bytes

  -- ---- the prover's side

  -- a prover writes the true rounds of a table at a point, where the table's value is this one
  pub record Proves (table point : List F) (value : F) (before after : Driving S) : Type 0 where
    pub writes : AreRounds WritesRound before (true_rounds m.residues table point) after
    pub size : length table ≡ 2 ^ length point
    pub folds : folded_at m.residues point table ≡ value ∷ []

  -- a round is abandoned: its pair is refused, or it is written and the challenge is refused
  abbrev pub RefusesToSend : List F → Driving S → TranscriptError → Driving S → Type 0
  RefusesToSend pair before e after =
      RefusesToWrite (sent_pair pair) before e after ⊎ ((here : Driving S) × Writes (sent_pair pair) before pair here
      × RefusesStep drawn_challenge here.transcript e after.transcript × (after.bytes ≡ here.bytes))

  -- the true rounds at a point are written, and the next one is abandoned, or memory for the point is refused
  pub record RefusesToProve (table : List F) (before : Driving S) (e : TranscriptError) (after : Driving S)
      : Type 0 where
    pub point : List F
    pub here : Driving S
    pub writes : AreRounds WritesRound before (true_rounds m.residues table point) here
    pub refuses : (let left = folded_at m.residues point table in (1 < length left)
        × RefusesToSend (true_pair m.residues left) here e after) ⊎ ((e ≡ OutOfMemory) × (after ≡ here))

  -- ---- the verifier's side

  -- n rounds are read, and lead from the claim to the last one
  pub record Accepts (claim : F) (n : ℕ) (before : Driving S) (rounds : List (Round F)) (last : F) (after : Driving S)
      : Type 0 where
    pub count : length rounds ≡ n
    pub reads : AreRounds ReadsRound before rounds after
    pub reduces : AreRounds (Reduces m.residues) claim rounds last

  -- n rounds are read with these challenges as the point
  abbrev pub AcceptsAt : F → ℕ → Driving S → List F → F → Driving S → Type 0
  AcceptsAt claim n before point last after =
      (played : List (Round F)) × (point ≡ challenges_of played) × Accepts claim n before played last after

  -- a pair is read that does not add up to the claim
  abbrev pub Disagrees : F → Driving S → Driving S → Type 0
  Disagrees claim before after = (first : F) × (second : F) × ReadsPair before (first ∷ second ∷ []) after
      × (sum_of m.residues first second ≡ claim → ⊥)

  -- A round is abandoned. Either its pair is refused, or the pair is read and does not add up to the claim, or it
  -- adds up and the challenge is refused.
  abbrev pub RefusesRound : F → ℕ → Driving S → SumcheckError → Driving S → Type 0
  RefusesRound claim i before (fault.Round j) after = (j ≡ i) × Disagrees claim before after
  RefusesRound claim i before (fault.Transcript e) after = RefusesToRead read_pair before e after
      ⊎ ((first : F) × (second : F) × (here : Driving S) × ReadsPair before (first ∷ second ∷ []) here
      × (sum_of m.residues first second ≡ claim) × RefusesStep drawn_challenge here.transcript e after.transcript
      × (after.bytes ≡ here.bytes))

  -- some rounds are accepted, and the next one is abandoned, or memory for the point is refused
  pub record Refuses (claim : F) (n : ℕ) (before : Driving S) (e : SumcheckError) (after : Driving S) : Type 0 where
    pub rounds : List (Round F)
    pub current : F
    pub here : Driving S
    pub accepts : Accepts claim (length rounds) before rounds current here
    pub refuses : ((length rounds < n) × RefusesRound current (length rounds) here e after)
        ⊎ ((length rounds ≤ n) × (e ≡ fault.Transcript OutOfMemory) × (after ≡ here))

-- memory was refused
abbrev pub IsMemory : SumcheckError → Type 0
IsMemory e = e ≡ fault.Transcript OutOfMemory

-- ---- the pattern

-- some of these steps are recorded, and the next one is refused
abbrev pub RefusesToDeclare : List Step → Recording → TranscriptError → Recording → Type 0
RefusesToDeclare steps before e after = (done : List Step) × (next : Step) × (others : List Step) × (here : Recording)
    × (steps ≡ done ++ (next ∷ others)) × (here.steps ≡ before.steps ++ done) × RefusesToRecord here next e after

-- a player whose pattern has these steps, and who stands before them and has refused none, has them next
abbrev pub AreNextWhereListed : List Step → Type 0
AreNextWhereListed steps = (before after : List Step) (playing : Playing) →
    playing.pattern.steps ≡ before ++ (steps ++ after) → playing.position ≡ length before →
    playing.finished ≡ false → AreNext steps playing
