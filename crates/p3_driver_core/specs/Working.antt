-- Proof of work in a step.
use Rattle.std.specs.Prelude.{◌≡◌, ℕ, zero, suc, Bool, false, List, [], Option, Some, None, codes}
use Rattle.std.specs.Prelude.{if◌then◌else◌, Result, MatchResult}
use Rattle.p3_field_core.specs.Residues.{Residues}
use Rattle.p3_challenger_core.specs.{Observation.Observation, Sampling.{Sampling, RefusesDraw}}
use Rattle.p3_grinding.specs.Checks.{all_zero, check_of, IsLeast, RefusesSearch}
use Rattle.p3_fs_core.specs.{Encoding.Encoding, Errors.IsBadShape, Steps.Step}
use Rattle.p3_fs_core.specs.declared.error.TranscriptError.{TranscriptError}
use Rattle.p3_fs_core.specs.declared.error.TranscriptError.TheVariants.{Pattern, BadProofShape, Challenger, OutOfMemory}
use Rattle.p3_driver_core.specs.{Effects.{Effect, fitting}, Transcripts.{with_wire, OfCall}}
use Rattle.p3_driver_core.specs.Transcripts.{Meaning, Transcript, PlaysStep, RefusesOrder, Abandons, without_wire}
use Rattle.p3_challenger_core.specs.declared.error.ChallengerError.TheVariants as challenger

abbrev pub too_few_zero_bits : List ℕ
too_few_zero_bits = codes "pow witness does not produce enough zero bits"

-- what a step of work involves: the pattern's next step, the numbers of the witnesses, the symbols of a witness, and
-- its check
pub record Work (S Symbol W : Type 0) : Type 1 where
  pub interaction : Step
  pub residues : Residues W
  pub symbols : W → List Symbol
  pub check : W → Sampling S Bool

-- the symbols of a witness in a check by a number of bits
abbrev pub symbols_of_check : {Symbol : Type 0} → ℕ → List Symbol → List Symbol
symbols_of_check zero symbols = []
symbols_of_check (suc more) symbols = symbols

-- work of a number of bits, given the draws before the witness is observed and the draw of bits
abbrev pub work_of : {S Symbol W : Type 0} → Step → Residues W → Sampling S (Unit {0}) → Observation S Symbol W →
    (ℕ → Sampling S ℕ) → ℕ → Work S Symbol W
work_of interaction r before o bit_draws bits = record {
  interaction = interaction;
  residues = r;
  symbols = λ x. symbols_of_check bits (o.symbols x);
  check = check_of before o (all_zero (bit_draws bits)) bits;
}

-- the witness, where it passes
abbrev pub where_passed : {W : Type 0} → W → Option Bool → Option W
where_passed x None = None
where_passed x (Some passes) = if passes then Some x else None

-- why a check refuses a witness, and the state left: too few bits are 0, or the challenger refused
abbrev pub RefusesWitness : {S : Type 0} → Sampling S Bool → TranscriptError → S → S → Type 0
RefusesWitness check (BadProofShape reason) s t =
    (reason.now ≡ too_few_zero_bits) × (check.sampled s ≡ Some false) × (t ≡ check.after s)
RefusesWitness check (Challenger challenger.OutOfMemory) s t = ⊥
RefusesWitness check (Challenger e) s t = RefusesDraw check e s t
RefusesWitness check OutOfMemory s t = RefusesDraw check challenger.OutOfMemory s t
RefusesWitness check _ s t = ⊥

module _ {S Symbol W : Type 0} (work : Work S Symbol W) where
  -- ---- a witness is checked

  abbrev pub checking : W → Effect S Symbol W
  checking x = fitting (work.symbols x)
      (λ s. where_passed x ((work.check x).sampled s)) (work.check x).after (λ e s t. RefusesDraw (work.check x) e s t)

  -- a witness that the proof does not carry
  abbrev pub observed_work : W → Meaning S Symbol W
  observed_work x = without_wire work.interaction (checking x)

  -- a witness that is sent
  abbrev pub sent_work : Encoding W → W → Meaning S Symbol W
  sent_work e x = with_wire work.interaction (checking x) (e.wire x)

  -- the step was the next one, and too few bits are 0: the witness is checked, and no step may follow
  pub record FailsCheck (x : W) (before : Transcript S) (e : TranscriptError) (after : Transcript S) : Type 0 where
    pub reason_is : IsBadShape too_few_zero_bits e
    pub abandons : Abandons work.interaction before
        (λ s t. ((work.check x).sampled s ≡ Some false) × (t ≡ (work.check x).after s)) after

  -- Why a witness is refused, and the state left. The step may not be played, too few bits are 0, or the challenger
  -- refused the check, which alone allocates memory.
  abbrev pub RefusesToCheck : W → Transcript S → TranscriptError → Transcript S → Type 0
  RefusesToCheck x before (Pattern e) after = RefusesOrder work.interaction before (Pattern e) after
  RefusesToCheck x before e after = Abandons work.interaction before (RefusesWitness (work.check x) e) after

  -- the step is played with this witness, or it is refused
  abbrev pub ChecksOrRefuses : {R : Type 0} → W → Transcript S → Result R TranscriptError → Transcript S → Type 0
  ChecksOrRefuses x before result after =
      MatchResult result (λ _. PlaysStep (observed_work x) before x after) (λ e. RefusesToCheck x before e after)

  -- ---- a witness is searched for

  -- Why no witness is found, and the state left. The step may not be played; or no witness passes or memory was
  -- refused, and the challenger is as it was.
  abbrev pub RefusesToGrind : (S → Type 0) → Transcript S → TranscriptError → Transcript S → Type 0
  RefusesToGrind may_run_out before (Pattern e) after = RefusesOrder work.interaction before (Pattern e) after
  RefusesToGrind may_run_out before (Challenger challenger.OutOfMemory) after = ⊥
  RefusesToGrind may_run_out before (Challenger e) after =
      Abandons work.interaction before (RefusesSearch work.residues may_run_out work.check e) after
  RefusesToGrind may_run_out before OutOfMemory after =
      Abandons work.interaction before (RefusesSearch work.residues may_run_out work.check challenger.OutOfMemory) after
  RefusesToGrind may_run_out before _ after = ⊥

  -- the step is played with the least witness that passes, or it is refused
  abbrev pub GrindsOrRefuses : {R : Type 0} → (S → Type 0) → OfCall (Transcript S) R W
  GrindsOrRefuses may_run_out before value result after = MatchResult result
      (λ r. IsLeast work.residues work.check before.challenger (value r)
      × PlaysStep (observed_work (value r)) before (value r) after) (λ e. RefusesToGrind may_run_out before e after)
