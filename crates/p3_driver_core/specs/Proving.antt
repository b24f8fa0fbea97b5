-- The effect of a step on a prover.
use Rattle.std.specs.Prelude.{◌≡◌, ◌≤◌, ◌⊎◌, ◌++◌, ℕ, take, Result, MatchResult}
use Rattle.p3_fs_core.specs.declared.error.{TranscriptError.TranscriptError, TranscriptError.TheVariants.OutOfMemory}
use Rattle.p3_fs_core.specs.Encoding.{Encoding}
use Rattle.p3_grinding.specs.Checks.{IsLeast}
use Rattle.p3_driver_core.specs.{Driving.Driving, Transcripts.{Abandons, OfCall}}
use Rattle.p3_driver_core.specs.Transcripts.{Meaning, PlaysStep, RefusesStep, RefusesLength, LeavesWire}
use Rattle.p3_driver_core.specs.Working.{Work, sent_work, RefusesToGrind, GrindsOrRefuses}

-- the step is played, and its bytes are added
pub record Writes {S Symbol A : Type 0} (m : Meaning S Symbol A) (before : Driving S) (x : A) (after : Driving S) :
    Type 0 where
  pub plays : PlaysStep m before.transcript x after.transcript
  pub wire : after.bytes ≡ before.bytes ++ m.wire

-- The step is refused. If memory was, a prefix of its bytes is added, and none of them before the challenger's part of
-- the step is complete.
pub record RefusesToWrite {S Symbol A : Type 0} (m : Meaning S Symbol A) (before : Driving S) (e : TranscriptError)
    (after : Driving S) : Type 0 where
  pub refuses : RefusesStep m before.transcript e after.transcript
  pub wire : LeavesWire m.wire e before.bytes after.bytes
  pub order : (after.bytes ≡ before.bytes) ⊎ (after.transcript.challenger ≡ m.effect.after before.transcript.challenger)

-- the step is played with this result, or it is refused
abbrev pub WritesOrRefuses : {S Symbol A R : Type 0} → Meaning S Symbol A → OfCall (Driving S) R A
WritesOrRefuses m before value result after =
    MatchResult result (λ r. Writes m before (value r) after) (λ e. RefusesToWrite m before e after)

-- ---- lists with a greatest length

-- a list that is too long is refused first, with nothing done
pub record RefusesLongList {S : Type 0} (len max : ℕ) (before : Driving S) (e : TranscriptError) (after : Driving S) :
    Type 0 where
  pub playing : RefusesLength len max before.transcript.playing e after.transcript.playing
  pub challenger : after.transcript.challenger ≡ before.transcript.challenger
  pub bytes : after.bytes ≡ before.bytes

abbrev pub WritesWithin : {S Symbol A R : Type 0} → ℕ → ℕ → Meaning S Symbol A → OfCall (Driving S) R A
WritesWithin len max m before value result after =
    MatchResult result (λ r. (len ≤ max) × Writes m before (value r) after)
    (λ e. RefusesLongList len max before e after ⊎ ((len ≤ max) × RefusesToWrite m before e after))

abbrev pub KeepsWithin : {S Symbol A R : Type 0} → ℕ → ℕ → Meaning S Symbol A → OfCall (Driving S) R A
KeepsWithin len max m before value result after =
    MatchResult result (λ r. (len ≤ max) × PlaysStep m before.transcript (value r) after.transcript)
    (λ e. RefusesLongList len max before e after ⊎ ((len ≤ max) × RefusesStep m before.transcript e after.transcript))
    × (after.bytes ≡ before.bytes)

-- ---- proof of work

-- a witness was found, and memory to write it was refused: a prefix of its bytes is added
pub record Unwritten {S Symbol W : Type 0} (work : Work S Symbol W) (enc : Encoding W) (before : Driving S)
    (e : TranscriptError) (after : Driving S) : Type 0 where
  pub memory : e ≡ OutOfMemory
  pub witness : W
  pub least : IsLeast work.residues work.check before.transcript.challenger witness
  pub abandons : Abandons work.interaction before.transcript (λ s t. t ≡ (work.check witness).after s) after.transcript
  pub wire : (n : ℕ) × (after.bytes ≡ before.bytes ++ take n (enc.wire witness))

-- the least witness that passes is found and its bytes are added, or the step is refused
abbrev pub GrindsAndWrites : {S Symbol W R : Type 0} → Work S Symbol W → Encoding W → (S → Type 0) → Driving S →
    Result R TranscriptError → Driving S → Type 0
GrindsAndWrites {S} {Symbol} {W} work enc may_run_out before result after = MatchResult result (λ _. (x : W)
    × IsLeast work.residues work.check before.transcript.challenger x × Writes (sent_work work enc x) before x after)
    (λ e. (RefusesToGrind work may_run_out before.transcript e after.transcript × (after.bytes ≡ before.bytes))
    ⊎ Unwritten work enc before e after)

-- the least witness that passes is the result and the proof stays the same, or the step is refused
abbrev pub GrindsAndKeeps : {S Symbol W R : Type 0} → Work S Symbol W → (S → Type 0) → OfCall (Driving S) R W
GrindsAndKeeps work may_run_out before value result after =
    GrindsOrRefuses work may_run_out before.transcript value result after.transcript × (after.bytes ≡ before.bytes)
