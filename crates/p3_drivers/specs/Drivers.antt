-- The two drivers as contracts see them.
use Rattle.std.specs.Prelude.{List, ℕ, false}
use Rattle.p3_challenger_core.specs.Observation.{Observation, observed_all}
use Rattle.p3_symmetric.specs.declared.digest_hasher.DigestHasher.{Ghosts}
use Rattle.p3_patterns.specs.PatternSteps.{PatternSteps}
use Rattle.p3_driver_core.specs.{Verifying.ReceivesOrRefuses, Driving.{Driving, KeepsOrRefuses, transcript_of}}
use Rattle.p3_driver_core.specs.{Proving.WritesOrRefuses, Reads.Reading, Transcripts.{Meaning, OfCall, Transcript}}
use Rattle.p3_drivers.specs.declared.{driver.DriverState.DriverState, tape.{Written.Written, Unread.Unread}}

-- the transcript of a driver of either side, with this state of its challenger
abbrev pub played_by : {C U D P S : Type 0} {hasher : Ghosts D} → (C → S) → DriverState C U D P hasher → Transcript S
played_by state d = transcript_of (state d.challenger) d.steps

-- a driver of either side, with this state of its challenger and these bytes of its tape
abbrev pub driving_of : {C U D P S : Type 0} {hasher : Ghosts D} → (C → S) → (P → List ℕ) → DriverState C U D P hasher →
    Driving S
driving_of state bytes d = record { transcript = played_by state d; bytes = bytes d.tape }

-- a driver plays the step and returns its result, or refuses the step; its bytes stay the same
abbrev pub Keeps : {C U D P S Symbol A R : Type 0} {hasher : Ghosts D} → (C → S) → (P → List ℕ) → Meaning S Symbol A →
    OfCall (DriverState C U D P hasher) R A
Keeps state bytes m before value result after =
    KeepsOrRefuses m (driving_of state bytes before) value result (driving_of state bytes after)

-- a prover
abbrev pub proving_of : {C U D S : Type 0} {hasher : Ghosts D} → (C → S) → DriverState C U D Written hasher → Driving S
proving_of state = driving_of state (λ tape. tape.narg.items)

-- a verifier
abbrev pub verifying_of : {C U D S : Type 0} {hasher : Ghosts D} → (C → S) → DriverState C U D Unread hasher → Driving S
verifying_of state = driving_of state (λ tape. tape.bytes.now)

module _ {C U D S Symbol A R : Type 0} {hasher : Ghosts D} (state : C → S) where
  -- a verifier plays a reading step and returns what it read, or refuses the step
  abbrev pub ReadsOrRefuses : Reading S Symbol A → OfCall (DriverState C U D Unread hasher) R A
  ReadsOrRefuses r before value result after =
      ReceivesOrRefuses r (verifying_of state before) value result (verifying_of state after)

  -- a prover plays a writing step, adds its bytes and returns its result, or refuses the step
  abbrev pub AddsOrRefuses : Meaning S Symbol A → OfCall (DriverState C U D Written hasher) R A
  AddsOrRefuses m before value result after =
      WritesOrRefuses m (proving_of state before) value result (proving_of state after)

-- a driver before its first step: its challenger has observed these items, its pattern is at its first step, and its
-- tape has these bytes
abbrev pub beginning : {S Symbol I : Type 0} → Observation S Symbol I → S → List I → PatternSteps → List ℕ → Driving S
beginning o challenger items pattern bytes = record {
  transcript = record {
    challenger = observed_all o.observed challenger items;
    playing = record { pattern = pattern; position = 0; finished = false };
  };
  bytes = bytes;
}
