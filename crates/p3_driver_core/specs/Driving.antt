-- A driver of either side, as contracts see it.
use Rattle.std.specs.Prelude.{◌≡◌, List, ℕ, ◌||◌, true}
use Rattle.p3_fs_core.specs.declared.error.TranscriptError.{TranscriptError, TheVariants.{Challenger, OutOfMemory}}
use Rattle.p3_fs_core.specs.Steps.{Step}
use Rattle.p3_driver_core.specs.Transcripts.{Meaning, Transcript, OfCall, PlaysOrRefuses, IsNext, step_on}
use Rattle.p3_driver_core.specs.declared.steps.Steps.{Steps}
use Rattle.p3_patterns.specs.Playing.{Playing}
use Rattle.p3_symmetric.specs.declared.digest_hasher.DigestHasher.{Ghosts}
use Rattle.p3_challenger_core.specs.declared.error.ChallengerError.TheVariants as challenger

-- A driver: its challenger, its progress in the pattern, and bytes of the proof. These are the bytes that a
-- prover has written, or that a verifier has left to read.
pub record Driving (S : Type 0) : Type 0 where
  pub transcript : Transcript S
  pub bytes : List ℕ

-- the step is played with this result, or it is refused; the bytes stay the same
abbrev pub KeepsOrRefuses : {S Symbol A R : Type 0} → Meaning S Symbol A → OfCall (Driving S) R A
KeepsOrRefuses m before value result after =
    PlaysOrRefuses m before.transcript value result after.transcript × (after.bytes ≡ before.bytes)

-- why a driver could not be made: its seed is too long for the alphabet, or memory was refused
abbrev pub RefusesStart : Type 0 → TranscriptError → Type 0
RefusesStart IsTooLong (Challenger challenger.TooLong) = IsTooLong
RefusesStart IsTooLong OutOfMemory = Unit {0}
RefusesStart IsTooLong _ = ⊥

-- the progress of a driver in its pattern; nothing may follow while a step is open, or after one was abandoned
abbrev pub playing_of : {D : Type 0} {hasher : Ghosts D} → Steps D hasher → Playing
playing_of s = record (s.player) { finished = s.closed || s.player.finished }

-- the step is the next one and is open now: it was compared with the pattern, and is not played yet
pub record Opens {D : Type 0} {hasher : Ghosts D} (before : Steps D hasher) (s : Step)
    (after : Steps D hasher) : Type 0 where
  pub is_next : IsNext (playing_of before) s
  pub player : after.player ≡ step_on (playing_of before)
  pub closed : after.closed ≡ true

-- a driver between two steps: the state of its challenger, and its progress in the pattern
abbrev pub transcript_of : {D S : Type 0} {hasher : Ghosts D} → S → Steps D hasher → Transcript S
transcript_of challenger steps = record { challenger = challenger; playing = playing_of steps }
