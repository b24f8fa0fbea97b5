-- Laws of one step of a verifier that is ahead of what a prover played, and has the prover's bytes next.
use Rattle.std.proofs.Common.{◌≡◌, ℕ, false, List, ◌++◌, Some, slice_get, length, ap, subst, ◌∙◌}
use Rattle.p3_fs_core.specs.{Steps.Step, declared.error.TranscriptError.{TranscriptError, TheVariants.OutOfMemory}}
use Rattle.p3_patterns.specs.Playing.{Playing}
use Rattle.p3_driver_core.specs.Transcripts.{IsNext, Meaning, PlaysStep, RefusesStep, Transcript}
use Rattle.p3_driver_core.specs.{Driving.Driving, Meanings.hinted, Reads.{Reading, hint_received}}
use Rattle.p3_driver_core.specs.Verifying.{Receives, RefusesToRead}
use Rattle.p3_step_laws.specs.{CompletenessLaws.step-completes, Completeness.Completes}
use Rattle.p3_step_laws.specs.OneReason.{OnlyMemoryRefuses, OnlyMemoryRefusesToRead}

-- A step that a verifier reads, where it is next, with its bytes, and would be played: it is, or memory is refused.
module _ {S Symbol A : Type 0} (m : Meaning S Symbol A) (r : Reading S Symbol A) (x : A) (completes : Completes m r x)
    (memory : OnlyMemoryRefusesToRead m r x) (transcript after : Transcript S) (plays : PlaysStep m transcript x after)
    (rest : List ℕ)
    (before : Driving S) (at : before ≡ record { transcript = transcript; bytes = m.wire ++ rest }) where
  pub reads : (y : A) (end : Driving S) → Receives r before y end →
      (y ≡ x) × (end ≡ record { transcript = after; bytes = rest })
  reads y end receives = completes.receives transcript after rest before end y plays at receives

  pub reads-or_memory : (e : TranscriptError) (end : Driving S) → RefusesToRead r before e end → e ≡ OutOfMemory
  reads-or_memory e end refuses = memory transcript after rest before end e plays at refuses

-- the same of one that leaves the bytes as they are
module _ {S Symbol A : Type 0} (m : Meaning S Symbol A) (x : A) (memory : OnlyMemoryRefuses m)
    (transcript after : Transcript S)
    (plays : PlaysStep m transcript x after) (rest : List ℕ) (before : Driving S)
    (at : before ≡ record { transcript = transcript; bytes = rest }) where
  start : before.transcript ≡ transcript
  start = ap (λ (v : Driving S). v.transcript) at

  pub plays-on : (y : A) (end : Driving S) → PlaysStep m before.transcript y end.transcript → end.bytes ≡ before.bytes →
      (y ≡ x) × (end ≡ record { transcript = after; bytes = rest })
  plays-on y end second keeps =
      let alike = (step-completes m).plays transcript after before.transcript end.transcript x y plays start second in
      let then = alike.1 in
      let left : end.bytes ≡ rest = keeps ∙ ap (λ (v : Driving S). v.bytes) at in
      (alike.0, λ i. record { transcript = then i; bytes = left i })

  pub plays-or_memory : (e : TranscriptError) (end : Transcript S) → RefusesStep m before.transcript e end →
      e ≡ OutOfMemory
  plays-or_memory e end refuses = memory transcript after before.transcript end x e plays start refuses

-- a step is next in a pattern
pub next-at : (p : Playing) (steps : List Step) (k : ℕ) (s : Step) → p.pattern.steps ≡ steps → p.position ≡ k →
    p.finished ≡ false → slice_get steps k ≡ Some s → IsNext p s
next-at p steps k s is position going at = (going, (λ i. slice_get (is i) (position i)) ∙ at)

-- a hint of so many bytes
module _ {S Symbol : Type 0} (label bytes : List ℕ) (n : ℕ) (wide : length bytes ≡ n) where
  pub completing-of : Completes {S = S} {Symbol = Symbol} (hinted label bytes)
      (hint_received label (length bytes)) bytes →
      Completes {S = S} {Symbol = Symbol} (hinted label bytes) (hint_received label n) bytes
  completing-of completes =
      subst (λ k. Completes {S = S} {Symbol = Symbol} (hinted label bytes) (hint_received label k) bytes) wide completes

  pub memory-of : OnlyMemoryRefusesToRead {S = S} {Symbol = Symbol} (hinted label bytes)
      (hint_received label (length bytes)) bytes →
      OnlyMemoryRefusesToRead {S = S} {Symbol = Symbol} (hinted label bytes) (hint_received label n) bytes
  memory-of memory =
      subst
      (λ k. OnlyMemoryRefusesToRead {S = S} {Symbol = Symbol} (hinted label bytes) (hint_received label k) bytes) wide
      memory
