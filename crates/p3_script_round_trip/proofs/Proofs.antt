-- What a prover answers is a proof.
use Rattle.std.proofs.Common.{◌≡◌, ℕ, List, refl, sym, subst, ◌⊎◌, inl, inr, Result, Ok, Err, IfOk, IfErr}
use Rattle.p3_fs_core.specs.declared.error.TranscriptError.{TranscriptError, TheVariants.{MissingBegin, InvalidKind}}
use Rattle.p3_fs_core.specs.declared.error.TranscriptError.TheVariants.{MismatchedBeginEnd, MissingEnd, BadProofShape}
use Rattle.p3_fs_core.specs.declared.error.TranscriptError.TheVariants.{Pattern, Challenger, LabelTooLong, OutOfMemory}
use Rattle.p3_runs.specs.{Fronts.Run, Plays.Play, Provings.IsProved, Rules.Rules, Values.{Value, Challenge}}
use Rattle.p3_runs.specs.Verdicts.{with_steps, IsProof, IsOutcome, Accepts, HasNoProof}
use Rattle.p3_script_round_trip.specs.RoundTrips.{PlaysOneRun}

-- an error is for memory, or it is not
is-memory : (e : TranscriptError) → (e ≡ OutOfMemory) ⊎ (e ≡ OutOfMemory → ⊥)
is-memory OutOfMemory = inl refl
is-memory (Pattern e) = inr (λ is. absurd (cc))
is-memory (BadProofShape e) = inr (λ is. absurd (cc))
is-memory (Challenger e) = inr (λ is. absurd (cc))
is-memory (MissingBegin x) = inr (λ is. absurd (cc))
is-memory (InvalidKind x) = inr (λ is. absurd (cc))
is-memory (MismatchedBeginEnd x) = inr (λ is. absurd (cc))
is-memory (MissingEnd x) = inr (λ is. absurd (cc))
is-memory LabelTooLong = inr (λ is. absurd (cc))

module _ {X S Symbol I F EF O Ac : Type 0} (rules : Rules S Symbol I F EF O Ac) (play : X → Play S Symbol F EF O)
    (script : Run X F EF S) (sent : List (Value F EF)) (narg : List ℕ) (witnesses carried : List F)
    (drawn : List (Challenge F EF)) (end : S)
    (p : IsProved rules play script sent narg witnesses carried drawn end) where
  is-proof : IsProof rules play (with_steps script script.steps p.values) narg carried
  is-proof =
      record {
        finished = p.outcome.is_run.finished;
        whole = p.outcome.is_run.whole;
        wire_is = p.outcome.narg_is;
        carries = p.outcome.carried_is;
      }

  -- what is accepted is the prover's run
  pub proved-same : (received : List (Value F EF)) (again : List (Challenge F EF)) (last : S) →
      Accepts rules play script narg carried received again last →
      PlaysOneRun rules play script sent narg witnesses carried drawn end received again last
  proved-same received again last a =
      record {
        values = p.values;
        proved = p.outcome;
        verified = subst (λ l. IsOutcome rules play (with_steps script script.steps l) received again last)
            (sym (a.only p.values is-proof)) a.outcome;
      }

  -- and only being out of memory refuses it
  pub proved-memory : (e : TranscriptError) →
      ((e ≡ OutOfMemory → ⊥) → HasNoProof rules play script narg carried) → e ≡ OutOfMemory
  proved-memory e only =
      elim (is-memory e) [
        | inl is ↦ is
        | inr other ↦ absurd (only other p.values is-proof)
      ]

pub map_ok : {T E : Type 0} {P Q : T → Type 0} (r : Result T E) → IfOk r P → ((x : T) → P x → Q x) → IfOk r Q
map_ok (Ok x) h f = f x h
map_ok (Err e) h f = h

pub map_err : {T E : Type 0} {P Q : E → Type 0} (r : Result T E) → IfErr r P → ((e : E) → P e → Q e) → IfErr r Q
map_err (Ok x) h f = h
map_err (Err e) h f = f e h
