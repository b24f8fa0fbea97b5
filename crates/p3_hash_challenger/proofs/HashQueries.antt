-- Hash functions that give the same on what a hash challenger queries make it do the same.
use Rattle.std.{proofs.Common.{◌≡◌, List, [], ◌∷◌, Bool, true, false, ◌==◌, if◌then◌else◌, refl, ap}, specs.List.All}
use Rattle.std.proofs.lemmas.List.Elements.{All-head}
use Rattle.p3_challenger_core.specs.Segments.{Call, observe, observe_empty_array, draw}
use Rattle.p3_hash_challenger.specs.HashCalls.{HashFunction, HashSponge, flushed, last_output, one_taken}
use Rattle.p3_hash_challenger.specs.HashCalls.{queries_by_draw, queries_by_digest, run_call, run_digest}

module _ {T : Type 0} (h : HashFunction T) (other : List T → List T) where
  abbrev pub Agree : List T → Type 0
  Agree message = other message ≡ h.digest message

  abbrev by_other : HashFunction T
  by_other = record h { digest = other }

  -- a flush that is made or not
  same_step : (b : Bool) (s : HashSponge T) → All Agree (if b then s.pending ∷ [] else [])
      → (if b then flushed by_other s else s) ≡ (if b then flushed h s else s)
  same_step true s agree =
      ap (λ digest. record { pending = digest; outputs_left = h.out_len }) (All-head Agree s.pending [] agree)
  same_step false s agree = refl

  pub same_call : (s : HashSponge T) (call : Call T) → All Agree (run_call h s call).queries
      → run_call (record h { digest = other }) s call ≡ run_call h s call
  same_call s (observe x) agree = refl
  same_call s observe_empty_array agree = refl
  same_call s draw agree =
      ap (λ t. record { answers = last_output h t ∷ []; queries = queries_by_draw s; after = one_taken t })
      (same_step (s.outputs_left == 0) s agree)

  pub same_digest : (s : HashSponge T) → All Agree (run_digest h s).queries
      → run_digest (record h { digest = other }) s ≡ run_digest h s
  same_digest s agree =
      ap (λ digest. record { answers = []; queries = queries_by_digest s; after = digest })
      (All-head Agree s.pending [] agree)
