-- Definitions of challengers, each with one thing wrong, and that what they query does not tell what they observed.
use Rattle.std.proofs.Common.{◌≡◌, ℕ, zero, suc, ◌-◌, ◌==◌, List, [], ◌∷◌, ◌++◌, inl, inr, Some, refl, sym, ap, ◌∙◌, arith}
use Rattle.std.proofs.Common.{length, take, replicate, slice_get, slice_index_or, if◌then◌else◌}
use Rattle.p3_challenger_core.specs.Segments.{Call, observe, observe_empty_array, draw, Run, stays, run_calls}
use Rattle.p3_small_primes.specs.F257Residues.{F257, residues}
use Rattle.p3_read_back.specs.Queries.{CollideAtSomePlace, LeaveSamePending, ReadsBack, ReadsBackOrCollides}
use Rattle.p3_sponge.specs.{Cells.counted_over, SpongeCalls.{SpongeRule, sponge_by_calls}}
use Rattle.p3_duplex.specs.DuplexCalls.{DuplexRun, duplex, fresh}
use Rattle.p3_hash_challenger.specs.HashCalls.{HashFunction}
use Rattle.p3_test_support.specs.{ReadBackWorlds.element_of, TestHashers.sum_digest}
use Rattle.p3_hash_challenger.specs.HashReadBack as hash
use Rattle.p3_duplex.specs.DuplexReadBack as duplex_read_back

-- two lists that are one collide nowhere, where no two that collide are equal
same-collide_nowhere : {M : Type 0} (Collide : M → M → Type 0) → ((one other : M) → Collide one other → ¬ (one ≡ other))
    → (ms : List M) → ¬ (CollideAtSomePlace Collide ms ms)
same-collide_nowhere Collide differ ms found =
    let one_is = found.one_is in
    let other_is = found.other_is in
    let same : found.one ≡ found.other = cc in differ found.one found.other found.collision same

-- ---- a block of the duplex without its count

-- three cells of the field of order 257, of which two are the rate, under any permutation
module _ (permute : List F257 → List F257) where
  -- the cells with a block written over the rate, and zeros after it: nothing says how long the block is
  abbrev overwritten_without_count : List F257 → List F257 → List F257
  overwritten_without_count cells block =
      counted_over residues 2 cells (block ++ replicate (2 - length block) (element_of 0)) 0

  abbrev duplex_without_count : SpongeRule (List F257) F257
  duplex_without_count = record (duplex residues permute 2) { over = overwritten_without_count }

  abbrev without_count : List (Call F257) → DuplexRun F257
  without_count calls = run_calls (sponge_by_calls duplex_without_count (take 2)) (fresh residues 3) calls

  -- the same state is permuted last, and the same left pending
  record EndAlikeWithoutCount (calls others : List (Call F257)) : Type 0 where
    last : slice_get (without_count calls).queries (length (without_count calls).queries - 1)
        ≡ slice_get (without_count others).queries (length (without_count others).queries - 1)
    pending : LeaveSamePending without_count (λ s. s.pending) calls others

  -- 5, and 5 with a zero after it
  abbrev five : List (Call F257)
  five = observe (element_of 5) ∷ draw ∷ []

  abbrev five_and_zero : List (Call F257)
  five_and_zero = observe (element_of 5) ∷ observe (element_of 0) ∷ draw ∷ []

  five-differs : ¬ (element_of 5 ∷ [] ≡ element_of 5 ∷ element_of 0 ∷ [])
  five-differs same = absurd (omega (arith, ap length same))

  without_count-reads_back_not : ¬ (ReadsBack without_count (λ s. s.pending))
  without_count-reads_back_not told = five-differs (told five five_and_zero refl refl)

  without_count-collides_not : ¬ (ReadsBackOrCollides without_count (λ s. s.pending) EndAlikeWithoutCount
      (duplex_read_back.Collide residues permute 2))
  without_count-collides_not told =
      elim (told five five_and_zero refl (record { last = refl; pending = refl })) [
        | inl same ↦ five-differs same
        | inr found ↦
            same-collide_nowhere (duplex_read_back.Collide residues permute 2) (λ _ _ collision. collision.different)
            (without_count five).queries found
      ]

-- ---- a hash challenger that loses its chain

-- what the next flush hashes, and the outputs left
record Chainless : Type 0 where
  pending : List ℕ
  outputs : List ℕ

module _ (h : HashFunction ℕ) where
  -- after a flush nothing is pending, and the digest not either
  abbrev flushed : Chainless → Chainless
  flushed s = record { pending = []; outputs = h.digest s.pending }

  abbrev ready : Chainless → Chainless
  ready s = if length s.outputs == 0 then flushed s else s

  abbrev last_taken : Chainless → Chainless
  last_taken s = record s { outputs = take (length s.outputs - 1) s.outputs }

  abbrev run_call : Chainless → Call ℕ → Run ℕ (List ℕ) Chainless
  run_call s (observe x) = stays (record { pending = s.pending ++ x ∷ []; outputs = [] })
  run_call s observe_empty_array = stays (record s { outputs = [] })
  run_call s draw = record {
    answers = slice_index_or (ready s).outputs (length (ready s).outputs - 1) h.filler ∷ [];
    queries = if length s.outputs == 0 then s.pending ∷ [] else [];
    after = last_taken (ready s);
  }

  abbrev chain_lost : List (Call ℕ) → Run ℕ (List ℕ) Chainless
  chain_lost calls =
      run_calls {D = Unit {0}} (record { call = run_call; digest = λ _. stays tt }) (record { pending = []; outputs = [] }) calls

  -- one string alone was hashed by each, so that these two collide
  one_place : (one other : List ℕ) (place : ℕ) → slice_get ((5 ∷ []) ∷ []) place ≡ Some one
      → slice_get ((6 ∷ []) ∷ []) place ≡ Some other → h.digest one ≡ h.digest other → h.digest (5 ∷ []) ≡ h.digest (6 ∷ [])
  one_place one other zero one_is other_is same =
      let first : 5 ∷ [] ≡ one = cc in
      let second : 6 ∷ [] ≡ other = cc in ap h.digest first ∙ same ∙ sym (ap h.digest second)
  one_place one other (suc place) one_is other_is same = cc

  chain_lost-collides_not : ¬ (h.digest (5 ∷ []) ≡ h.digest (6 ∷ [])) → ¬ (ReadsBackOrCollides chain_lost
      (λ s. s.pending) (LeaveSamePending chain_lost (λ s. s.pending)) (hash.Collide h))
  chain_lost-collides_not differ told =
      elim (told (observe 5 ∷ draw ∷ []) (observe 6 ∷ draw ∷ []) refl refl) [
        | inl same ↦ let five : ◌≡◌ {A = ℕ} 5 6 = cc in absurd (omega (arith, five))
        | inr found ↦
            differ (one_place found.one found.other found.place found.one_is found.other_is found.collision.same_digest)
      ]

-- so it is of the hash function of sums, whose digests of 5 and of 6 are others
abbrev by_sum : HashFunction ℕ
by_sum = record { digest = sum_digest; out_len = 32; filler = 0 }

chain_lost-collides_not-by_sum : ¬ (ReadsBackOrCollides (chain_lost by_sum) (λ s. s.pending)
    (LeaveSamePending (chain_lost by_sum) (λ s. s.pending)) (hash.Collide by_sum))
chain_lost-collides_not-by_sum =
    chain_lost-collides_not by_sum (λ same. let five : ◌≡◌ {A = ℕ} 5 6 = cc in absurd (omega (arith, five)))
