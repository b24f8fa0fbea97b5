-- What is hashed tells what was observed, or shows a collision.
use Rattle.std.proofs.Common.{◌≡◌, ℕ, ◌⊎◌, inl, inr, Bool, true, false, List, [], ◌∷◌, ◌++◌, length, drop, refl, sym}
use Rattle.std.proofs.Common.{ap, subst, ◌∙◌, append_assoc, append-nil, arith, ◌==◌, if◌then◌else◌}
use Rattle.std.proofs.lemmas.List.{drop_at}
use Rattle.p3_challenger_core.specs.Segments.{Call, observe, observe_empty_array, draw, run_calls}
use Rattle.p3_challenger_core.specs.SymbolLaws.{as_many-prefix_code}
use Rattle.p3_read_back.specs.Queries.{observed_values, CollideAtSomePlace, Decides}
use Rattle.p3_read_back.specs.QueriesLaws.{last-told, list-decides, collide-first, collide-later}
use Rattle.p3_hash_challenger.specs.HashCalls.{HashFunction, HashSponge, HashRun, with_pending, hash_by_calls, one_taken}
use Rattle.p3_hash_challenger.specs.HashCalls.{flushed}
use Rattle.p3_hash_challenger.specs.HashReadBack.{Collide, ReadsBack, ReadsBackToDigest, ReadsBackOrCollides}

module _ {T : Type 0} (h : HashFunction T) where
  abbrev run : HashSponge T → List (Call T) → HashRun T
  run s calls = run_calls (hash_by_calls h) s calls

  abbrev sponge_of : List T → ℕ → HashSponge T
  sponge_of pending left = record { pending = pending; outputs_left = left }

  -- The values that follow the chain in each of the strings that are hashed, and then in what is pending. The chain of
  -- a string is the digest of the one before.
  read : List T → List (List T) → List T → List T
  read chain [] pending = drop (length chain) pending
  read chain (message ∷ messages) pending = drop (length chain) message ++ read (h.digest message) messages pending

  -- Strings begin each with the digest of the one before, and so does what is pending.
  IsChained : List T → List (List T) → List T → Type 0
  IsChained chain [] pending = (xs : List T) × (pending ≡ chain ++ xs)
  IsChained chain (message ∷ messages) pending =
      ((xs : List T) × (message ≡ chain ++ xs)) × IsChained (h.digest message) messages pending

  -- what a run says of the values behind a chain and those that it observes
  record Tells (chain values : List T) (messages : List (List T)) (pending : List T) : Type 0 where
    pub read_are : values ≡ read chain messages pending
    pub chained : IsChained chain messages pending

  -- a draw hashes all that is pending, or goes on
  draw-tells : (b : Bool) (left : ℕ) (chain xs : List T) (calls : List (Call T))
      → ((s : HashSponge T) (link seen : List T) → s.pending ≡ link ++ seen
      → Tells link (seen ++ observed_values calls) (run s calls).queries (run s calls).after.pending)
      → let s = sponge_of (chain ++ xs) left in
      let rest = run (one_taken (if b then flushed h s else s)) calls in
      Tells chain (xs ++ observed_values calls) ((if b then s.pending ∷ [] else []) ++ rest.queries) rest.after.pending
  unfolding read IsChained
  draw-tells true left chain xs calls later =
      let s = sponge_of (chain ++ xs) left in
      let link = h.digest (chain ++ xs) in
      let rest = run (one_taken (flushed h s)) calls in
      let told = later (one_taken (flushed h s)) link [] (sym (append-nil link)) in
      record {
        read_are = ap (λ ys. xs ++ ys) told.read_are
            ∙ ap (λ ys. ys ++ read link rest.queries rest.after.pending) (sym (drop_at chain xs (length chain) refl));
        chained = ((xs, refl), told.chained);
      }
  draw-tells false left chain xs calls later = later (one_taken (sponge_of (chain ++ xs) left)) chain xs refl

  tells : (calls : List (Call T)) (s : HashSponge T) (chain xs : List T) → s.pending ≡ chain ++ xs
      → Tells chain (xs ++ observed_values calls) (run s calls).queries (run s calls).after.pending
  unfolding read IsChained
  tells [] s chain xs e =
      record {
        read_are = append-nil xs ∙ sym (ap (drop (length chain)) e ∙ drop_at chain xs (length chain) refl);
        chained = (xs, e);
      }
  tells (observe x ∷ calls) s chain xs e =
      let t = with_pending (s.pending ++ x ∷ []) in
      let longer = ap (λ p. p ++ x ∷ []) e ∙ append_assoc chain xs (x ∷ []) in
      subst (λ (ys : List T). Tells chain ys (run t calls).queries (run t calls).after.pending)
      (append_assoc xs (x ∷ []) (observed_values calls)) (tells calls t chain (xs ++ x ∷ []) longer)
  tells (observe_empty_array ∷ calls) s chain xs e =
      tells calls (with_pending (s.pending ++ [])) chain xs (append-nil s.pending ∙ e)
  tells (draw ∷ calls) s chain xs e =
      subst (λ (p : List T). Tells chain (xs ++ observed_values calls)
      (run (sponge_of p s.outputs_left) (draw ∷ calls)).queries
      (run (sponge_of p s.outputs_left) (draw ∷ calls)).after.pending) (sym e)
      (draw-tells (s.outputs_left == 0) s.outputs_left chain xs calls (λ t link seen is. tells calls t link seen is))

  -- from a challenger on, whose pending is the chain
  run-tells : (s : HashSponge T) (calls : List (Call T))
      → Tells s.pending (observed_values calls) (run s calls).queries (run s calls).after.pending
  run-tells s calls = tells calls s s.pending [] (sym (append-nil s.pending))

  pub reads_back : (s : HashSponge T) → ReadsBack h s
  reads_back s calls others queries pending =
      (run-tells s calls).read_are
      ∙ ap (λ messages. read s.pending messages (run s calls).after.pending) queries
      ∙ ap (λ p. read s.pending (run s others).queries p) pending ∙ sym (run-tells s others).read_are

  pub reads_back_to_digest : (s : HashSponge T) → ReadsBackToDigest h s
  reads_back_to_digest s calls others queries =
      let one = run s calls in
      let other = run s others in
      let told = last-told one.queries other.queries one.after.pending other.after.pending queries in
      reads_back s calls others told.0 told.1

  -- the string that is hashed first, or what is pending where none is
  first : List (List T) → List T → List T
  first [] pending = pending
  first (message ∷ messages) pending = message

  first-chained : (chain : List T) (messages : List (List T)) (pending : List T) → IsChained chain messages pending
      → (xs : List T) × (first messages pending ≡ chain ++ xs)
  unfolding IsChained first
  first-chained chain [] pending is = is
  first-chained chain (message ∷ messages) pending is = is.0

  module _ (whole : (message : List T) → length (h.digest message) ≡ h.out_len) (values : Decides T) where
    -- two that chain to the same are equal or have one digest
    one_digest : (m n : List T) (messages : List (List T)) (pending : List T)
        → IsChained (h.digest m) messages pending → IsChained (h.digest n) messages pending → h.digest m ≡ h.digest n
    one_digest m n messages pending m_chained n_chained =
        let one = first-chained (h.digest m) messages pending m_chained in
        let other = first-chained (h.digest n) messages pending n_chained in
        (as_many-prefix_code (h.digest m) (h.digest n) one.0 other.0 (whole m ∙ sym (whole n)) (sym one.1 ∙ other.1)).0

    -- from the end of two chains that are equally long backwards
    same-or_collide : (ms ns : List (List T)) (c d pending : List T) → IsChained c ms pending → IsChained d ns pending
        → length ms ≡ length ns → (ms ≡ ns) ⊎ CollideAtSomePlace (Collide h) ms ns
    unfolding IsChained
    same-or_collide [] [] c d pending j k e = inl refl
    same-or_collide [] (n ∷ ns) c d pending j k e = absurd (omega (arith, e))
    same-or_collide (m ∷ ms) [] c d pending j k e = absurd (omega (arith, e))
    same-or_collide (m ∷ ms) (n ∷ ns) c d pending j k e =
        elim (same-or_collide ms ns (h.digest m) (h.digest n) pending j.1 k.1 (omega (arith, e)))
        as (λ _. (m ∷ ms ≡ n ∷ ns) ⊎ CollideAtSomePlace (Collide h) (m ∷ ms) (n ∷ ns)) [
          | inr found ↦ inr (collide-later (Collide h) m n ms ns found)
          | inl same ↦
              elim (list-decides values m n)
              as (λ _. (m ∷ ms ≡ n ∷ ns) ⊎ CollideAtSomePlace (Collide h) (m ∷ ms) (n ∷ ns)) [
                | inl equal ↦ inl cc
                | inr different ↦
                    let n_chained =
                    subst (λ (rest : List (List T)). IsChained (h.digest n) rest pending) (sym same) k.1 in
                    inr (collide-first (Collide h) m n ms ns (record {
                      different = different;
                      same_digest = one_digest m n ms pending j.1 n_chained;
                    }))
              ]
        ]

    pub reads_back_or_collides : (s : HashSponge T) → ReadsBackOrCollides h s
    reads_back_or_collides s calls others counts pending =
        let one = run s calls in
        let other = run s others in
        let one_chained : IsChained s.pending one.queries other.after.pending =
        subst (λ (p : List T). IsChained s.pending one.queries p) pending (run-tells s calls).chained in
        elim (same-or_collide one.queries other.queries s.pending s.pending other.after.pending one_chained
        (run-tells s others).chained counts)
        as (λ _. (observed_values calls ≡ observed_values others)
        ⊎ CollideAtSomePlace (Collide h) one.queries other.queries) [
          | inl same ↦ inl (reads_back s calls others same pending)
          | inr found ↦ inr found
        ]
