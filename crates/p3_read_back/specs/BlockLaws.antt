-- States that have absorbed blocks of values, each over the image of the state before. If one such state determines
-- its block, all of them determine all values.
use Rattle.std.proofs.Common.{◌≡◌, ℕ, ◌≤◌, List, [], ◌∷◌, ◌++◌, length, sym, ap₂, subst, ◌∙◌}
use Rattle.std.proofs.lemmas.List.{append_cancel_left}
use Rattle.p3_challenger_core.specs.Segments.{Call, Run}
use Rattle.p3_read_back.specs.Queries.{observed_values, ReadsBack, ReadsBackToDigest}

-- the input of the permutation for a block of bounded length over cells, and the permutation
module _ {T C : Type 0} (permutation_input : C → List T → C) (permute : C → C) (most : ℕ) where
  -- a state determines the block that was absorbed over known cells
  abbrev pub TellsBlock : Type 0
  TellsBlock =
      (cells : C) (one other : List T) → length one ≤ most → length other ≤ most
      → permutation_input cells one ≡ permutation_input cells other → one ≡ other

  -- Values are the blocks that states have absorbed, followed by a rest. The first block is absorbed over cells,
  -- and each later one over the image of the state before.
  abbrev pub AreRead : C → List C → List T → List T → Type 0
  AreRead cells [] values rest = values ≡ rest
  AreRead cells (state ∷ states) values rest =
      (block : List T) × (later : List T) × (length block ≤ most) × (state ≡ permutation_input cells block)
      × (values ≡ block ++ later) × AreRead (permute state) states later rest

  module _ (tells : TellsBlock) where
    -- states determine the list of values read from them
    pub one-reading : (states : List C) (cells : C) (values others rest : List T) → AreRead cells states values rest
        → AreRead cells states others rest → values ≡ others
    one-reading [] cells values others rest j k = j ∙ sym k
    one-reading (state ∷ states) cells values others rest j k =
        let block : j.0 ≡ k.0 = tells cells j.0 k.0 j.2 k.2 (sym j.3 ∙ k.3) in
        let later : j.1 ≡ k.1 = one-reading states (permute state) j.1 k.1 rest j.5 k.5 in
        j.4 ∙ ap₂ (λ xs ys. xs ++ ys) block later ∙ sym k.4

    -- a challenger that queries such states, from cells with pending values on, reads back
    module _ {A S : Type 0} (run : List (Call T) → Run A C S) (pending : S → List T) (cells : C) (before : List T) where
      pub reads_back-of_blocks :
          ((calls : List (Call T)) → AreRead cells (run calls).queries (before ++ observed_values calls)
          (pending (run calls).after))
          → ReadsBack run pending
      reads_back-of_blocks reads calls others queries ends =
          let values = before ++ observed_values calls in
          let same_states =
          subst (λ (states : List C). AreRead cells states values (pending (run calls).after)) queries (reads calls) in
          let same_ends = subst (λ (rest : List T). AreRead cells (run others).queries values rest) ends same_states in
          append_cancel_left before (observed_values calls) (observed_values others)
          (one-reading (run others).queries cells values (before ++ observed_values others) (pending (run others).after)
          same_ends (reads others))

    -- such a challenger also reads back up to a digest, where nothing is left pending
    module _ {A D : Type 0} (run_to_digest : List (Call T) → Run A C D) (cells : C) (before : List T) where
      pub reads_back_to_digest-of_blocks :
          ((calls : List (Call T)) → AreRead cells (run_to_digest calls).queries (before ++ observed_values calls) [])
          → ReadsBackToDigest run_to_digest
      reads_back_to_digest-of_blocks reads calls others queries =
          let values = before ++ observed_values calls in
          let same_states = subst (λ (states : List C). AreRead cells states values []) queries (reads calls) in
          append_cancel_left before (observed_values calls) (observed_values others)
          (one-reading (run_to_digest others).queries cells values (before ++ observed_values others) [] same_states
          (reads others))
