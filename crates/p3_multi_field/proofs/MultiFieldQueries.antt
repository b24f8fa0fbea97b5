-- Permutations that give the same on what a multi-field challenger queries make it do the same.
use Rattle.std.{proofs.Common.{◌≡◌, ℕ, List, [], ◌∷◌, ◌++◌, refl, ap, ◌∙◌}, specs.List.All}
use Rattle.std.proofs.lemmas.List.Elements.{All-head, All-tail}
use Rattle.p3_challenger_core.specs.Segments.{Call, observe, observe_empty_array, draw}
use Rattle.p3_sponge.specs.SpongeQueryLaws.{Agree, same_value, same_draw}
use Rattle.p3_multi_field.specs.MultiFieldCalls.{FieldPair, Symbol, scalar, digest, MultiFieldSponge, scalars_rule}
use Rattle.p3_multi_field.specs.MultiFieldCalls.{scalars_over, blocks, absorbed_pending, words_absorbed}
use Rattle.p3_multi_field.specs.MultiFieldCalls.{queries_by_pending, queries_by_words, run_call}
use Rattle.p3_sponge.specs.{Cells.overwritten, SpongeCalls.{SpongeRule, emptied, permuting}}

all-second : {X : Type 0} (P : X → Type 0) (xs ys : List X) → All P (xs ++ ys) → All P ys
all-second P [] ys h = h
all-second P (x ∷ xs) ys h = all-second P xs ys (All-tail P x (xs ++ ys) h)

module _ {F PF : Type 0} (pair : FieldPair F PF) (permute other : List PF → List PF) (rate : ℕ) where
  abbrev rule : SpongeRule (List PF) F
  rule = scalars_rule pair permute rate

  abbrev Agreed : List PF → Type 0
  Agreed = Agree rule other

  -- what is pending is absorbed, and then blocks are
  same_absorbed : (cells : List PF) (pending : List F) (others : List (List PF))
      → All Agreed (queries_by_pending pair permute rate cells pending ++ others)
      → absorbed_pending pair other rate cells pending ≡ absorbed_pending pair permute rate cells pending
  same_absorbed cells [] others h = refl
  same_absorbed cells (x ∷ xs) others h =
      ap (λ after. emptied after rule.row_len)
      (All-head Agreed (scalars_over pair rate cells (x ∷ xs)) others h)

  same_pending : (cells : List PF) (pending : List F)
      → queries_by_pending pair other rate cells pending ≡ queries_by_pending pair permute rate cells pending
  same_pending cells [] = refl
  same_pending cells (x ∷ xs) = refl

  same_words : (s : MultiFieldSponge F PF) (others : List (List PF))
      → All Agreed (queries_by_words pair permute rate s.cells others)
      → words_absorbed pair other rate s others ≡ words_absorbed pair permute rate s others
  same_words s [] h = refl
  same_words s (block ∷ others) h =
      let state = overwritten pair.outer rate s.cells block in
      let rest = queries_by_words pair permute rate (permute state) others in
      ap (λ cells. words_absorbed pair other rate (emptied cells rule.row_len) others)
      (All-head Agreed state rest h)
      ∙ same_words (permuting rule state) others (All-tail Agreed state rest h)

  same_queries : (cells : List PF) (others : List (List PF))
      → All Agreed (queries_by_words pair permute rate cells others)
      → queries_by_words pair other rate cells others ≡ queries_by_words pair permute rate cells others
  same_queries cells [] h = refl
  same_queries cells (block ∷ others) h =
      let state = overwritten pair.outer rate cells block in
      let rest = queries_by_words pair permute rate (permute state) others in
      ap (λ after. state ∷ queries_by_words pair other rate after others) (All-head Agreed state rest h)
      ∙ ap (λ states. state ∷ states) (same_queries (permute state) others (All-tail Agreed state rest h))

  same_digest : (s : MultiFieldSponge F PF) (words : List PF)
      → All Agreed (run_call pair permute rate s (observe (digest words))).queries
      → run_call pair other rate s (observe (digest words)) ≡ run_call pair permute rate s (observe (digest words))
  same_digest s words h =
      let first = queries_by_pending pair permute rate s.cells s.pending in
      let opening = absorbed_pending pair permute rate s.cells s.pending in
      let all = blocks rate words in
      let others = queries_by_words pair permute rate opening.cells all in
      let rest : All Agreed others = all-second Agreed first others h in
      (λ i. let t = same_absorbed s.cells s.pending others h i in record {
        answers = [];
        queries = same_pending s.cells s.pending i ++ queries_by_words pair other rate t.cells all;
        after = words_absorbed pair other rate t all;
      })
      ∙ (λ i. record {
        answers = [];
        queries = first ++ same_queries opening.cells all rest i;
        after = same_words opening all rest i;
      })

  pub same_call : (s : MultiFieldSponge F PF) (call : Call (Symbol F PF))
      → All Agreed (run_call pair permute rate s call).queries
      → run_call pair other rate s call ≡ run_call pair permute rate s call
  same_call s (observe (scalar x)) h = same_value rule other s x h
  same_call s (observe (digest words)) h = same_digest s words h
  same_call s observe_empty_array h = refl
  same_call s draw h = same_draw rule other s h
