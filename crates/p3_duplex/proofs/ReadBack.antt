-- What is permuted tells what was observed, or shows a collision.
use Rattle.std.proofs.Common.{◌≡◌, ℕ, suc, ◌+◌, ◌-◌, ◌<◌, ◌≤◌, ◌⊎◌, inl, inr, List, [], ◌∷◌, ◌++◌, length, Option}
use Rattle.std.proofs.Common.{take, drop, replicate, refl, sym, ap, ap₂, subst, ◌∙◌, append_assoc, arith, length-append}
use Rattle.std.proofs.{Common.slice_get, lemmas.Bool.cases_lt}
use Rattle.std.proofs.lemmas.List.{take_at, drop_at, get_or_at, length-replicate}
use Rattle.p3_field_core.specs.Residues.{Residues, IsResidues, plus}
use Rattle.p3_challenger_core.specs.Segments.{run_calls}
use Rattle.p3_read_back.specs.Queries.{observed_values, CollideAtSomePlace}
use Rattle.p3_read_back.specs.QueriesLaws.{list-decides, collide-first, collide-later}
use Rattle.p3_read_back.specs.SumLaws.{element-decides, plus-zero, counts-told, difference-of_sums}
use Rattle.p3_sponge.specs.SpongeReadBackLaws.{AreReadFrom, reads}
use Rattle.p3_duplex.specs.DuplexCalls.{DuplexSponge, duplex, duplex_by_calls}
use Rattle.p3_duplex.specs.DuplexReadBack.{Collide, ReadsBack, ReadsBackToDigest, ReadsBackOrCollides}
use Rattle.p3_sponge.specs.{Cells.cell, SpongeCalls.{SpongeRule, permutation_input}, SpongeStepLaws.Fits}
use Rattle.p3_sponge.specs.SpongeReadBackLaws as sponge

module _ {F : Type 0} (r : Residues F) (laws : IsResidues r) (permute : List F → List F) (rate : ℕ)
    (below : rate < r.order) where
  abbrev rule : SpongeRule (List F) F
  rule = duplex r permute rate

  -- the block with zeros up to the rate
  abbrev filled : List F → List F
  filled block = block ++ replicate (rate - length block) (r.of 0)

  filled-length : (block : List F) → length block ≤ rate → length (filled block) ≡ rate
  filled-length block within =
      let zeros = replicate (rate - length block) (r.of 0) in
      omega (arith, within, length-append block zeros, length-replicate {A = F} (rate - length block))

  abbrev input : List F → List F → List F
  input = permutation_input rule

  -- the cell after the rate has the count of the block added
  counted-cell : (cells block : List F) → length block ≤ rate
      → cell r (input cells block) rate ≡ plus r (cell r cells rate) (length block)
  counted-cell cells [] within = sym (plus-zero r laws (cell r cells rate) (omega (arith, below)))
  counted-cell cells (x ∷ xs) within =
      let block = x ∷ xs in
      get_or_at (filled block) (plus r (cell r cells rate) (length block)) (drop (rate + 1) cells) (r.of 0) rate
      (filled-length block within)

  -- the cells past that one are as they were
  past-permutation_input : (cells block : List F) → length block ≤ rate
      → drop (rate + 1) (input cells block) ≡ drop (rate + 1) cells
  past-permutation_input cells [] within = refl
  past-permutation_input cells (x ∷ xs) within =
      let block = x ∷ xs in
      let count = plus r (cell r cells rate) (length block) in
      let front = filled block ++ count ∷ [] in
      let long : length front ≡ rate + 1 =
      omega (arith, length-append (filled block) (count ∷ []), filled-length block within) in
      ap (drop (rate + 1)) (sym (append_assoc (filled block) (count ∷ []) (drop (rate + 1) cells)))
      ∙ drop_at front (drop (rate + 1) cells) (rate + 1) long

  -- the block stands in front
  block-front : (cells block : List F) → take (length block) (input cells block) ≡ block
  block-front cells [] = refl
  block-front cells (x ∷ xs) =
      let block = x ∷ xs in
      let zeros = replicate (rate - length block) (r.of 0) in
      let rest = plus r (cell r cells rate) (length block) ∷ drop (rate + 1) cells in
      ap (take (length block)) (append_assoc block zeros rest) ∙ take_at block (zeros ++ rest) (length block) refl

  -- blocks over the same cells are told by what is permuted
  block-told : (cells one other : List F) → length one ≤ rate → length other ≤ rate
      → input cells one ≡ input cells other → one ≡ other
  block-told cells one other one_within other_within e =
      let counts : plus r (cell r cells rate) (length one) ≡ plus r (cell r cells rate) (length other) =
      sym (counted-cell cells one one_within) ∙ ap (λ state. cell r state rate) e
      ∙ counted-cell cells other other_within in
      let long : length one ≡ length other =
      counts-told r laws (cell r cells rate) (length one) (length other) (omega (arith, one_within, below))
      (omega (arith, other_within, below)) counts in
      sym (block-front cells one)
      ∙ ap₂ (λ n state. take n state) long e ∙ block-front cells other

  -- cells over which two blocks come to the same
  near-cells : (c d one other : List F) → length one ≤ rate → length other ≤ rate
      → input c one ≡ input d other → (n : ℕ) × (n ≤ rate)
      × ((plus r (cell r c rate) n ≡ cell r d rate) ⊎ (plus r (cell r d rate) n ≡ cell r c rate))
  near-cells c d one other one_within other_within e =
      let sums : plus r (cell r c rate) (length one) ≡ plus r (cell r d rate) (length other) =
      sym (counted-cell c one one_within) ∙ ap (λ state. cell r state rate) e ∙ counted-cell d other other_within in
      elim (cases_lt (length one) (length other))
      as (λ _. (n : ℕ) × (n ≤ rate)
      × ((plus r (cell r c rate) n ≡ cell r d rate) ⊎ (plus r (cell r d rate) n ≡ cell r c rate))) [
        | inl less ↦ (
          length other - length one,
          omega (arith, other_within),
          inr (difference-of_sums r laws (cell r d rate) (cell r c rate) (length other) (length one)
              (omega (arith, other_within, below)) (omega (arith, less)) (sym sums)),
        )
        | inr over ↦ (
          length one - length other,
          omega (arith, one_within),
          inl (difference-of_sums r laws (cell r c rate) (cell r d rate) (length one) (length other)
              (omega (arith, one_within, below)) over sums),
        )
      ]

  past-cells : (c d one other : List F) → length one ≤ rate → length other ≤ rate
      → input c one ≡ input d other → drop (rate + 1) c ≡ drop (rate + 1) d
  past-cells c d one other one_within other_within e =
      sym (past-permutation_input c one one_within) ∙ ap (drop (rate + 1)) e ∙ past-permutation_input d other other_within

  -- two different states after which the same is permuted collide
  states-collide : (m n state : List F) (states : List (List F)) (values others rest left : List F) → ¬ (m ≡ n)
      → AreReadFrom rule (permute m) (state ∷ states) values rest → AreReadFrom rule (permute n) (state ∷ states) others left
      → Collide r permute rate m n
  states-collide m n state states values others rest left different j k =
      let same = sym j.3 ∙ k.3 in
      record {
        different = different;
        past = past-cells (permute m) (permute n) j.0 k.0 j.2 k.2 same;
        near = near-cells (permute m) (permute n) j.0 k.0 j.2 k.2 same;
      }

  abbrev SameOrCollide : List (List F) → List (List F) → Type 0
  SameOrCollide ms ns = (ms ≡ ns) ⊎ CollideAtSomePlace (Collide r permute rate) ms ns

  -- two that stand before the same are the same or collide
  before-same : (m n state : List F) (states : List (List F)) (values others rest left : List F)
      → AreReadFrom rule (permute m) (state ∷ states) values rest → AreReadFrom rule (permute n) (state ∷ states) others left
      → SameOrCollide (m ∷ state ∷ states) (n ∷ state ∷ states)
  before-same m n state states values others rest left j k =
      elim (list-decides (element-decides r laws) m n)
      as (λ _. SameOrCollide (m ∷ state ∷ states) (n ∷ state ∷ states)) [
        | inl same ↦ inl (ap (λ first. first ∷ state ∷ states) same)
        | inr different ↦ inr (collide-first (Collide r permute rate) m n (state ∷ states) (state ∷ states)
            (states-collide m n state states values others rest left different j k))
      ]

  abbrev last : List (List F) → Option (List F)
  last states = slice_get states (length states - 1)

  last-later : (state next : List F) (states : List (List F)) → last (state ∷ next ∷ states) ≡ last (next ∷ states)
  last-later state next states =
      let place : length (state ∷ next ∷ states) - 1 ≡ suc (length (next ∷ states) - 1) = omega arith in
      ap (slice_get (state ∷ next ∷ states)) place

  -- from the end of two lists of states that are equally long backwards
  same-or_collide : (ms ns : List (List F)) (c d values others rest left : List F) → AreReadFrom rule c ms values rest
      → AreReadFrom rule d ns others left → length ms ≡ length ns → last ms ≡ last ns → SameOrCollide ms ns
  same-or_collide [] [] c d values others rest left j k e l = inl refl
  same-or_collide [] (n ∷ ns) c d values others rest left j k e l = absurd (omega (arith, e))
  same-or_collide (m ∷ ms) [] c d values others rest left j k e l = absurd (omega (arith, e))
  same-or_collide (m ∷ []) (n ∷ []) c d values others rest left j k e l =
      let same : m ≡ n = cc in inl (ap (λ state. state ∷ []) same)
  same-or_collide (m ∷ []) (n ∷ n2 ∷ ns) c d values others rest left j k e l = absurd (omega (arith, e))
  same-or_collide (m ∷ m2 ∷ ms) (n ∷ []) c d values others rest left j k e l = absurd (omega (arith, e))
  same-or_collide (m ∷ m2 ∷ ms) (n ∷ n2 ∷ ns) c d values others rest left j k e l =
      let later_last = sym (last-later m m2 ms) ∙ l ∙ last-later n n2 ns in
      elim (same-or_collide (m2 ∷ ms) (n2 ∷ ns) (permute m) (permute n) j.1 k.1 rest left j.5 k.5 (omega (arith, e))
      later_last)
      as (λ _. SameOrCollide (m ∷ m2 ∷ ms) (n ∷ n2 ∷ ns)) [
        | inr found ↦ inr (collide-later (Collide r permute rate) m n (m2 ∷ ms) (n2 ∷ ns) found)
        | inl same ↦
            subst (λ (later : List (List F)). SameOrCollide (m ∷ m2 ∷ ms) (n ∷ later)) same
            (before-same m n m2 ms j.1 k.1 rest left j.5
            (subst (λ (later : List (List F)). AreReadFrom rule (permute n) later k.1 left) (sym same) k.5))
      ]

  module _ (positive : 0 < rate) (s : DuplexSponge F) (fits : Fits rule s) where
    pub reads_back : ReadsBack r permute rate s
    reads_back = sponge.reads_back rule positive positive (take rate) block-told s fits

    pub reads_back_to_digest : ReadsBackToDigest r permute rate s
    reads_back_to_digest = sponge.reads_back_to_digest rule positive positive (take rate) block-told s fits

    pub reads_back_or_collides : ReadsBackOrCollides r permute rate s
    reads_back_or_collides calls others counts ends =
        let one = run_calls (duplex_by_calls r permute rate) s calls in
        let other = run_calls (duplex_by_calls r permute rate) s others in
        elim (same-or_collide one.queries other.queries s.cells s.cells (s.pending ++ observed_values calls)
        (s.pending ++ observed_values others) one.after.pending other.after.pending
        (reads rule positive positive (take rate) calls s fits)
        (reads rule positive positive (take rate) others s fits) counts ends.last)
        as (λ _. (observed_values calls ≡ observed_values others)
        ⊎ CollideAtSomePlace (Collide r permute rate) one.queries other.queries) [
          | inl same ↦ inl (reads_back calls others same ends.pending)
          | inr found ↦ inr found
        ]
