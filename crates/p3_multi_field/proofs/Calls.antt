-- What methods do is what calls do, and what place a draw has.
use Rattle.std.proofs.Common.{◌≡◌, ◌<◌, ℕ, zero, suc, List, [], ◌∷◌, ◌++◌, map, replicate, refl, sym, ap, ◌∙◌}
use Rattle.std.proofs.Common.{append-nil, subst}
use Rattle.p3_challenger_core.specs.Segments.{observe, draw, Segment, run_calls, run_segments, run_before}
use Rattle.p3_multi_field.specs.MultiFieldCalls.{FieldPair, Symbol, scalar, digest, MultiFieldSponge, batch_of, row_of}
use Rattle.p3_multi_field.specs.MultiFieldSegments.{Stretches, stretches, run_stretches, run_symbols, absorbed_cells}
use Rattle.p3_multi_field.specs.MultiFieldState.{MultiFieldState, fed, observed, sampled, after_sampled, drawn, run}
use Rattle.p3_multi_field.{specs.MultiFieldSegments.multi_field_by_segments, proofs.MultiFieldSteps.multi_field_steps}
use Rattle.p3_challenger_core.specs.{Sponge.after_steps, SegmentLaws.{cut-only, run_calls-segments}}
use Rattle.p3_sponge.specs.{SpongeCalls.{SpongeRule, SpongeRun}, SpongeSegments.{run_values, run_draws, opened_cells}}
use Rattle.p3_sponge.specs.{SpongePlaceLaws.{first_outputs, opened-places}, SpongeStepLaws.Fits}
use Rattle.p3_multi_field.specs.{MultiFieldCalls.{scalars_rule, multi_field_by_calls}, MultiFieldState.after_calls}

module _ {F PF P : Type 0} (pair : FieldPair F PF) (permute : P → List PF → List PF) (rate : ℕ) where
  pub fed-is_calls : (c : MultiFieldState F PF P) (symbols : List (Symbol F PF))
      → fed pair permute rate c symbols ≡ after_calls pair permute rate c (map observe symbols)
  fed-is_calls c [] = refl
  fed-is_calls c (scalar x ∷ symbols) = fed-is_calls (observed pair permute rate c (scalar x)) symbols
  fed-is_calls c (digest words ∷ symbols) = fed-is_calls (observed pair permute rate c (digest words)) symbols

  pub drawn-are_answers : (n : ℕ) (c : MultiFieldState F PF P)
      → drawn pair permute rate n c ≡ (run pair permute rate c (replicate n draw)).answers
  drawn-are_answers zero c = refl
  drawn-are_answers (suc n) c =
      ap (λ xs. sampled pair permute rate c ∷ xs) (drawn-are_answers n (after_sampled pair permute rate c))

  pub steps-are_calls : (n : ℕ) (c : MultiFieldState F PF P)
      → after_steps (after_sampled pair permute rate) n c ≡ after_calls pair permute rate c (replicate n draw)
  steps-are_calls zero c = refl
  steps-are_calls (suc n) c = steps-are_calls n (after_sampled pair permute rate c)

-- scalars alone are one stretch
stretches-scalars : {F PF : Type 0} (xs : List F)
    → stretches {F = F} {PF = PF} (map scalar xs) ≡ record { scalars = xs; digests = [] }
stretches-scalars [] = refl
stretches-scalars (x ∷ xs) =
    ap (λ cut. record { scalars = x ∷ cut.scalars; digests = cut.digests }) (stretches-scalars xs)

module _ {F PF : Type 0} (pair : FieldPair F PF) (permute : List PF → List PF) (rate : ℕ) where
  abbrev rule : SpongeRule (List PF) F
  rule = scalars_rule pair permute rate

  -- draws from a sponge take the places of the cells with all that is pending absorbed
  abbrev FromFirst : MultiFieldSponge F PF → ℕ → Type 0
  FromFirst s n = (run_draws rule s n).answers ≡ first_outputs rule (opened_cells rule s) n

  -- what symbols of one stretch do
  abbrev stretched : MultiFieldSponge F PF → Stretches F PF → SpongeRun (List PF) F
  stretched s cut =
      let first = run_values rule s cut.scalars in
      run_before first (run_stretches pair permute rate first.after cut.digests)

  scalars-after : (s : MultiFieldSponge F PF) (x : F) (xs : List F) (n : ℕ)
      → FromFirst (run_symbols pair permute rate s (map scalar (x ∷ xs))).after n
  scalars-after s x xs n =
      subst (λ cut. FromFirst (stretched s cut).after n) (sym (stretches-scalars (x ∷ xs)))
      (let end = (run_values rule s (x ∷ xs)).after in opened-places rule end.cells end.pending n)

  scalars-silent : (s : MultiFieldSponge F PF) (x : F) (xs : List F)
      → (run_symbols pair permute rate s (map scalar (x ∷ xs))).answers ≡ []
  scalars-silent s x xs = ap (λ cut. (stretched s cut).answers) (stretches-scalars (x ∷ xs))

  digest-silent : (cells : List PF) (pending : List F) (left : ℕ) (w : PF) (ws : List PF)
      → (run_symbols pair permute rate (record { cells = cells; pending = pending; outputs_left = left })
      (digest (w ∷ ws) ∷ [])).answers ≡ []
  digest-silent cells [] left w ws = refl
  digest-silent cells (x ∷ xs) left w ws = refl

  module _ (positive : 0 < rate) (some_batch : 0 < batch_of pair rate) (some_row : 0 < row_of pair rate)
      (s : MultiFieldSponge F PF) (fits : Fits rule s) where
    -- draws after symbols that answer nothing
    draws-after : (symbols : List (Symbol F PF)) (n : ℕ)
        → (run_symbols pair permute rate s symbols).answers ≡ []
        → FromFirst (run_symbols pair permute rate s symbols).after n
        → (run_calls (multi_field_by_calls pair permute rate) s (map observe symbols ++ replicate n draw)).answers
        ≡ first_outputs rule (absorbed_cells pair permute rate s symbols) n
    draws-after symbols n silent places =
        let calls = map observe symbols ++ replicate n draw in
        let first : Segment (Symbol F PF) = record { values = symbols; draws = n } in
        let by_segments = multi_field_by_segments pair permute rate in
        let draws = (run_draws rule (run_symbols pair permute rate s symbols).after n).answers in
        ap (λ run. run.answers)
        (run_calls-segments (Fits rule) (multi_field_by_calls pair permute rate) by_segments
        (multi_field_steps pair permute rate positive some_batch some_row) s fits calls)
        ∙ sym (ap (λ cut. (run_segments by_segments s cut).answers) (cut-only calls first [] refl))
        ∙ append-nil ((run_symbols pair permute rate s symbols).answers ++ draws)
        ∙ ap (λ answers. answers ++ draws) silent
        ∙ places

    pub scalars-places : (x : F) (xs : List F) (n : ℕ)
        → (run_calls (multi_field_by_calls pair permute rate) s
        (map observe (map scalar (x ∷ xs)) ++ replicate n draw)).answers
        ≡ first_outputs rule (absorbed_cells pair permute rate s (map scalar (x ∷ xs))) n
    scalars-places x xs n =
        draws-after (map scalar (x ∷ xs)) n (scalars-silent s x xs) (scalars-after s x xs n)

    pub digest-places : (w : PF) (ws : List PF) (n : ℕ)
        → (run_calls (multi_field_by_calls pair permute rate) s
        (map observe (digest (w ∷ ws) ∷ []) ++ replicate n draw)).answers
        ≡ first_outputs rule (absorbed_cells pair permute rate s (digest (w ∷ ws) ∷ [])) n
    digest-places w ws n =
        let end = (run_symbols pair permute rate s (digest (w ∷ ws) ∷ [])).after in
        draws-after (digest (w ∷ ws) ∷ []) n (digest-silent s.cells s.pending s.outputs_left w ws)
        (opened-places rule end.cells [] n)
