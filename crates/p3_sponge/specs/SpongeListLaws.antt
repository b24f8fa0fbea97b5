-- Observations of many values at a time.
use Rattle.std.proofs.Common.{◌≡◌, ◌<◌, ◌+◌, List, [], ◌∷◌, ◌++◌, length, true, false, ◌==◌, if◌then◌else◌, refl, ap}
use Rattle.std.proofs.{Common.{◌∙◌, append_assoc, arith}, lemmas.{List.length-append, Bool.Decides.nat_tests}}
use Rattle.p3_challenger_core.specs.Observation.{observed_all}
use Rattle.p3_sponge.specs.SpongeCalls.{SpongeRule, CellSponge, appended, duplexed, observed}

-- observing two lists in turn observes their concatenation
pub observed_all-append : {S T : Type 0} (step : S → T → S) (s : S) (xs ys : List T)
    → observed_all step (observed_all step s xs) ys ≡ observed_all step s (xs ++ ys)
observed_all-append step s [] ys = refl
observed_all-append step s (x ∷ xs) ys = observed_all-append step (step s x) xs ys

-- the sponge with more pending values
abbrev pub with_values : {C T : Type 0} → CellSponge C T → List T → CellSponge C T
with_values s xs = record { cells = s.cells; pending = s.pending ++ xs; outputs_left = 0 }

module _ {C T : Type 0} (rule : SpongeRule C T) where
  one_longer : (pending : List T) (x : T) → length (pending ++ x ∷ []) ≡ length pending + 1
  one_longer pending x = length-append pending (x ∷ [])

  -- a value that does not fill a block is pending
  observed-within : (s : CellSponge C T) (x : T) → length s.pending + 1 < rule.block_len
      → observed rule s x ≡ appended s x
  observed-within s x short =
      let long : length (s.pending ++ x ∷ []) ≡ length s.pending + 1 = one_longer s.pending x in
      let not_full : (length (s.pending ++ x ∷ []) == rule.block_len) ≡ false = grind (arith, nat_tests) in
      ap (λ b. if b then duplexed rule (appended s x) else appended s x) not_full

  -- a value that fills a block: all pending values are absorbed
  observed-whole : (s : CellSponge C T) (x : T) → length s.pending + 1 ≡ rule.block_len
      → observed rule s x ≡ duplexed rule (appended s x)
  observed-whole s x full =
      let long : length (s.pending ++ x ∷ []) ≡ length s.pending + 1 = one_longer s.pending x in
      let is_full : (length (s.pending ++ x ∷ []) == rule.block_len) ≡ true = grind (arith, nat_tests) in
      ap (λ b. if b then duplexed rule (appended s x) else appended s x) is_full

  all-within : (s : CellSponge C T) (x : T) (xs : List T) → length s.pending + length (x ∷ xs) < rule.block_len
      → observed_all (observed rule) s (x ∷ xs) ≡ with_values s (x ∷ xs)
  all-within s x [] short = observed-within s x (omega (arith, short))
  all-within s x (y ∷ ys) short =
      let long = one_longer s.pending x in
      ap (λ t. observed_all (observed rule) t (y ∷ ys)) (observed-within s x (omega (arith, short)))
      ∙ all-within (appended s x) y ys (omega (arith, short, long))
      ∙ ap (λ p. record { cells = s.cells; pending = p; outputs_left = 0 })
      (append_assoc s.pending (x ∷ []) (y ∷ ys))

  all-whole : (s : CellSponge C T) (x : T) (xs : List T) → length s.pending + length (x ∷ xs) ≡ rule.block_len
      → observed_all (observed rule) s (x ∷ xs) ≡ duplexed rule (with_values s (x ∷ xs))
  all-whole s x [] full = observed-whole s x (omega (arith, full))
  all-whole s x (y ∷ ys) full =
      let long = one_longer s.pending x in
      ap (λ t. observed_all (observed rule) t (y ∷ ys)) (observed-within s x (omega (arith, full)))
      ∙ all-whole (appended s x) y ys (omega (arith, full, long))
      ∙ ap (λ p. duplexed rule (record { cells = s.cells; pending = p; outputs_left = 0 }))
      (append_assoc s.pending (x ∷ []) (y ∷ ys))

  -- values that do not fill a block are pending
  pub all-pending : (s : CellSponge C T) (xs : List T) → 0 < length xs → length s.pending + length xs < rule.block_len
      → observed_all (observed rule) s xs ≡ with_values s xs
  all-pending s [] some short = absurd (omega (arith, some))
  all-pending s (x ∷ xs) some short = all-within s x xs short

  -- values that fill a block are absorbed with the pending ones
  pub all-absorbed : (s : CellSponge C T) (xs : List T) → 0 < length xs → length s.pending + length xs ≡ rule.block_len
      → observed_all (observed rule) s xs ≡ duplexed rule (with_values s xs)
  all-absorbed s [] some full = absurd (omega (arith, some))
  all-absorbed s (x ∷ xs) some full = all-whole s x xs full
