-- A batch of candidates, whose checks are those of its digests.
use Rattle.std.proofs.{Common.{◌≡◌, ℕ, ◌+◌, ◌-◌, ◌<◌, ◌≤◌, ◌∙◌, sym, ap, inl, inr, Bool, arith}, lemmas.Bool.cases_lt}
use Rattle.p3_challenger_core.specs.Sampling.{Sampling}
use Rattle.p3_grinding.specs.Checks.{PassesAt, IsFirst, NoneOf}

module _ {S D : Type 0} (check : ℕ → Sampling S Bool) (s : S) (lane : ℕ → Sampling D Bool) (digests : D)
    (first count : ℕ) (same : (l : ℕ) → l < count → (check (first + l)).sampled s ≡ (lane l).sampled digests)
    (none : NoneOf check s first) where
  -- a candidate of the batch passes where its digest does
  passes_as : (n l : ℕ) → l < count → n ≡ first + l → PassesAt check s n → PassesAt lane digests l
  passes_as n l below is passes = sym (same l below) ∙ sym (ap (λ m. (check m).sampled s) is) ∙ passes

  fails_below : (limit n : ℕ) → limit ≤ count → n < first + limit
      → ((l : ℕ) → l < limit → ¬ (PassesAt lane digests l)) → ¬ (PassesAt check s n)
  fails_below limit n within below no_lane passes = elim (cases_lt n first) [
    | inl earlier ↦ none n earlier passes
    | inr here ↦
        let l = n - first in
        let inside : l < limit = omega (arith, here, below) in
        let in_batch : l < count = omega (arith, inside, within) in
        let is : n ≡ first + l = omega (arith, here) in
        no_lane l inside (passes_as n l in_batch is passes)
  ]

  -- the first digest that passes is that of the first candidate that does
  pub first-passes : (total l : ℕ) → first + count ≤ total → IsFirst lane digests count l
      → IsFirst check s total (first + l)
  first-passes total l within found =
      record {
        below = omega (arith, found.below, within);
        passes = same l found.below ∙ found.passes;
        first = λ n below. fails_below l n (omega (arith, found.below)) below found.first;
      }

  -- where none does, no candidate does up to the next batch
  pub none-passes : NoneOf lane digests count → NoneOf check s (first + count)
  none-passes no_lane n below = fails_below count n (omega arith) below no_lane
