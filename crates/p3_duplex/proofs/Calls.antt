-- What methods do is what calls do.
use Rattle.std.proofs.Common.{◌≡◌, ℕ, zero, suc, List, [], ◌∷◌, map, replicate, refl, ap}
use Rattle.p3_field_core.specs.Residues.{Residues}
use Rattle.p3_duplex.specs.DuplexState.{DuplexState, fed, observed, sampled, after_sampled, drawn, run, after_calls}
use Rattle.p3_challenger_core.specs.{Sponge.after_steps, Segments.{observe, draw}}

module _ {F P : Type 0} (r : Residues F) (permute : P → List F → List F) (rate : ℕ) where
  pub fed-is_calls : (c : DuplexState F P) (xs : List F)
      → fed r permute rate c xs ≡ after_calls r permute rate c (map observe xs)
  fed-is_calls c [] = refl
  fed-is_calls c (x ∷ xs) = fed-is_calls (observed r permute rate c x) xs

  pub drawn-are_answers : (n : ℕ) (c : DuplexState F P)
      → drawn r permute rate n c ≡ (run r permute rate c (replicate n draw)).answers
  drawn-are_answers zero c = refl
  drawn-are_answers (suc n) c =
      ap (λ xs. sampled r permute rate c ∷ xs) (drawn-are_answers n (after_sampled r permute rate c))

  pub steps-are_calls : (n : ℕ) (c : DuplexState F P)
      → after_steps (after_sampled r permute rate) n c ≡ after_calls r permute rate c (replicate n draw)
  steps-are_calls zero c = refl
  steps-are_calls (suc n) c = steps-are_calls n (after_sampled r permute rate c)
