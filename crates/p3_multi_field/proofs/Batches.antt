-- Scalars that are observed a batch at a time.
use Rattle.std.proofs.Common.{◌≡◌, ℕ, ◌<◌, ◌+◌, List, [], ◌∷◌, length, refl, ap, ◌∙◌}
use Rattle.p3_challenger_core.specs.Observation.{observed_all}
use Rattle.p3_multi_field.specs.MultiFieldCalls.{FieldPair, batch_of, scalars_rule}
use Rattle.p3_multi_field.specs.MultiFieldState.{MultiFieldState, scalar_observed, scalars_observed}
use Rattle.p3_sponge.specs.{SpongeCalls.SpongeRule, SpongeListLaws.{with_values, all-pending, all-absorbed}}
use Rattle.p3_sponge.specs.SpongeCalls as sponge

module _ {F PF P : Type 0} (pair : FieldPair F PF) (permute : P → List PF → List PF) (rate : ℕ) where
  abbrev rule : MultiFieldState F PF P → SpongeRule (List PF) F
  rule c = scalars_rule pair (permute c.permutation) rate

  -- the sponge observes scalars, and the permutation stays
  by-sponge : (c : MultiFieldState F PF P) (xs : List F)
      → scalars_observed pair permute rate c xs
      ≡ record c { sponge = observed_all (sponge.observed (rule c)) c.sponge xs }
  by-sponge c [] = refl
  by-sponge c (x ∷ xs) = by-sponge (scalar_observed pair permute rate c x) xs

  -- some scalars that do not fill the rate are pending
  pub observed-pending : (c : MultiFieldState F PF P) (xs : List F) → 0 < length xs
      → length c.sponge.pending + length xs < batch_of pair rate
      → scalars_observed pair permute rate c xs ≡ record c { sponge = with_values c.sponge xs }
  observed-pending c xs some short =
      by-sponge c xs ∙ ap (λ s. record c { sponge = s }) (all-pending (rule c) c.sponge xs some short)

  -- some that fill it are absorbed with what is pending
  pub observed-absorbed : (c : MultiFieldState F PF P) (xs : List F) → 0 < length xs
      → length c.sponge.pending + length xs ≡ batch_of pair rate
      → scalars_observed pair permute rate c xs
      ≡ record c { sponge = sponge.duplexed (rule c) (with_values c.sponge xs) }
  observed-absorbed c xs some full =
      by-sponge c xs ∙ ap (λ s. record c { sponge = s }) (all-absorbed (rule c) c.sponge xs some full)
