-- Values that are observed a block at a time.
use Rattle.std.proofs.Common.{◌≡◌, ℕ, ◌<◌, ◌+◌, List, [], ◌∷◌, length, refl, ap, ◌∙◌}
use Rattle.p3_field_core.specs.Residues.{Residues}
use Rattle.p3_challenger_core.specs.Observation.{observed_all}
use Rattle.p3_sponge.specs.SpongeListLaws.{with_values, all-pending, all-absorbed}
use Rattle.p3_duplex.specs.DuplexState.{DuplexState, rule_of, observed, fed}
use Rattle.p3_sponge.specs.SpongeCalls as calls

module _ {F P : Type 0} (r : Residues F) (permute : P → List F → List F) (rate : ℕ) where
  -- a challenger feeds its sponge
  sponge-fed : (c : DuplexState F P) (xs : List F) → fed r permute rate c xs
      ≡ record c { sponge = observed_all (calls.observed (rule_of r permute rate c)) c.sponge xs }
  sponge-fed c [] = refl
  sponge-fed c (x ∷ xs) = sponge-fed (observed r permute rate c x) xs

  -- some values that do not fill the rate are pending
  pub fed-pending : (c : DuplexState F P) (xs : List F) → 0 < length xs → length c.sponge.pending + length xs < rate
      → fed r permute rate c xs ≡ record c { sponge = with_values c.sponge xs }
  fed-pending c xs some short =
      sponge-fed c xs
      ∙ ap (λ s. record c { sponge = s }) (all-pending (rule_of r permute rate c) c.sponge xs some short)

  -- some values that fill the rate are absorbed with what is pending
  pub fed-absorbed : (c : DuplexState F P) (xs : List F) → 0 < length xs → length c.sponge.pending + length xs ≡ rate
      → fed r permute rate c xs
      ≡ record c { sponge = calls.duplexed (rule_of r permute rate c) (with_values c.sponge xs) }
  fed-absorbed c xs some full =
      sponge-fed c xs
      ∙ ap (λ s. record c { sponge = s }) (all-absorbed (rule_of r permute rate c) c.sponge xs some full)
