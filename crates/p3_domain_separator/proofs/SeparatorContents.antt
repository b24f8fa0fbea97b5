-- What separators are made of: it is told by their bytes and their patterns, and tells those.
use Rattle.std.{proofs.Common.{◌≡◌, ℕ, ◌≤◌, List, length, sym, ap, ◌∙◌}, specs.List.All}
use Rattle.p3_patterns.specs.PatternSteps.{PatternSteps}
use Rattle.p3_domain_separator.specs.{Seed.{identifier, label_of, FitsCount}, SeedLaws.identifier_injective}
use Rattle.p3_domain_separator.specs.{SeparatorLaws.only_chunks, SeparatorSeed.separator_of, Separators.Separator}
use Rattle.p3_domain_separator.specs.declared.domain_separator.DomainSeparator.{DomainSeparator}
use Rattle.p3_symmetric.specs.declared.digest_hasher.DigestHasher.{Ghosts}
use Rattle.p3_patterns.specs.{PatternSteps.steps_of, Rendering.hashed_text}

module _ {U D : Type 0} {hasher : Ghosts D} where
  -- a separator with these bytes and this pattern is made of what they encode
  pub made_of : (s : DomainSeparator U D hasher) (version : ℕ) (name : List ℕ) (chunks : List (List ℕ))
      (pattern : PatternSteps) → s.protocol_id ≡ identifier version name → length name ≤ 62 →
      s.instance_label.items ≡ label_of chunks → All FitsCount chunks → s.pattern.value ≡ pattern →
      separator_of s ≡ record { version = version; name = name; chunks = chunks; pattern = pattern }
  made_of s version name chunks pattern id_is short label_is fit pattern_is =
      let id = s.is_identifier in
      let parts = identifier_injective id.version version id.name name id.short short (sym id.encoded ∙ id_is) in
      let same = only_chunks s.instance_label.items s.is_label chunks fit label_is in
      (λ i. record { version = parts.0 i; name = parts.1 i; chunks = same i; pattern = pattern_is i })

  -- separators with the same bytes and one pattern are made of the same
  pub same_contents : (s t : DomainSeparator U D hasher) → s.protocol_id ≡ t.protocol_id →
      s.instance_label.items ≡ t.instance_label.items → s.pattern.value ≡ t.pattern.value →
      separator_of s ≡ separator_of t
  same_contents s t ids labels patterns =
      made_of s t.is_identifier.version t.is_identifier.name t.is_label.chunks t.pattern.value
      (ids ∙ t.is_identifier.encoded)
      t.is_identifier.short
      (labels ∙ t.is_label.encoded)
      t.is_label.counted
      patterns

  pub same_bytes : (s t : DomainSeparator U D hasher) → separator_of s ≡ separator_of t →
      (s.protocol_id ≡ t.protocol_id) × (s.instance_label.items ≡ t.instance_label.items)
      × (s.pattern.value ≡ t.pattern.value)
  same_bytes s t same = (
    s.is_identifier.encoded ∙ ap (λ (p : Separator). identifier p.version p.name) same ∙ sym t.is_identifier.encoded,
    s.is_label.encoded ∙ ap (λ (p : Separator). label_of p.chunks) same ∙ sym t.is_label.encoded,
    ap (λ (p : Separator). p.pattern) same,
  )

  -- separators of one pattern have one digest
  pub same_digests : (digest_of : List ℕ → List ℕ) (s t : DomainSeparator U D hasher) →
      s.digest ≡ digest_of (hashed_text (steps_of s.pattern.value)) →
      t.digest ≡ digest_of (hashed_text (steps_of t.pattern.value)) → s.pattern.value ≡ t.pattern.value →
      s.digest ≡ t.digest
  same_digests digest_of s t one other patterns =
      one ∙ ap (λ (p : PatternSteps). digest_of (hashed_text (steps_of p))) patterns ∙ sym other
