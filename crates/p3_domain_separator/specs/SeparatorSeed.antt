-- The seed of a separator, and a separator of the program as contracts see it.
use Rattle.std.specs.Prelude.{ℕ, List}
use Rattle.p3_patterns.specs.PatternSteps.{PatternSteps}
use Rattle.p3_symmetric.specs.declared.digest_hasher.DigestHasher.{Ghosts}
use Rattle.p3_domain_separator.specs.{declared.domain_separator.DomainSeparator.DomainSeparator, Seed.SeedParts}
use Rattle.p3_domain_separator.specs.{Seed.{parts_of, seed_of_parts}, Separators.{HeldSeparator, Separator, contents_of}}

-- the parts of the seed, for this digest function
abbrev pub seed_parts : (List ℕ → List ℕ) → HeldSeparator → SeedParts
seed_parts digest_of held = parts_of digest_of held.protocol_id held.pattern held.label

-- the bytes of the seed, for this digest function
abbrev pub seed_of : (List ℕ → List ℕ) → HeldSeparator → List ℕ
seed_of digest_of held = seed_of_parts (seed_parts digest_of held)

-- ---- a separator of the program

module _ {U D : Type 0} {hasher : Ghosts D} where
  -- what it holds, but for the digest of its pattern
  abbrev pub held_of : DomainSeparator U D hasher → HeldSeparator
  held_of s = record {
    protocol_id = s.protocol_id;
    label = s.instance_label.items;
    pattern = s.pattern.value;
    is_identifier = s.is_identifier;
    is_label = s.is_label;
    label_fits = s.label_fits;
  }

  -- its value, wherever it lies in memory
  abbrev pub separator_of : DomainSeparator U D hasher → Separator
  separator_of s = contents_of (held_of s)

  -- the bytes of its seed, for this digest function
  abbrev pub seed_of_separator : (List ℕ → List ℕ) → DomainSeparator U D hasher → List ℕ
  seed_of_separator digest_of s = seed_of digest_of (held_of s)

  -- the pattern that is played under it
  abbrev pub pattern_of : DomainSeparator U D hasher → PatternSteps
  pattern_of s = s.pattern.value
