-- From equal symbols to equal runs.
use Rattle.std.proofs.Common.{◌≡◌, ℕ, ◌≤◌, ◌⊎◌, inl, inr, List, length, Bool, true, false, refl, sym, ap, ◌∙◌}
use Rattle.std.{specs.List.All, specs.Prelude.Decides, proofs.lemmas.Bool.Decides.not_from_Decides}
use Rattle.std.proofs.lemmas.Slice.Eq.{bytes_eq-Decides}
use Rattle.p3_challenger_core.specs.Reading.{AreBytes, IsPrefixCodeOn}
use Rattle.p3_domain_separator.specs.Seed.{identifier, label_of, FitsCount, SeedParts, AreSeedParts}
use Rattle.p3_domain_separator.specs.{Seed.seed_of_parts, Separators.HeldSeparator, SeparatorSeed.{seed_of, seed_parts}}
use Rattle.p3_binding.{specs.Binding.{Collide, RenderingsTellPatterns, SymbolsBind, SameProtocol}, proofs.Lawful.Lawful}
use Rattle.p3_binding.proofs.{Runs.{EachTold, absorbed-bound}, Told.begins-equal}
use Rattle.p3_runs.specs.{Fronts.Run, Plays.Play, Rules.Rules}

-- ---- separators

-- laws of separators, where the digest of bytes is this
pub record SeparatorLaws (digest_of : List ℕ → List ℕ) : Type 0 where
  pub parts : (held : HeldSeparator) → AreSeedParts (seed_parts digest_of held)
  pub bytes : (held : HeldSeparator) → AreBytes (seed_of digest_of held)
  pub seeds : IsPrefixCodeOn AreSeedParts seed_of_parts
  pub identifiers : (v w : ℕ) (a b : List ℕ) → length a ≤ 62 → length b ≤ 62 → identifier v a ≡ identifier w b →
      (v ≡ w) × (a ≡ b)
  pub labels : (x y : List (List ℕ)) → All FitsCount x → All FitsCount y → label_of x ≡ label_of y → x ≡ y
  pub patterns : RenderingsTellPatterns

-- two texts of one digest are equal, and then something holds, or they collide
equal-or_collide : {P : Type 0} (digest_of : List ℕ → List ℕ) (a b : List ℕ) (test : Bool) → Decides test (a ≡ b) →
    digest_of a ≡ digest_of b → (a ≡ b → P) → P ⊎ Collide digest_of a b
equal-or_collide digest_of a b true decides share then = inl (then (decides.0 refl))
equal-or_collide digest_of a b false decides share then =
    inr (record { differ = not_from_Decides false decides refl; share = share })

-- ---- runs

module _ {X S Symbol I F EF O Ac : Type 0} (rules : Rules S Symbol I F EF O Ac) (play : X → Play S Symbol F EF O)
    (laws : Lawful rules) (told : EachTold rules play) (of : SeparatorLaws rules.digest_of) where
  abbrev parts_in : Run X F EF S → SeedParts
  parts_in x = seed_parts rules.digest_of x.separator

  -- the protocols, of equal parts of seeds
  same-protocol : (x y : Run X F EF S) → parts_in x ≡ parts_in y → SameProtocol x y
  same-protocol x y same =
      let xi = x.separator.is_identifier in let yi = y.separator.is_identifier in
      let xl = x.separator.is_label in let yl = y.separator.is_label in
      let names = of.identifiers xi.version yi.version xi.name yi.name xi.short yi.short
      (sym xi.encoded ∙ ap (λ (s : SeedParts). s.protocol_id) same ∙ yi.encoded) in
      let chunks = of.labels xl.chunks yl.chunks xl.counted yl.counted
      (sym xl.encoded ∙ ap (λ (s : SeedParts). s.label) same ∙ yl.encoded) in
      record { version = names.0; name = names.1; chunks = chunks }

  pub symbols-bind : SymbolsBind rules play
  symbols-bind x y feed =
      let begin = laws.begins _ _ _ _ (of.bytes x.separator) (of.bytes y.separator) feed.finished.0.seed_fits
      feed.finished.1.seed_fits feed.same in
      let same : parts_in x ≡ parts_in y
      = begins-equal seed_of_parts of.seeds _ _ (of.parts x.separator) (of.parts y.separator) begin.0 in
      record {
        protocol = same-protocol x y same;
        steps = equal-or_collide rules.digest_of _ _ _ (bytes_eq-Decides _ _)
            (ap (λ (s : SeedParts). s.digest) same)
            (λ texts. let patterns = (of.patterns x.separator.pattern y.separator.pattern).0 texts in
            let rest = begin.1 (ap seed_of_parts same) in
            record { patterns = patterns; values = absorbed-bound rules play laws told x y feed patterns rest });
      }
