-- The label of an instance without the lengths of its chunks, by which two instances have one seed.
use Rattle.std.proofs.Common.{◌≡◌, ℕ, List, [], ◌∷◌, ◌++◌, length, flat_map, replicate, codes, refl, ap, arith, lit<}
use Rattle.std.{specs.List.All, proofs.lemmas.List.Elements.All-from_recursion}
use Rattle.p3_fs_core.specs.declared.step.Kind.TheVariants.{Protocol}
use Rattle.p3_patterns.specs.{PatternGrammar.nothing, PatternSteps.{PatternSteps, steps_of}, Rendering.hashed_text}
use Rattle.p3_domain_separator.specs.Seed.{SeedParts, AreSeedParts, FitsCount, identifier, label_of, seed_of_parts}
use Rattle.p3_domain_separator.specs.{SeparatorSeed.seed_parts, SeedLaws.{label_injective, seed_prefix_code}}
use Rattle.p3_domain_separator.specs.Separators.{HeldSeparator, Separator, contents_of}

-- a separator's seed, where the label of chunks is this
module _ (label : List (List ℕ) → List ℕ) (digest_of : List ℕ → List ℕ) where
  abbrev parts : Separator → SeedParts
  parts s = record {
    protocol_id = identifier s.version s.name;
    digest = digest_of (hashed_text (steps_of s.pattern));
    label = label s.chunks;
  }

  -- the parts are those of a seed, and the length of each chunk fits in its bytes
  abbrev Fit : Separator → Type 0
  Fit s = AreSeedParts (parts s) × All FitsCount s.chunks

-- with the label as it stands they are those of a separator's seed
as_the_seed : (digest_of : List ℕ → List ℕ) (s : HeldSeparator) →
    seed_parts digest_of s ≡ parts label_of digest_of (contents_of s)
as_the_seed digest_of s =
    λ i. record {
      protocol_id = s.is_identifier.encoded i;
      digest = digest_of (hashed_text (steps_of s.pattern));
      label = s.is_label.encoded i;
    }

-- what is said of labels: separators of one seed have the same chunks
abbrev SeedsTellChunks : (List (List ℕ) → List ℕ) → Type 0
SeedsTellChunks label = (digest_of : List ℕ → List ℕ) (s t : Separator) → Fit label digest_of s → Fit label digest_of t →
    seed_of_parts (parts label digest_of s) ≡ seed_of_parts (parts label digest_of t) → s.chunks ≡ t.chunks

-- with lengths it is so
with_lengths : SeedsTellChunks label_of
with_lengths digest_of s t s_fits t_fits same =
    let told = seed_prefix_code (parts label_of digest_of s) (parts label_of digest_of t) [] [] s_fits.0 t_fits.0
    (ap (λ seed. seed ++ []) same) in
    label_injective s.chunks t.chunks s_fits.1 t_fits.1 (ap (λ (p : SeedParts). p.label) told.0)

-- ---- the label without them: the chunks one after another

abbrev without_lengths : List (List ℕ) → List ℕ
without_lengths chunks = flat_map (λ chunk. chunk) chunks

abbrev no_steps : PatternSteps
no_steps = record { steps = []; is_pattern = ∣ nothing Protocol ∣₁; few = lit< tt; fit = tt }

abbrev instance_of : List (List ℕ) → Separator
instance_of chunks = record { version = 1; name = codes "p"; chunks = chunks; pattern = no_steps }

-- 1 and 2, each in a chunk of its own, and both in one
abbrev apart : Separator
apart = instance_of ((1 ∷ []) ∷ (2 ∷ []) ∷ [])

abbrev joined : Separator
joined = instance_of ((1 ∷ 2 ∷ []) ∷ [])

abbrev any_digest : List ℕ → List ℕ
any_digest text = replicate 32 0

without_lengths-refused : ¬ (SeedsTellChunks without_lengths)
without_lengths-refused told =
    let apart_fit : Fit without_lengths any_digest apart =
    ((refl, refl, lit< tt), All-from_recursion FitsCount apart.chunks (lit< tt, (lit< tt, tt))) in
    let joined_fit : Fit without_lengths any_digest joined =
    ((refl, refl, lit< tt), All-from_recursion FitsCount joined.chunks (lit< tt, tt)) in
    let same = told any_digest apart joined apart_fit joined_fit refl in absurd (omega (arith, ap length same))
