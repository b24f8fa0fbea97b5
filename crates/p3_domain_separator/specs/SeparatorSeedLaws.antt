-- A separator's seed consists of an identifier, a digest and a label, and each of them is bytes.
use Rattle.std.proofs.Common.{◌≡◌, ℕ, zero, suc, ◌-◌, ◌<◌, ◌≤◌, List, [], ◌∷◌, ◌++◌, length, replicate, sym, ap, ◌∙◌}
use Rattle.std.{proofs.{Common.{subst, arith, lit<}, lemmas.List.{length-append, length-replicate}}, specs.List.All}
use Rattle.p3_challenger_core.specs.Reading.{AreBytes}
use Rattle.p3_fs_core.specs.{BigEndian.in_bytes, BigEndianLaws.AreBytes-in_bytes}
use Rattle.p3_patterns.specs.{PatternSteps.steps_of, Rendering.hashed_text}
use Rattle.p3_symmetric.specs.Digests.{IsDigest}
use Rattle.p3_domain_separator.specs.Seed.{AreSeedParts, identifier, label_of, counted}
use Rattle.p3_domain_separator.specs.{SeparatorSeed.{seed_of, seed_parts}, Separators.HeldSeparator}

-- ---- bytes

bytes-append : (xs ys : List ℕ) → AreBytes xs → AreBytes ys → AreBytes (xs ++ ys)
bytes-append [] ys left right i = right i
bytes-append (x ∷ xs) ys left right zero = left zero
bytes-append (x ∷ xs) ys left right (suc i) = bytes-append xs ys (λ j. left (suc j)) right i

bytes-one : (n : ℕ) → n < 256 → AreBytes (n ∷ [])
bytes-one n below zero = below
bytes-one n below (suc i) = lit< tt

bytes-zeros : (k : ℕ) → AreBytes (replicate k 0)
bytes-zeros zero i = lit< tt
bytes-zeros (suc k) zero = lit< tt
bytes-zeros (suc k) (suc i) = bytes-zeros k i

bytes-counted : (bytes : List ℕ) → AreBytes bytes → AreBytes (counted bytes)
bytes-counted bytes = bytes-append (in_bytes 4 (length bytes)) bytes (AreBytes-in_bytes 4 (length bytes))

-- ---- identifiers and labels

identifier-long : (version : ℕ) (name : List ℕ) → length name ≤ 62 → length (identifier version name) ≡ 64
identifier-long version name short =
    let zeros : List ℕ = replicate (62 - length name) 0 in
    let end : List ℕ = length name ∷ [] in
    let filled = length-replicate {A = ℕ} (62 - length name) 0 in
    omega (arith, short, length-append name (zeros ++ end), length-append zeros end, filled)

identifier-bytes : (version : ℕ) (name : List ℕ) → version < 256 → length name ≤ 62 → AreBytes name →
    AreBytes (identifier version name)
identifier-bytes version name small short bytes =
    let zeros : List ℕ = replicate (62 - length name) 0 in
    let end : List ℕ = length name ∷ [] in
    let last = bytes-one (length name) (omega (arith, short)) in
    let filled = bytes-append zeros end (bytes-zeros (62 - length name)) last in
    bytes-append (version ∷ []) (name ++ (zeros ++ end)) (bytes-one version small)
    (bytes-append name (zeros ++ end) bytes filled)

label-bytes : (chunks : List (List ℕ)) → All AreBytes chunks → AreBytes (label_of chunks)
label-bytes [] all = λ i. lit< tt
label-bytes (chunk ∷ chunks) all =
    bytes-append (counted chunk) (label_of chunks) (bytes-counted chunk (all zero chunk (omega arith)))
    (label-bytes chunks (λ k bytes within. all (suc k) bytes (omega (arith, within))))

-- ---- seeds

module _ (digest_of : List ℕ → List ℕ) (digests : (text : List ℕ) → IsDigest (digest_of text)) where
  pub separator-parts : (held : HeldSeparator) → AreSeedParts (seed_parts digest_of held)
  separator-parts held =
      let id = held.is_identifier in (
        ap length id.encoded ∙ identifier-long id.version id.name id.short,
        (digests (hashed_text (steps_of held.pattern))).places,
        held.label_fits,
      )

  pub separator-bytes : (held : HeldSeparator) → AreBytes (seed_of digest_of held)
  separator-bytes held =
      let id = held.is_identifier in
      let label = held.is_label in
      let digest = digest_of (hashed_text (steps_of held.pattern)) in
      let end : List ℕ = 0x80 ∷ [] in
      let instance = counted held.label in
      let id_bytes = subst AreBytes (sym id.encoded)
      (identifier-bytes id.version id.name id.version_fits id.short id.bytes) in
      let label_are = subst AreBytes (sym label.encoded) (label-bytes label.chunks label.bytes) in
      bytes-append held.protocol_id (digest ++ (instance ++ end)) id_bytes
      (bytes-append digest (instance ++ end) (digests (hashed_text (steps_of held.pattern))).bytes
      (bytes-append instance end (bytes-counted held.label label_are) (bytes-one 0x80 (lit< tt))))
