-- Laws of seeds and their parts.
use Rattle.std.proofs.Common.{◌≡◌, ℕ, zero, suc, ◌≤◌, ◌-◌, List, [], ◌∷◌, ◌++◌, length, drop, replicate, refl}
use Rattle.std.{proofs.Common.{sym, ap, ◌∙◌, append_assoc, arith}, specs.List.All, proofs.lemmas.Grind.flat_map-append}
use Rattle.std.proofs.lemmas.List.{append-nil, length-append, length-replicate}
use Rattle.p3_challenger_core.specs.Reading.{IsPrefixCodeOn}
use Rattle.p3_fs_core.specs.BigEndian.{big_endian, in_bytes}
use Rattle.p3_fs_core.specs.BigEndianLaws.{length-in_bytes, drop-front, front-prefix_code, big_endian-in_bytes}
use Rattle.p3_domain_separator.specs.{Seed.{identifier, counted, label_of, FitsCount, AreSeedParts}, Seed.seed_of_parts}

-- ---- counted byte strings

-- length-prefixed byte strings are a prefix code
pub counted_prefix_code : IsPrefixCodeOn FitsCount counted
counted_prefix_code x y a b x_fits y_fits e =
    let count = λ (bytes : List ℕ). in_bytes 4 (length bytes) in
    let counts = front-prefix_code (count x) (count y) (x ++ a) (y ++ b) (length-in_bytes 4 (length x)
    ∙ sym (length-in_bytes 4 (length y))) (sym (append_assoc (count x) x a) ∙ e ∙ append_assoc (count y) y b) in
    front-prefix_code x y a b (sym (big_endian-in_bytes 4 (length x) x_fits) ∙ ap big_endian counts.0
    ∙ big_endian-in_bytes 4 (length y) y_fits) counts.1

-- ---- labels

-- a label determines its list of chunks
pub label_injective : (x y : List (List ℕ)) → All FitsCount x → All FitsCount y → label_of x ≡ label_of y → x ≡ y
label_injective [] [] x_fit y_fit e = refl
label_injective [] (y ∷ ys) x_fit y_fit e = cc
label_injective (x ∷ xs) [] x_fit y_fit e = cc
label_injective (x ∷ xs) (y ∷ ys) x_fit y_fit e =
    let first = counted_prefix_code x y (label_of xs) (label_of ys) (x_fit zero x (omega arith))
    (y_fit zero y (omega arith)) e in
    let others = label_injective xs ys (λ k d less. x_fit (suc k) d (omega (arith, less)))
    (λ k d less. y_fit (suc k) d (omega (arith, less))) first.1 in
    cc (first.0, others)

-- an added chunk stands at the end of the label
label_more : (chunks : List (List ℕ)) (chunk : List ℕ) →
    label_of (chunks ++ (chunk ∷ [])) ≡ label_of chunks ++ counted chunk
label_more chunks chunk =
    flat_map-append counted chunks (chunk ∷ []) ∙ ap (λ end. label_of chunks ++ end) (append-nil (counted chunk))

pub chunk_added : (chunk label grown : List ℕ) → grown ≡ label ++ counted chunk → (chunks : List (List ℕ)) →
    label ≡ label_of chunks → grown ≡ label_of (chunks ++ (chunk ∷ []))
chunk_added chunk label grown is chunks encoded =
    is ∙ ap (λ front. front ++ counted chunk) encoded ∙ sym (label_more chunks chunk)

-- ---- seeds

regroup : (i d c t a : List ℕ) → (i ++ (d ++ (c ++ t))) ++ a ≡ i ++ (d ++ (c ++ (t ++ a)))
regroup i d c t a = simp append_assoc

-- seeds are a prefix code
pub seed_prefix_code : IsPrefixCodeOn AreSeedParts seed_of_parts
seed_prefix_code x y a b x_are y_are e =
    let ids = front-prefix_code x.protocol_id y.protocol_id _ _ (x_are.0 ∙ sym y_are.0)
    (sym (regroup x.protocol_id x.digest (counted x.label) (0x80 ∷ []) a) ∙ e
    ∙ regroup y.protocol_id y.digest (counted y.label) (0x80 ∷ []) b) in
    let digests = front-prefix_code x.digest y.digest _ _ (x_are.1 ∙ sym y_are.1) ids.1 in
    let labels = counted_prefix_code x.label y.label (0x80 ∷ a) (0x80 ∷ b) x_are.2 y_are.2 digests.1 in
    ((λ i. record { protocol_id = ids.0 i; digest = digests.0 i; label = labels.0 i }), ap (drop 1) labels.1)

-- ---- identifiers

-- the last byte of an identifier is the length of the name
last_of : (name : List ℕ) → length name ≤ 62 → drop 62 (name ++ (replicate (62 - length name) 0 ++ (length name ∷ [])))
    ≡ length name ∷ []
last_of name short =
    let zeros : List ℕ = replicate (62 - length name) 0 in
    let as_long : length (name ++ zeros) ≡ 62 =
    omega (arith, short, length-append name zeros, length-replicate {A = ℕ} (62 - length name) 0) in
    ap (drop 62) (sym (append_assoc name zeros (length name ∷ [])))
    ∙ drop-front 62 (name ++ zeros) (length name ∷ []) as_long

-- an identifier determines its version and its name
pub identifier_injective : (v w : ℕ) (a b : List ℕ) → length a ≤ 62 → length b ≤ 62 → identifier v a ≡ identifier w b →
    (v ≡ w) × (a ≡ b)
identifier_injective v w a b a_short b_short e =
    let rest = ap (drop 1) e in
    let lasts : length a ∷ [] ≡ length b ∷ [] = sym (last_of a a_short) ∙ ap (drop 62) rest ∙ last_of b b_short in
    let as_long : length a ≡ length b = cc in
    let version : v ≡ w = cc in
    (version, (front-prefix_code a b _ _ as_long rest).0)
