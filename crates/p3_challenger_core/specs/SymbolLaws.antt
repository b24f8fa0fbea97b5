-- Laws of the symbols that values feed.
use Rattle.std.proofs.Common.{◌≡◌, ℕ, zero, suc, ◌<◌, ◌⊎◌, inl, inr, lit<, List, [], ◌∷◌, ◌++◌, length, refl, sym, ap}
use Rattle.std.{proofs.Common.{◌∙◌, append_assoc, arith}, specs.List.flat_map}
use Rattle.p3_field_core.specs.{Residues.{Residues, IsResidues}, ResidueLaws.of-injective}
use Rattle.p3_challenger_core.specs.{Sponge.IsNonEmpty, Reading.{IsPrefixCode, IsPrefixCodeOn, IsByte, AreBytes}}

-- ---- one value

empty_or_not : {S : Type 0} (xs : List S) → (xs ≡ []) ⊎ IsNonEmpty xs
empty_or_not [] = inl refl
empty_or_not (x ∷ xs) = inr tt

module _ {T S : Type 0} (IsValue : T → Type 0) (encoding : T → List S) (prefix_code : IsPrefixCodeOn IsValue encoding)
  where
    -- a value without symbols is the only value
    only_value : (x y : T) → IsValue x → IsValue y → encoding x ≡ [] → x ≡ y
    only_value x y x_is y_is empty =
        (prefix_code x y (encoding y ++ []) [] x_is y_is (ap (λ a. a ++ (encoding y ++ [])) empty)).0

    -- if two values differ, each value feeds a symbol
    pub prefix_code-non_empty : (x y z : T) → IsValue x → IsValue y → IsValue z → (y ≡ z → ⊥) → IsNonEmpty (encoding x)
    prefix_code-non_empty x y z x_is y_is z_is differ = elim (empty_or_not (encoding x)) [
      | inl empty ↦ absurd (differ (sym (only_value x y x_is y_is empty) ∙ only_value x z x_is z_is empty))
      | inr some ↦ some
    ]

-- an element of a field feeds a symbol
module _ {F Symbol : Type 0} (r : Residues F) (laws : IsResidues r) (symbols : F → List Symbol)
    (prefix_code : IsPrefixCode symbols) where
  zero_is_not_one : r.of 0 ≡ r.of 1 → ⊥
  zero_is_not_one same =
      let positive : 0 < r.order = omega (arith, laws.above_one) in
      let equal : 0 ≡ 1 = of-injective r laws 0 1 positive laws.above_one same in
      absurd (omega (arith, equal))

  pub element-feeds : (x : F) → IsNonEmpty (symbols x)
  element-feeds x =
      prefix_code-non_empty (λ _. Unit {0}) symbols (λ y z a b _ _ e. prefix_code y z a b e) x (r.of 0) (r.of 1) tt
      tt tt zero_is_not_one

-- a byte feeds a symbol
module _ {Symbol : Type 0} (symbols : ℕ → List Symbol) (prefix_code : IsPrefixCodeOn IsByte symbols) where
  pub byte-feeds : (byte : ℕ) → IsByte byte → IsNonEmpty (symbols byte)
  byte-feeds byte is = prefix_code-non_empty IsByte symbols prefix_code byte 0 1 is (lit< tt) (lit< tt) (λ e. cc)

-- values that are symbols are a prefix code
pub one_symbol_each : {T : Type 0} → IsPrefixCode {T = T} (λ x. x ∷ [])
one_symbol_each {T} x y a b e =
    let same : ◌≡◌ {A = T × List T} (x, a) (y, b) = cc in
    (ap (λ p. p.0) same, ap (λ p. p.1) same)

-- ---- values in a row

append-non_empty : {S : Type 0} (a b : List S) → IsNonEmpty a → IsNonEmpty (a ++ b)
append-non_empty [] b some = absurd some
append-non_empty (x ∷ a) b some = tt

-- values in a row feed a symbol if each does and there is one
pub row-feeds : {T S : Type 0} (symbols : T → List S) → ((x : T) → IsNonEmpty (symbols x)) → (xs : List T)
    → IsNonEmpty xs → IsNonEmpty (flat_map symbols xs)
row-feeds symbols each [] some = absurd some
row-feeds symbols each (x ∷ xs) some = append-non_empty (symbols x) (flat_map symbols xs) (each x)

pub bytes-feed : {S : Type 0} (symbols : ℕ → List S) → ((byte : ℕ) → IsByte byte → IsNonEmpty (symbols byte))
    → (bytes : List ℕ) → AreBytes bytes → IsNonEmpty bytes → IsNonEmpty (flat_map symbols bytes)
bytes-feed symbols each [] are some = absurd some
bytes-feed symbols each (byte ∷ bytes) are some =
    append-non_empty (symbols byte) (flat_map symbols bytes) (each byte (are zero))

-- equally many values in a row are a prefix code if the values are
rows-prefix_code : {T S : Type 0} (IsValue : T → Type 0) (AreValues : List T → Type 0) (encoding : T → List S)
    → IsPrefixCodeOn IsValue encoding
    → ((x : T) (xs : List T) → AreValues (x ∷ xs) → IsValue x × AreValues xs)
    → (xs ys : List T) (a b : List S) → AreValues xs → AreValues ys → length xs ≡ length ys
    → flat_map encoding xs ++ a ≡ flat_map encoding ys ++ b → (xs ≡ ys) × (a ≡ b)
rows-prefix_code IsValue AreValues encoding prefix_code each [] [] a b p q same e = (refl, e)
rows-prefix_code IsValue AreValues encoding prefix_code each [] (y ∷ ys) a b p q same e = absurd (omega arith)
rows-prefix_code IsValue AreValues encoding prefix_code each (x ∷ xs) [] a b p q same e = absurd (omega arith)
rows-prefix_code IsValue AreValues encoding prefix_code each (x ∷ xs) (y ∷ ys) a b p q same e =
    let x_is = each x xs p in
    let y_is = each y ys q in
    let first = prefix_code x y _ _ x_is.0 y_is.0
    (sym (append_assoc (encoding x) (flat_map encoding xs) a) ∙ e
    ∙ append_assoc (encoding y) (flat_map encoding ys) b) in
    let others = rows-prefix_code IsValue AreValues encoding prefix_code each xs ys a b x_is.1 y_is.1 (omega arith)
    first.1 in
    (ap (λ z. z ∷ xs) first.0 ∙ ap (λ zs. y ∷ zs) others.0, others.1)

module _ {T S : Type 0} (encoding : T → List S) where
  pub row-prefix_code : IsPrefixCode encoding → (xs ys : List T) (a b : List S) → length xs ≡ length ys
      → flat_map encoding xs ++ a ≡ flat_map encoding ys ++ b → (xs ≡ ys) × (a ≡ b)
  row-prefix_code prefix_code xs ys a b same e =
      rows-prefix_code (λ _. Unit {0}) (λ _. Unit {0}) encoding (λ x y c d _ _ f. prefix_code x y c d f)
      (λ _ _ _. (tt, tt)) xs ys a b tt tt same e

-- lists of one length are a prefix code
pub as_many-prefix_code : {S : Type 0} (xs ys a b : List S) → length xs ≡ length ys → xs ++ a ≡ ys ++ b
    → (xs ≡ ys) × (a ≡ b)
as_many-prefix_code [] [] a b same e = (refl, e)
as_many-prefix_code [] (y ∷ ys) a b same e = absurd (omega (arith, same))
as_many-prefix_code (x ∷ xs) [] a b same e = absurd (omega (arith, same))
as_many-prefix_code (x ∷ xs) (y ∷ ys) a b same e =
    let first = one_symbol_each x y (xs ++ a) (ys ++ b) e in
    let fewer : length xs ≡ length ys = omega (arith, same) in
    let others = as_many-prefix_code xs ys a b fewer first.1 in
    (ap (λ z. z ∷ xs) first.0 ∙ ap (λ zs. y ∷ zs) others.0, others.1)

-- arrays of N values are a prefix code
pub places-prefix_code : {S : Type 0} (N : ℕ) → IsPrefixCodeOn (λ (xs : List S). length xs ≡ N) (λ xs. xs)
places-prefix_code N xs ys a b x_is y_is e =
    let same : length xs ≡ length ys = omega (arith, x_is, y_is) in
    as_many-prefix_code xs ys a b same e

-- values with N places, which determine them, are a prefix code
pub valued-prefix_code : {X S : Type 0} (N : ℕ) (values : X → List S) → ((x : X) → length (values x) ≡ N)
    → ((x y : X) → values x ≡ values y → x ≡ y) → IsPrefixCode values
valued-prefix_code N values places tells x y a b e =
    let read = places-prefix_code N (values x) (values y) a b (places x) (places y) e in
    (tells x y read.0, read.1)

-- byte strings of one length are a prefix code if bytes are
pub bytes-prefix_code : {S : Type 0} (symbols : ℕ → List S) → IsPrefixCodeOn IsByte symbols
    → (xs ys : List ℕ) (a b : List S)
    → AreBytes xs → AreBytes ys → length xs ≡ length ys → flat_map symbols xs ++ a ≡ flat_map symbols ys ++ b
    → (xs ≡ ys) × (a ≡ b)
bytes-prefix_code symbols prefix_code xs ys a b x_are y_are same e =
    rows-prefix_code IsByte AreBytes symbols prefix_code (λ x xs are. (are zero, λ i. are (suc i))) xs ys a b x_are
    y_are same e
