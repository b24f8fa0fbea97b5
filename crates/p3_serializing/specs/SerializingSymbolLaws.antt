-- A serializing challenger feeds a prefix code, if its inner challenger does for bytes.
use Rattle.std.{proofs.Common.{◌≡◌, ℕ, zero, suc, ◌<◌, ◌≤◌, ◌/◌, ◌^◌, List, [], ◌∷◌, ◌++◌, length}, specs.List.flat_map}
use Rattle.std.proofs.{Common.{refl, sym, ap, ◌∙◌, append_assoc, lit<, arith}, lemmas.Nat.mod_below}
use Rattle.p3_field_core.specs.Residues.{Residues, IsResidues}
use Rattle.p3_challenger_core.specs.SymbolLaws.{byte-feeds, bytes-feed, bytes-prefix_code, row-prefix_code}
use Rattle.p3_challenger_core.specs.{Sponge.IsNonEmpty, Reading.{IsPrefixCodeOn, IsByte, AreBytes, IsPrefixFree}}
use Rattle.p3_serializing.specs.{Bytes.{bytes_of, IsWord, AreWords}, BytesLaws.{length-bytes_of, bytes_of-injective}}

bytes_of-are_bytes : (n x : ℕ) → AreBytes (bytes_of n x)
unfolding bytes_of
bytes_of-are_bytes zero x i = lit< tt
bytes_of-are_bytes (suc n) x zero = mod_below x 256 (lit< tt)
bytes_of-are_bytes (suc n) x (suc i) = bytes_of-are_bytes n (x / 256) i

bytes_of-some : (n x : ℕ) → 0 < n → IsNonEmpty (bytes_of n x)
unfolding bytes_of
bytes_of-some zero x h = absurd (omega arith)
bytes_of-some (suc n) x h = tt

module _ {Symbol : Type 0} (symbols : ℕ → List Symbol) (prefix_code : IsPrefixCodeOn IsByte symbols) where
  -- numbers of n bytes are determined by their symbols
  number-read : (n x y : ℕ) (a b : List Symbol) → x < 256 ^ n → y < 256 ^ n
      → flat_map symbols (bytes_of n x) ++ a ≡ flat_map symbols (bytes_of n y) ++ b → (x ≡ y) × (a ≡ b)
  number-read n x y a b x_fits y_fits e =
      let same : length (bytes_of n x) ≡ length (bytes_of n y) = length-bytes_of n x ∙ sym (length-bytes_of n y) in
      let read = bytes-prefix_code symbols prefix_code (bytes_of n x) (bytes_of n y) a b (bytes_of-are_bytes n x)
      (bytes_of-are_bytes n y) same e in
      (bytes_of-injective n x y x_fits y_fits read.0, read.1)

  module _ {F : Type 0} (r : Residues F) (laws : IsResidues r) (n : ℕ) (fits : r.order ≤ 256 ^ n) where
    element_symbols : F → List Symbol
    element_symbols x = flat_map symbols (bytes_of n (r.number x))

    number-fits : (x : F) → r.number x < 256 ^ n
    number-fits x = omega (arith, fits, laws.below x)

    element-read : (x y : F) (a b : List Symbol)
        → flat_map symbols (bytes_of n (r.number x)) ++ a ≡ flat_map symbols (bytes_of n (r.number y)) ++ b
        → (x ≡ y) × (a ≡ b)
    element-read x y a b e =
        let read = number-read n (r.number x) (r.number y) a b (number-fits x) (number-fits y) e in
        (sym (laws.of_number x) ∙ ap r.of read.0 ∙ laws.of_number y, read.1)

    some_byte : (n : ℕ) → r.order ≤ 256 ^ n → 0 < n
    some_byte zero short = absurd (omega (arith, short, laws.above_one))
    some_byte (suc n) short = omega arith

    -- elements of a field
    pub elements-tell_apart : IsPrefixFree (λ (x : F). flat_map symbols (bytes_of n (r.number x)))
    elements-tell_apart =
        record {
          prefix_code = element-read;
          some = λ x. bytes-feed symbols (byte-feeds symbols prefix_code) (bytes_of n (r.number x))
              (bytes_of-are_bytes n (r.number x)) (bytes_of-some n (r.number x) (some_byte n fits));
        }

    -- lists of N elements are a prefix code
    pub element_rows-prefix_code : (N : ℕ) → IsPrefixCodeOn (λ (xs : List F). length xs ≡ N)
        (flat_map (λ x. flat_map symbols (bytes_of n (r.number x))))
    element_rows-prefix_code N xs ys a b x_is y_is e =
        row-prefix_code (λ x. flat_map symbols (bytes_of n (r.number x))) element-read xs ys a b (x_is ∙ sym y_is) e

  word-fits : (w : ℕ) → IsWord w → w < 256 ^ 8
  word-fits w h = omega (arith, h)

  -- equally many words of 64 bits are determined by their symbols
  pub words-read : (xs ys : List ℕ) (a b : List Symbol) → AreWords xs → AreWords ys → length xs ≡ length ys
      → flat_map (λ w. flat_map symbols (bytes_of 8 w)) xs ++ a
      ≡ flat_map (λ w. flat_map symbols (bytes_of 8 w)) ys ++ b
      → (xs ≡ ys) × (a ≡ b)
  words-read [] [] a b x_are y_are same e = (refl, e)
  words-read (x ∷ xs) (y ∷ ys) a b x_are y_are same e =
      let word = λ (w : ℕ). flat_map symbols (bytes_of 8 w) in
      let first = number-read 8 x y (flat_map word xs ++ a) (flat_map word ys ++ b) (word-fits x (x_are zero))
      (word-fits y (y_are zero))
      (sym (append_assoc (word x) (flat_map word xs) a) ∙ e ∙ append_assoc (word y) (flat_map word ys) b) in
      let fewer : length xs ≡ length ys = omega (arith, same) in
      let others = words-read xs ys a b (λ i. x_are (suc i)) (λ i. y_are (suc i)) fewer first.1 in
      (λ i. first.0 i ∷ others.0 i, others.1)
  words-read _ _ a b x_are y_are same e = absurd (omega (arith, same))
