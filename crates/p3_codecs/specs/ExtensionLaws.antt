-- Laws of elements that are encoded one coefficient after another.
use Rattle.std.proofs.Common.{◌≡◌, ℕ, zero, suc, ◌<◌, ◌≤◌, ◌+◌, ◌*◌, List, [], ◌∷◌, ◌++◌, length, nat_lt, if◌then◌else◌}
use Rattle.std.proofs.Common.{Result, Ok, Err, refl, sym, ap, ◌∙◌, append_assoc, subst, drop, arith}
use Rattle.std.{specs.List.flat_map, proofs.Math.Nat.zero-mul, proofs.lemmas.List.length-append}
use Rattle.p3_challenger_core.specs.{Sponge.IsNonEmpty, Reading.{IsPrefixCode, IsPrefixFree, AreBytes}}
use Rattle.p3_challenger_core.specs.SymbolLaws.{row-feeds, row-prefix_code}
use Rattle.p3_fs_core.specs.{Encoding.{Encoding, IsEncoding}, BigEndianLaws.{AreBytes-drop, drop-front}}
use Rattle.p3_fs_core.specs.ScalarLaws.{chosen, not_below, read-prefix_code}
use Rattle.p3_codecs.specs.Extension.{and_then, read_all, read, encoding, not_enough_bytes}

-- the result of reading after a value that is read
bound : {A B E : Type 0} (f : A → Result B E) (o : Result A E) (y : B) → and_then f o ≡ Ok y → (x : A) × (o ≡ Ok x)
    × (f x ≡ Ok y)
bound f (Ok x) y e = (x, refl, e)
bound f (Err reason) y e = cc

-- ---- the wire

module _ {F : Type 0} (base_wire : F → List ℕ) (width : ℕ) (fixed : (x : F) → length (base_wire x) ≡ width) where
  -- n coefficients take n times the width
  pub length-row : (xs : List F) → length (flat_map base_wire xs) ≡ length xs * width
  length-row [] = sym (zero-mul width)
  length-row (x ∷ xs) =
      let more : length (base_wire x ++ flat_map base_wire xs) ≡ length (base_wire x) + length (flat_map base_wire xs) =
      length-append (base_wire x) (flat_map base_wire xs) in
      let product : suc (length xs) * width ≡ width + length xs * width = omega arith in
      more ∙ ap (λ n. n + length (flat_map base_wire xs)) (fixed x) ∙ ap (λ n. width + n) (length-row xs) ∙ sym product

  pub length-wire : {A : Type 0} (n : ℕ) (coefficients : A → List F) → ((x : A) → length (coefficients x) ≡ n) →
      (x : A) → length (flat_map base_wire (coefficients x)) ≡ n * width
  length-wire n coefficients as_many x = length-row (coefficients x) ∙ ap (λ k. k * width) (as_many x)

-- ---- reading

module _ {F : Type 0} (base_wire : F → List ℕ) (base_read : List ℕ → Result (F × List ℕ) (List ℕ)) (width : ℕ)
    (fixed : (x : F) → length (base_wire x) ≡ width) where
  module _ (reads_back : (x : F) (rest : List ℕ) → base_read (base_wire x ++ rest) ≡ Ok (x, rest)) where
    -- encoded coefficients are read back
    pub read_all-row : (xs : List F) (rest : List ℕ) →
        read_all base_read (length xs) (flat_map base_wire xs ++ rest) ≡ Ok (xs, rest)
    unfolding read_all
    read_all-row [] rest = refl
    read_all-row (x ∷ xs) rest =
        ap (λ bytes. and_then (λ y. and_then (λ ys. Ok (y.0 ∷ ys.0, ys.1)) (read_all base_read (length xs) y.1))
        (base_read bytes)) (append_assoc (base_wire x) (flat_map base_wire xs) rest)
        ∙ ap (and_then (λ y. and_then (λ ys. Ok (y.0 ∷ ys.0, ys.1)) (read_all base_read (length xs) y.1)))
        (reads_back x (flat_map base_wire xs ++ rest))
        ∙ ap (and_then (λ ys. Ok (x ∷ ys.0, ys.1))) (read_all-row xs rest)

    module _ {A : Type 0} (n : ℕ) (coefficients : A → List F) (element : List F → A)
        (as_many : (x : A) → length (coefficients x) ≡ n) (same : (x y : A) → coefficients x ≡ coefficients y → x ≡ y)
        (of_element : (xs : List F) → length xs ≡ n → coefficients (element xs) ≡ xs) where
      -- an encoded element is read back
      pub read-wire : (x : A) (rest : List ℕ) →
          read base_read width n element (flat_map base_wire (coefficients x) ++ rest) ≡ Ok (x, rest)
      read-wire x rest =
          let encoded = flat_map base_wire (coefficients x) in
          let long : n * width ≤ length (encoded ++ rest) = omega (
            arith,
            length-append encoded rest,
            length-wire base_wire width fixed n coefficients as_many x,
          ) in
          let itself : element (coefficients x) ≡ x = same (element (coefficients x)) x
          (of_element (coefficients x) (as_many x)) in
          ap (λ b. if b then Err not_enough_bytes else and_then (λ xs. Ok (element xs.0, xs.1))
          (read_all base_read n (encoded ++ rest))) (not_below (length (encoded ++ rest)) (n * width) long)
          ∙ ap (λ k. and_then (λ xs. Ok (element xs.0, xs.1)) (read_all base_read k (encoded ++ rest)))
          (sym (as_many x))
          ∙ ap (and_then (λ xs. Ok (element xs.0, xs.1))) (read_all-row (coefficients x) rest)
          ∙ ap (λ y. Ok (y, rest)) itself

      pub wire-prefix_code : IsPrefixCode (λ x. flat_map base_wire (coefficients x))
      wire-prefix_code = read-prefix_code (λ x. flat_map base_wire (coefficients x)) (read base_read width n element)
          read-wire

  module _ (only_reads : (bytes : List ℕ) (x : F) (rest : List ℕ) → AreBytes bytes → base_read bytes ≡ Ok (x, rest) →
      bytes ≡ base_wire x ++ rest) where
    -- the bytes after a coefficient that is read
    pub after_coefficient : (x : F) (bytes rest : List ℕ) → AreBytes bytes → base_read bytes ≡ Ok (x, rest) →
        rest ≡ drop width bytes
    after_coefficient x bytes rest are_bytes e =
        sym (ap (drop width) (only_reads bytes x rest are_bytes e) ∙ drop-front width (base_wire x) rest (fixed x))

    -- coefficients that are read have these bytes as their encoding
    pub read_all-only : (n : ℕ) (bytes : List ℕ) (xs : List F) (rest : List ℕ) → AreBytes bytes →
        read_all base_read n bytes ≡ Ok (xs, rest) → (length xs ≡ n) × (bytes ≡ flat_map base_wire xs ++ rest)
    unfolding read_all
    read_all-only zero bytes [] rest are_bytes e =
        let made : ◌≡◌ {A = List F × List ℕ} ([], bytes) ([], rest) = cc in
        (refl, ap (λ p. p.1) made)
    read_all-only zero bytes (x ∷ xs) rest are_bytes e =
        let made : ◌≡◌ {A = List F × List ℕ} ([], bytes) (x ∷ xs, rest) = cc in
        let none : 0 ≡ suc (length xs) = ap (λ p. length p.0) made in
        absurd (omega (arith, none))
    read_all-only (suc n) bytes xs rest are_bytes e =
        let first = bound (λ y. and_then (λ ys. Ok (y.0 ∷ ys.0, ys.1)) (read_all base_read n y.1)) (base_read bytes)
        (xs, rest) e in
        let x = first.0.0 in
        let following = first.0.1 in
        let others = bound (λ ys. Ok (x ∷ ys.0, ys.1)) (read_all base_read n following) (xs, rest) first.2 in
        let encoded = only_reads bytes x following are_bytes first.1 in
        let after_are : AreBytes following = subst (λ (l : List ℕ). AreBytes l)
        (sym (after_coefficient x bytes following are_bytes first.1)) (AreBytes-drop width bytes are_bytes) in
        let row = read_all-only n following others.0.0 others.0.1 after_are others.1 in
        let made : ◌≡◌ {A = List F × List ℕ} (x ∷ others.0.0, others.0.1) (xs, rest) = cc in
        let values : x ∷ others.0.0 ≡ xs = ap (λ p. p.0) made in
        let end : others.0.1 ≡ rest = ap (λ p. p.1) made in (
          sym (ap length values) ∙ ap suc row.0,
          encoded
              ∙ ap (λ bs. base_wire x ++ bs) row.1
              ∙ sym (append_assoc (base_wire x) (flat_map base_wire others.0.0) others.0.1)
              ∙ ap (λ ys. flat_map base_wire ys ++ others.0.1) values
              ∙ ap (λ bs. flat_map base_wire xs ++ bs) end,
        )

    -- an element that is read has these bytes as its encoding
    pub read-only : {A : Type 0} (n : ℕ) (coefficients : A → List F) (element : List F → A) →
        ((xs : List F) → length xs ≡ n → coefficients (element xs) ≡ xs) → (bytes : List ℕ) (x : A) (rest : List ℕ) →
        AreBytes bytes → read base_read width n element bytes ≡ Ok (x, rest) →
        bytes ≡ flat_map base_wire (coefficients x) ++ rest
    read-only {A} n coefficients element of_element bytes x rest are_bytes e =
        let long = chosen (nat_lt (length bytes) (n * width)) not_enough_bytes
        (and_then (λ xs. Ok (element xs.0, xs.1)) (read_all base_read n bytes)) (x, rest) e in
        let found = bound (λ xs. Ok (element xs.0, xs.1)) (read_all base_read n bytes) (x, rest) long.1 in
        let row = read_all-only n bytes found.0.0 found.0.1 are_bytes found.1 in
        let made : ◌≡◌ {A = A × List ℕ} (element found.0.0, found.0.1) (x, rest) = cc in
        let value : element found.0.0 ≡ x = ap (λ p. p.0) made in
        let end : found.0.1 ≡ rest = ap (λ p. p.1) made in
        let values : found.0.0 ≡ coefficients x = sym (of_element found.0.0 row.0) ∙ ap coefficients value in
        row.1
        ∙ ap (λ ys. flat_map base_wire ys ++ found.0.1) values
        ∙ ap (λ bs. flat_map base_wire (coefficients x) ++ bs) end

-- elements are encoded as their coefficients
pub is_encoding : {F A : Type 0} (base : Encoding F) → IsEncoding base →
    (n : ℕ) (coefficients : A → List F) (element : List F → A) → ((x : A) → length (coefficients x) ≡ n) →
    ((x y : A) → coefficients x ≡ coefficients y → x ≡ y) →
    ((xs : List F) → length xs ≡ n → coefficients (element xs) ≡ xs) → IsEncoding (encoding base n coefficients element)
is_encoding base laws n coefficients element as_many same of_element =
    record {
      fixed_width = length-wire base.wire base.width laws.fixed_width n coefficients as_many;
      prefix_code = wire-prefix_code base.wire base.read base.width laws.fixed_width laws.reads_back n coefficients
          element
          as_many same of_element;
      reads_back = read-wire base.wire base.read base.width laws.fixed_width laws.reads_back n coefficients element
          as_many same of_element;
      only_reads = read-only base.wire base.read base.width laws.fixed_width laws.only_reads n coefficients element
          of_element;
    }

-- ---- the symbols

symbols-prefix_code : {F A Symbol : Type 0} (symbols : F → List Symbol) → IsPrefixCode symbols →
    (n : ℕ) (coefficients : A → List F) → ((x : A) → length (coefficients x) ≡ n) →
    ((x y : A) → coefficients x ≡ coefficients y → x ≡ y) → IsPrefixCode (λ x. flat_map symbols (coefficients x))
symbols-prefix_code symbols prefix_code n coefficients as_many same x y a b e =
    let row = row-prefix_code symbols prefix_code (coefficients x) (coefficients y) a b (as_many x ∙ sym (as_many y)) e
    in
    (same x y row.0, row.1)

some_of : {T : Type 0} (xs : List T) → 0 < length xs → IsNonEmpty xs
some_of [] h = absurd (omega (arith, h))
some_of (x ∷ xs) h = tt

-- the symbols of an element determine it, where coefficients are fed as a prefix code
pub coefficients-tell_apart : {F A Symbol : Type 0} (symbols : F → List Symbol) → IsPrefixFree symbols → (n : ℕ) → 0 < n →
    (coefficients : A → List F) → ((x : A) → length (coefficients x) ≡ n) →
    ((x y : A) → coefficients x ≡ coefficients y → x ≡ y) → IsPrefixFree (λ x. flat_map symbols (coefficients x))
coefficients-tell_apart symbols base n positive coefficients as_many same =
    record {
      prefix_code = symbols-prefix_code symbols base.prefix_code n coefficients as_many same;
      some = λ x.
          let long : 0 < length (coefficients x) = omega (arith, as_many x) in
          row-feeds symbols base.some (coefficients x) (some_of (coefficients x) long);
    }
