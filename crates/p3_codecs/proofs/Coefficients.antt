-- Coefficients that are read, and encoded, one after another.
use Rattle.std.proofs.Common.{◌≡◌, ℕ, suc, ◌<◌, ◌≤◌, ◌+◌, ◌-◌, ◌*◌, List, [], ◌∷◌, ◌++◌, length, take, drop, min}
use Rattle.std.proofs.Common.{get_or, Result, Ok, Err, refl, sym, ap, ◌∙◌, append_assoc, append-nil, add-one, subst}
use Rattle.std.{proofs.Common.arith, specs.List.flat_map, proofs.Math.Seq.{take-append-add, drop-cons}}
use Rattle.std.proofs.lemmas.{Grind.flat_map-append, List.{take_all, length-drop}}
use Rattle.std.proofs.lemmas.List.{take-append-le, take_min, take_more, drop-drop, flat_map_more, take-append-drop}
use Rattle.p3_fs_core.specs.{Errors.Decodes, declared.error.TranscriptError.TranscriptError}
use Rattle.p3_fs_core.specs.DecodingLaws.{decoded-ok, decoded-err}
use Rattle.p3_codecs.specs.Extension.{and_then, read_all, read_coefficients}

-- coefficients in front of those that are read after them
abbrev pub after_read : {F : Type 0} → List F → Result (List F × List ℕ) (List ℕ) → Result (List F × List ℕ) (List ℕ)
after_read xs o = and_then (λ ys. Ok (xs ++ ys.0, ys.1)) o

after_nothing : {F : Type 0} (o : Result (List F × List ℕ) (List ℕ)) → after_read [] o ≡ o
after_nothing (Ok found) = refl
after_nothing (Err reason) = refl

after_one_more : {F : Type 0} (xs : List F) (x : F) (o : Result (List F × List ℕ) (List ℕ)) →
    after_read xs (and_then (λ ys. Ok (x ∷ ys.0, ys.1)) o) ≡ after_read (xs ++ x ∷ []) o
after_one_more xs x (Ok found) = ap (λ zs. Ok (zs, found.1)) (sym (append_assoc xs (x ∷ []) found.0))
after_one_more xs x (Err reason) = refl

module _ {F : Type 0} (base : List ℕ → Result (F × List ℕ) (List ℕ)) (width n : ℕ) (bytes : List ℕ) where
  -- xs are the coefficients up to i: what is read after them is what is read of all
  abbrev pub HasRead : List F → ℕ → Type 0
  HasRead xs i = after_read xs (read_all base (n - i) (drop (i * width) bytes)) ≡ read_all base n bytes

  pub has_read-none : HasRead [] 0
  has_read-none =
      let all : n - 0 ≡ n = omega arith in
      let front : 0 * width ≡ 0 = omega arith in
      after_nothing (read_all base (n - 0) (drop (0 * width) bytes))
      ∙ ap (λ k. read_all base k (drop (0 * width) bytes)) all
      ∙ ap (λ k. read_all base n (drop k bytes)) front

  -- a coefficient more is read
  pub has_read-next : (xs : List F) (i : ℕ) (x : F) → i < n →
      ((rest : List ℕ) → base (drop (i * width) bytes) ≡ Ok (x, rest) → rest ≡ drop width (drop (i * width) bytes)) →
      Decodes (base (drop (i * width) bytes)) (Ok x) → HasRead xs i → HasRead (xs ++ x ∷ []) (i + 1)
  unfolding read_all
  has_read-next xs i x more following decodes so_far =
      let here = drop (i * width) bytes in
      let found = decoded-ok (base here) x decodes in
      let left : n - i ≡ suc (n - (i + 1)) = omega arith in
      let place : i * width + width ≡ (i + 1) * width = omega arith in
      let rest : found.0 ≡ drop ((i + 1) * width) bytes =
      following found.0 found.1 ∙ drop-drop width (i * width) bytes ∙ ap (λ k. drop k bytes) place in
      sym (after_one_more xs x (read_all base (n - (i + 1)) (drop ((i + 1) * width) bytes)))
      ∙ ap (λ l. after_read xs (and_then (λ ys. Ok (x ∷ ys.0, ys.1)) (read_all base (n - (i + 1)) l))) (sym rest)
      ∙ ap (λ o. after_read xs (and_then (λ y. and_then (λ ys. Ok (y.0 ∷ ys.0, ys.1))
      (read_all base (n - (i + 1)) y.1)) o)) (sym found.1)
      ∙ ap (λ k. after_read xs (read_all base k here)) (sym left)
      ∙ so_far

  -- a coefficient that is none is why there is no element
  pub has_read-stops : {A : Type 0} (element : List F → A) (xs : List F) (i : ℕ) (e : TranscriptError) → i < n →
      Decodes (base (drop (i * width) bytes)) (Err e) → HasRead xs i →
      Decodes (read_coefficients base n element bytes) (Err e)
  unfolding read_all
  has_read-stops {A} element xs i e more decodes so_far =
      let here = drop (i * width) bytes in
      let found = decoded-err (base here) e decodes in
      let left : n - i ≡ suc (n - (i + 1)) = omega arith in
      let all : read_all base n bytes ≡ Err found.0 =
      sym so_far
      ∙ ap (λ k. after_read xs (read_all base k here)) left
      ∙ ap (λ o. after_read xs (and_then (λ y. and_then (λ ys. Ok (y.0 ∷ ys.0, ys.1))
      (read_all base (n - (i + 1)) y.1)) o)) found.1 in
      subst (λ (o : Result (List F × List ℕ) (List ℕ)). Decodes (and_then (λ ys. Ok (element ys.0, ys.1)) o) (Err e))
      (sym all) found.2

  -- all of them are read
  pub has_read-all : {A : Type 0} (element : List F → A) (xs : List F) (i : ℕ) (x : A) → n ≤ i → x ≡ element xs →
      HasRead xs i → Decodes (read_coefficients base n element bytes) (Ok x)
  unfolding read_all
  has_read-all {A} element xs i x done is so_far =
      let here = drop (i * width) bytes in
      let none : n - i ≡ 0 = omega arith in
      let all : read_all base n bytes ≡ Ok (xs, here) =
      sym so_far
      ∙ ap (λ k. after_read xs (read_all base k here)) none
      ∙ ap (λ zs. Ok (zs, here)) (append-nil xs) in
      subst (λ (o : Result (List F × List ℕ) (List ℕ)). Decodes (and_then (λ ys. Ok (element ys.0, ys.1)) o) (Ok x))
      (sym all) is

-- what is encoded of a row, where a part of the next encoding was added after the first ones
pub row-beginning : {F : Type 0} (wire : F → List ℕ) (xs : List F) (x : F) (ys : List F) (m : ℕ) (old : List ℕ) →
    (n : ℕ) × ((old ++ flat_map wire xs) ++ take m (wire x) ≡ old ++ take n
    (flat_map wire xs ++ (wire x ++ flat_map wire ys)))
row-beginning wire xs x ys m old =
    let k = min m (length (wire x)) in
    let encoded = flat_map wire xs in
    let short : k ≤ length (wire x) = omega arith in
    let part : take m (wire x) ≡ take k (wire x) = sym (take_min m (wire x)) in (
      length encoded + k,
      append_assoc old encoded (take m (wire x))
          ∙ ap (λ l. old ++ (encoded ++ l)) (part ∙ sym (take-append-le k (wire x) (flat_map wire ys) short))
          ∙ ap (λ l. old ++ l) (sym (take-append-add encoded (wire x ++ flat_map wire ys) k)),
    )

module _ {F : Type 0} (wire : F → List ℕ) (xs : List F) (old : List ℕ) (i : ℕ) (x : F) (more : i < length xs) where
  -- a coefficient more is encoded
  pub encoded-next : (here next : List ℕ) → here ≡ old ++ flat_map wire (take i xs) →
      next ≡ here ++ wire (get_or xs i x) → next ≡ old ++ flat_map wire (take (i + 1) xs)
  encoded-next here next so_far is =
      is
      ∙ ap (λ l. l ++ wire (get_or xs i x)) so_far
      ∙ flat_map_more wire old (take i xs) (get_or xs i x)
      ∙ ap (λ ys. old ++ flat_map wire ys) (sym (take_more xs i x more))

  -- the row, at a coefficient
  row-split : flat_map wire xs ≡ flat_map wire (take i xs) ++ (wire (get_or xs i x) ++ flat_map wire (drop (i + 1) xs))
  row-split =
      let whole : take i xs ++ (get_or xs i x ∷ drop (i + 1) xs) ≡ xs =
      ap (λ l. take i xs ++ l) (sym (drop-cons xs i x more ∙ (λ j. get_or xs i x ∷ drop (sym (add-one i) j) xs)))
      ∙ take-append-drop i xs in
      sym (ap (flat_map wire) whole) ∙ flat_map-append wire (take i xs) (get_or xs i x ∷ drop (i + 1) xs)

  -- a beginning of a coefficient's encoding is one of the row's
  pub encoded-beginning : (here next : List ℕ) (m : ℕ) → here ≡ old ++ flat_map wire (take i xs) →
      next ≡ here ++ take m (wire (get_or xs i x)) → (n : ℕ) × (next ≡ old ++ take n (flat_map wire xs))
  encoded-beginning here next m so_far is =
      let part = row-beginning wire (take i xs) (get_or xs i x) (drop (i + 1) xs) m old in (
        part.0,
        is
            ∙ ap (λ l. l ++ take m (wire (get_or xs i x))) so_far
            ∙ part.1
            ∙ ap (λ l. old ++ take part.0 l) (sym row-split),
      )

module _ {F A : Type 0} (n : ℕ) (coefficients : A → List F) (element : List F → A)
    (as_many : (x : A) → length (coefficients x) ≡ n) (same : (x y : A) → coefficients x ≡ coefficients y → x ≡ y)
    (of_element : (xs : List F) → length xs ≡ n → coefficients (element xs) ≡ xs) where
  -- an element is that of all its coefficients
  pub whole-element : (x : A) (i : ℕ) → n ≤ i → element (take i (coefficients x)) ≡ x
  whole-element x i done =
      let all : take i (coefficients x) ≡ coefficients x = take_all i (coefficients x)
      (omega (arith, done, as_many x)) in
      ap element all ∙ same (element (coefficients x)) x (of_element (coefficients x) (as_many x))

-- bytes from a place on, as they are lent
pub decoded-here : {F : Type 0} (base : List ℕ → Result (F × List ℕ) (List ℕ)) (width k i : ℕ) (bytes : List ℕ)
    (r : Result F TranscriptError) → k ≡ width → Decodes (base (take (length bytes - i * k) (drop (i * k) bytes))) r →
    Decodes (base (drop (i * width) bytes)) r
decoded-here base width k i bytes r is decodes =
    let short : length (drop (i * k) bytes) ≤ length bytes - i * k = omega (arith, length-drop (i * k) bytes) in
    let lent : take (length bytes - i * k) (drop (i * k) bytes) ≡ drop (i * width) bytes =
    take_all (length bytes - i * k) (drop (i * k) bytes) short ∙ ap (λ w. drop (i * w) bytes) is in
    subst (λ (l : List ℕ). Decodes (base l) r) lent decodes
