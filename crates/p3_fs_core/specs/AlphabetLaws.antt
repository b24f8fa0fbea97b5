-- Laws of the alphabet of bytes.
use Rattle.std.proofs.Common.{◌≡◌, ℕ, zero, suc, List, [], ◌∷◌, ◌++◌, inl, inr, refl, sym, ap, ◌∙◌, append_assoc}
use Rattle.std.{proofs.Common.append-nil, specs.List.flat_map, proofs.lemmas.List.append_cancel_left}
use Rattle.p3_challenger_core.specs.Reading.{IsPrefixCodeOn, IsByte, AreBytes, OneBegins}
use Rattle.p3_fs_core.specs.Alphabet.{AreItems}

following : {S : Type 0} (c d : S) (a b : List S) → c ≡ d → OneBegins a b → OneBegins (c ∷ a) (d ∷ b)
following c d a b same (inl h) = inl (h.0, ap (λ l. c ∷ l) h.1 ∙ ap (λ z. z ∷ b) same)
following c d a b same (inr h) = inr (h.0, ap (λ l. d ∷ l) h.1 ∙ ap (λ z. z ∷ a) (sym same))

-- each of two equal lists begins the other
pub begins_itself : {S : Type 0} (a b : List S) → a ≡ b → OneBegins a b
begins_itself a b same = inl ([], append-nil a ∙ same)

-- of two lists that begin the same list, one begins the other
pub one_begins : {S : Type 0} (a b x y : List S) → a ++ x ≡ b ++ y → OneBegins a b
one_begins [] b x y e = inl (b, refl)
one_begins (c ∷ a) [] x y e = inr (c ∷ a, refl)
one_begins {S} (c ∷ a) (d ∷ b) x y e =
    let same : ◌≡◌ {A = S × List S} (c, a ++ x) (d, b ++ y) = cc in
    following c d a b (ap (λ p. p.0) same) (one_begins a b x y (ap (λ p. p.1) same))

-- if two lists of items have equal symbols, with anything after them, one list begins the other
pub row-begins : {T S : Type 0} (IsItem : T → Type 0) (symbols : T → List S) → IsPrefixCodeOn IsItem symbols →
    (xs ys : List T) (a b : List S) → AreItems IsItem xs → AreItems IsItem ys →
    flat_map symbols xs ++ a ≡ flat_map symbols ys ++ b → OneBegins xs ys
row-begins IsItem symbols prefix_code [] ys a b x_are y_are e = inl (ys, refl)
row-begins IsItem symbols prefix_code (x ∷ xs) [] a b x_are y_are e = inr (x ∷ xs, refl)
row-begins IsItem symbols prefix_code (x ∷ xs) (y ∷ ys) a b x_are y_are e =
    let first = prefix_code x y (flat_map symbols xs ++ a) (flat_map symbols ys ++ b) x_are.0 y_are.0
    (sym (append_assoc (symbols x) (flat_map symbols xs) a) ∙ e ∙ append_assoc (symbols y) (flat_map symbols ys) b) in
    following x y xs ys first.0 (row-begins IsItem symbols prefix_code xs ys a b x_are.1 y_are.1 first.1)

-- the bytes of a byte string are items of the byte alphabet
pub bytes-are_items : (bytes : List ℕ) → AreBytes bytes → AreItems IsByte bytes
bytes-are_items [] are = tt
bytes-are_items (byte ∷ bytes) are = (are zero, bytes-are_items bytes (λ i. are (suc i)))

-- where everything is an item, every list is a list of items
pub all-are_items : {T : Type 0} (xs : List T) → AreItems (λ (x : T). Unit {0}) xs
all-are_items [] = tt
all-are_items (x ∷ xs) = (tt, all-are_items xs)

-- Symbols determine byte strings. If the symbols of two strings, with anything after them, are equal, one
-- string begins the other. After equal strings the rest is equal.
module _ {T S : Type 0} (IsItem : T → Type 0) (items : List ℕ → List T) (symbols : T →
    List S) (prefix_code : IsPrefixCodeOn IsItem symbols) (items_are : (bytes : List ℕ) → AreBytes bytes →
    AreItems IsItem (items bytes)) where
  begins_by : (a b : List ℕ) → ((x y : List T) → items a ++ x ≡ items b ++ y → OneBegins a b) →
      OneBegins (items a) (items b) → OneBegins a b
  begins_by a b begins (inl h) = begins h.0 [] (h.1 ∙ sym (append-nil (items b)))
  begins_by a b begins (inr h) = begins [] h.0 (append-nil (items a) ∙ sym h.1)

  pub symbols-begin : (a b : List ℕ) (x y : List S) → AreBytes a → AreBytes b →
      ((r s : List T) → items a ++ r ≡ items b ++ s → OneBegins a b) →
      flat_map symbols (items a) ++ x ≡ flat_map symbols (items b) ++ y → OneBegins a b
  symbols-begin a b x y a_are b_are begins e =
      begins_by a b begins (row-begins IsItem symbols prefix_code (items a) (items b) x y (items_are a a_are)
      (items_are b b_are) e)

pub after_equal : {T S : Type 0} (items : List ℕ → List T) (symbols : T → List S) (a b : List ℕ) (x y : List S) →
    flat_map symbols (items a) ++ x ≡ flat_map symbols (items b) ++ y → a ≡ b → x ≡ y
after_equal items symbols a b x y e same =
    append_cancel_left (flat_map symbols (items a)) x y (e ∙ ap (λ c. flat_map symbols (items c) ++ y) (sym same))
