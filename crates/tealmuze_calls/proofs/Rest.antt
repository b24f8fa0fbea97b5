-- What stands after the first things of a row: the next one, or nothing.
use Rattle.std.proofs.Common.{ℕ, ◌≡◌, ◌<◌, List, [], ◌∷◌, ◌++◌, length, length-append, ap, sym, ◌∙◌, append_assoc, arith}
use Rattle.std.specs.List.{All, flat_map}
use Rattle.tealmuze_calls.specs.{Forms.{number_bytes, listed_bytes}, Readings.FitsWord}
use Rattle.tealmuze_calls.proofs.Codes.{number-code}
use Rattle.std.proofs.lemmas.{List.nil_from_length, List.Elements.{All-head, All-tail}}

-- each thing determines what follows it
abbrev pub Divides : {T : Type 0} → (T → Type 0) → (T → List ℕ) → Type 0
Divides {T} IsOne form = (x y : T) (a b : List ℕ) → IsOne x → IsOne y → form x ++ a ≡ form y ++ b → a ≡ b

module _ {T : Type 0} (IsOne : T → Type 0) (form : T → List ℕ) (divides : Divides IsOne form) where
  -- of a row that is longer the next one stands there
  pub row-next : (C : Type 0) (xs ys : List T) (a b : List ℕ) → All IsOne xs → All IsOne ys → length xs < length ys →
      flat_map form xs ++ a ≡ flat_map form ys ++ b → ((y : T) (left : List ℕ) → IsOne y → a ≡ form y ++ left → C) → C
  row-next C xs [] a b p q less e found = absurd (omega (arith, less))
  row-next C [] (y ∷ ys) a b p q less e found =
      found y (flat_map form ys ++ b) (All-head IsOne y ys q) (e ∙ append_assoc (form y) (flat_map form ys) b)
  row-next C (x ∷ xs) (y ∷ ys) a b p q less e found =
      row-next C xs ys a b (All-tail IsOne x xs p) (All-tail IsOne y ys q) (omega (arith, less))
      (divides x y (flat_map form xs ++ a) (flat_map form ys ++ b) (All-head IsOne x xs p) (All-head IsOne y ys q)
      (sym (append_assoc (form x) (flat_map form xs) a) ∙ e ∙ append_assoc (form y) (flat_map form ys) b)) found

  -- of a row without anything after it, nothing stands there, or the next one
  pub row-left : (C : Type 0) (xs ys : List T) (a : List ℕ) → All IsOne xs → All IsOne ys →
      flat_map form xs ++ a ≡ flat_map form ys → (a ≡ [] → C) →
      ((y : T) (left : List ℕ) → IsOne y → a ≡ form y ++ left → C) → C
  row-left C xs [] a p q e none found =
      none (nil_from_length a (omega (arith, length-append (flat_map form xs) a, ap length e)))
  row-left C [] (y ∷ ys) a p q e none found = found y (flat_map form ys) (All-head IsOne y ys q) e
  row-left C (x ∷ xs) (y ∷ ys) a p q e none found =
      row-left C xs ys a (All-tail IsOne x xs p) (All-tail IsOne y ys q)
      (divides x y (flat_map form xs ++ a) (flat_map form ys) (All-head IsOne x xs p) (All-head IsOne y ys q)
      (sym (append_assoc (form x) (flat_map form xs) a) ∙ e)) none found

-- the same of a list after its number
pub listed-next : {T : Type 0} (IsOne : T → Type 0) (form : T → List ℕ) → Divides IsOne form → (C : Type 0)
    (bytes middle a b : List ℕ) (count : ℕ) (xs ys : List T) → bytes ≡ number_bytes count ++ middle → FitsWord count →
    middle ≡ flat_map form xs ++ a → length xs < count → All IsOne xs → FitsWord (length ys) → All IsOne ys →
    bytes ≡ listed_bytes form ys ++ b → ((y : T) (left : List ℕ) → IsOne y → a ≡ form y ++ left → C) → C
listed-next IsOne form divides C bytes middle a b count xs ys first fits here less xs_are ys_fit ys_are e found =
    let both = number-code count (length ys) middle (flat_map form ys ++ b) fits ys_fit
    (sym first ∙ e ∙ append_assoc (number_bytes (length ys)) (flat_map form ys) b) in
    row-next IsOne form divides C xs ys a b xs_are ys_are (omega (arith, less, both.0)) (sym here ∙ both.1) found
