-- The forms of numbers, texts, lists and steps are prefix codes: each determines what it is of, whatever follows.
use Rattle.std.proofs.Common.{ℕ, ◌≡◌, List, [], ◌∷◌, ◌++◌, length, refl, sym, ap, ◌∙◌, append_assoc, append-nil, arith}
use Rattle.std.specs.{List.{All, flat_map}, Int.{w64, from_le_bytes}}
use Rattle.std.proofs.lemmas.{Nat.from_le_bytes-to_le_bytes_8, List.Elements.{All-head, All-tail}}
use Rattle.tealmuze_calls.specs.Forms.{number_bytes, text_bytes, counted_bytes, listed_bytes}
use Rattle.tealmuze_calls.specs.Readings.{parts_bytes, Reading, reading_bytes, FitsWord, IsListHeld, IsHeld}

abbrev pub IsCodeOn : {T : Type 0} → (T → Type 0) → (T → List ℕ) → Type 0
IsCodeOn {T} IsValue encoding =
    (x y : T) (a b : List ℕ) → IsValue x → IsValue y → encoding x ++ a ≡ encoding y ++ b → (x ≡ y) × (a ≡ b)

-- ---- lists of one length, numbers, texts, and bytes after their number

pub same_length-code : (xs ys a b : List ℕ) → length xs ≡ length ys → xs ++ a ≡ ys ++ b → (xs ≡ ys) × (a ≡ b)
same_length-code [] [] a b same e = (refl, e)
same_length-code [] (y ∷ ys) a b same e = absurd (omega (arith, same))
same_length-code (x ∷ xs) [] a b same e = absurd (omega (arith, same))
same_length-code (x ∷ xs) (y ∷ ys) a b same e =
    let first : x ≡ y = cc in
    let rest : xs ++ a ≡ ys ++ b = cc in
    let others = same_length-code xs ys a b (omega (arith, same)) rest in
    (ap (λ z. z ∷ xs) first ∙ ap (λ zs. y ∷ zs) others.0, others.1)

pub number-code : IsCodeOn FitsWord number_bytes
number-code m n a b m_fits n_fits e =
    let both = same_length-code (number_bytes m) (number_bytes n) a b refl e in (
      sym (from_le_bytes-to_le_bytes_8 m m_fits) ∙ ap (λ bytes. from_le_bytes w64 bytes) both.0
          ∙ from_le_bytes-to_le_bytes_8 n n_fits,
      both.1,
    )

pub text-code : (x y a b : List ℕ) → text_bytes x ++ a ≡ text_bytes y ++ b → (x ≡ y) × (a ≡ b)
text-code x y a b e =
    let same : length x ≡ length y = cc in
    let rest : x ++ a ≡ y ++ b = cc in
    same_length-code x y a b same rest

pub counted-code : IsCodeOn (λ bytes. FitsWord (length bytes)) counted_bytes
counted-code x y a b x_fits y_fits e =
    let both = number-code (length x) (length y) (x ++ a) (y ++ b) x_fits y_fits
    (sym (append_assoc (number_bytes (length x)) x a) ∙ e ∙ append_assoc (number_bytes (length y)) y b) in
    same_length-code x y a b both.0 both.1

-- ---- lists

module _ {T : Type 0} (IsValue : T → Type 0) (encoding : T → List ℕ) (code : IsCodeOn IsValue encoding) where
  pub row-code : (xs ys : List T) (a b : List ℕ) → All IsValue xs → All IsValue ys → length xs ≡ length ys →
      flat_map encoding xs ++ a ≡ flat_map encoding ys ++ b → (xs ≡ ys) × (a ≡ b)
  row-code [] [] a b p q same e = (refl, e)
  row-code [] (y ∷ ys) a b p q same e = absurd (omega (arith, same))
  row-code (x ∷ xs) [] a b p q same e = absurd (omega (arith, same))
  row-code (x ∷ xs) (y ∷ ys) a b p q same e =
      let first = code x y (flat_map encoding xs ++ a) (flat_map encoding ys ++ b) (All-head IsValue x xs p)
      (All-head IsValue y ys q) (sym (append_assoc (encoding x) (flat_map encoding xs) a) ∙ e
      ∙ append_assoc (encoding y) (flat_map encoding ys) b) in
      let others = row-code xs ys a b (All-tail IsValue x xs p) (All-tail IsValue y ys q) (omega (arith, same)) first.1 in
      (ap (λ z. z ∷ xs) first.0 ∙ ap (λ zs. y ∷ zs) others.0, others.1)

  pub listed-code : IsCodeOn (IsListHeld IsValue) (listed_bytes encoding)
  listed-code xs ys a b xs_held ys_held e =
      let both = number-code (length xs) (length ys) (flat_map encoding xs ++ a) (flat_map encoding ys ++ b)
      xs_held.count ys_held.count (sym (append_assoc (number_bytes (length xs)) (flat_map encoding xs) a) ∙ e
      ∙ append_assoc (number_bytes (length ys)) (flat_map encoding ys) b) in
      row-code xs ys a b xs_held.each ys_held.each both.0 both.1

-- ---- steps, and what a description says

pub parts-code : IsCodeOn (λ parts. IsListHeld FitsWord parts.numbers) parts_bytes
parts-code p q a b p_held q_held e =
    let what : p.what ≡ q.what = cc in
    let rest : (text_bytes p.label ++ listed_bytes number_bytes p.numbers) ++ a
    ≡ (text_bytes q.label ++ listed_bytes number_bytes q.numbers) ++ b = cc in
    let label = text-code p.label q.label (listed_bytes number_bytes p.numbers ++ a)
    (listed_bytes number_bytes q.numbers ++ b)
    (sym (append_assoc (text_bytes p.label) (listed_bytes number_bytes p.numbers) a) ∙ rest
    ∙ append_assoc (text_bytes q.label) (listed_bytes number_bytes q.numbers) b) in
    let numbers = listed-code FitsWord number_bytes number-code p.numbers q.numbers a b p_held q_held label.1 in (
      ap (λ n. record { what = n; label = p.label; numbers = p.numbers }) what
          ∙ ap (λ l. record { what = q.what; label = l; numbers = p.numbers }) label.0
          ∙ ap (λ ns. record { what = q.what; label = q.label; numbers = ns }) numbers.0,
      numbers.1,
    )

pub reading-one : (one other : Reading) → IsHeld one → IsHeld other → reading_bytes one ≡ reading_bytes other → one ≡ other
reading-one r s r_held s_held e =
    let chunks = listed_bytes counted_bytes in
    let steps = listed_bytes parts_bytes in
    let version : r.version ≡ s.version = cc in
    let rest : text_bytes r.name ++ (chunks r.chunks ++ steps r.steps) ≡ text_bytes s.name ++ (chunks s.chunks ++ steps s.steps)
    = cc in
    let name = text-code r.name s.name (chunks r.chunks ++ steps r.steps) (chunks s.chunks ++ steps s.steps) rest in
    let read = listed-code (λ chunk. FitsWord (length chunk)) counted_bytes counted-code r.chunks s.chunks (steps r.steps)
    (steps s.steps) r_held.chunks s_held.chunks name.1 in
    let last = listed-code (λ parts. IsListHeld FitsWord parts.numbers) parts_bytes parts-code r.steps s.steps [] []
    r_held.steps s_held.steps (append-nil (steps r.steps) ∙ read.1 ∙ sym (append-nil (steps s.steps))) in
    ap (λ n. record { version = n; name = r.name; chunks = r.chunks; steps = r.steps }) version
    ∙ ap (λ n. record { version = s.version; name = n; chunks = r.chunks; steps = r.steps }) name.0
    ∙ ap (λ cs. record { version = s.version; name = s.name; chunks = cs; steps = r.steps }) read.0
    ∙ ap (λ ps. record { version = s.version; name = s.name; chunks = s.chunks; steps = ps }) last.0
