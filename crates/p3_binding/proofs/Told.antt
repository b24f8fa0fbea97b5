-- What a step absorbed is read back from what it fed.
use Rattle.std.proofs.Common.{◌≡◌, ℕ, zero, suc, ◌^◌, ◌<◌, ◌≤◌, List, [], ◌∷◌, ◌++◌, length, map, flat_map, inl, inr}
use Rattle.std.{proofs.Common.{refl, sym, ap, ◌∙◌, append_assoc, arith}, specs.List.AllByRecursion}
use Rattle.std.proofs.lemmas.List.{append-nil, length-map}
use Rattle.p3_challenger_core.specs.{Reading.{AreBytes, OneBegins, IsPrefixCodeOn}, SymbolLaws.row-prefix_code}
use Rattle.p3_challenger_core.specs.SymbolLaws.{places-prefix_code}
use Rattle.p3_fs_core.specs.{BigEndianLaws.{length-in_bytes, AreBytes-in_bytes}, CountLaws.count_width-most, Steps.Step}
use Rattle.p3_fs_core.specs.{BigEndian.{count_bytes, count_width}, declared.step.{Kind.Kind, Length.Length}}
use Rattle.p3_fs_core.specs.declared.step.{Kind.TheVariants.{Hint, Challenge, Pow}, TypeTag.TypeTag}
use Rattle.p3_fs_core.specs.declared.step.Length.TheVariants.{None, Scalar, Fixed, Bounded}
use Rattle.p3_driver_core.specs.Working.{symbols_of_check}
use Rattle.p3_runs.specs.{Absorbed.{Absorbed, Nothing, Bytes, Elements, Own, Witness, witness_of}, Rules.Rules}
use Rattle.p3_runs.specs.Rules.{Coding}
use Rattle.p3_binding.proofs.Lawful.{Lawful, LawfulCoding, bytes_symbols, IsShort}
use Rattle.p3_fs_core.specs.declared.step.TypeTag.TheVariants as tag

-- ---- what a step feeds, as its step of the pattern says it

-- nothing; bytes, as many as the length says; so many elements of so many coefficients; a value that the challenger
-- alone knows; a witness of so many bits
pub data Shape : Type 0 where
  Silent : Shape
  BytesOf : Length → Shape
  ElementsOf : Length → ℕ → Shape
  OwnValue : Shape
  WitnessOf : Length → Shape

abbrev pub shape_with : TypeTag → Kind → Length → Shape
shape_with tag.Bytes Hint length = Silent
shape_with tag.Bytes kind length = BytesOf length
shape_with (tag.Algebra order degree digest) Challenge length = Silent
shape_with (tag.Algebra order degree digest) Pow length = WitnessOf length
shape_with (tag.Algebra order degree digest) kind length = ElementsOf length degree
shape_with tag.Opaque kind length = OwnValue
shape_with _ kind length = Silent

abbrev pub shape_of : Step → Shape
shape_of s = shape_with s.type_tag s.kind s.length

-- so many may stand there
abbrev pub FitsMany : Length → ℕ → Type 0
FitsMany None n = ⊥
FitsMany Scalar n = n ≡ 1
FitsMany (Fixed len) n = n ≡ len
FitsMany (Bounded max) n = (n ≤ max) × (max < 2 ^ 64)

module _ {S Symbol I F EF O Ac : Type 0} (rules : Rules S Symbol I F EF O Ac) where
  -- what lists of coefficients feed
  abbrev pub rows : List (List F) → List Symbol
  rows xss = flat_map (flat_map rules.scalar.observation.symbols) xss

  -- what is fed of how many there are
  abbrev pub count_symbols : Length → ℕ → List Symbol
  count_symbols (Bounded max) n = bytes_symbols rules (count_bytes max n)
  count_symbols _ n = []

  -- what a step of the shape may absorb, and what it feeds then
  pub data Told : Shape → Absorbed F O → List Symbol → Type 0 where
    silent : Told Silent Nothing []
    bytes : {many : Length} {b : List ℕ} → FitsMany many (length b) → AreBytes b → IsShort rules b →
        Told (BytesOf many) (Bytes b) (count_symbols many (length b) ++ bytes_symbols rules b)
    elements : {many : Length} {degree : ℕ} {xss : List (List F)} → FitsMany many (length xss) →
        AllByRecursion (λ xs. length xs ≡ degree) xss →
        Told (ElementsOf many degree) (Elements xss) (count_symbols many (length xss) ++ rows xss)
    own : {x : O} → rules.IsOwn x → Told OwnValue (Own x) (rules.opaque.symbols x)
    witness : {bits : ℕ} (x : F) → rules.grinding.is_there →
        Told (WitnessOf (Fixed bits)) (witness_of bits x) (symbols_of_check bits (rules.grinding.witness.symbols x))

  -- ---- values of a coding

  module _ {A : Type 0} {c : Coding S Symbol F A} (is : LawfulCoding rules c) where
    rows-spread : (xs : List A) → rows (map c.coefficients xs) ≡ flat_map c.observation.symbols xs
    rows-spread [] = refl
    rows-spread (x ∷ xs) = cc (is.feeds x, rows-spread xs)

    each-of : (xs : List A) → AllByRecursion (λ l. length l ≡ c.algebra.degree) (map c.coefficients xs)
    each-of [] = tt
    each-of (x ∷ xs) = (is.places x, each-of xs)

    pub many-told : (many : Length) (xs : List A) → FitsMany many (length xs) →
        Told (ElementsOf many c.algebra.degree) (Elements (map c.coefficients xs))
        (count_symbols many (length xs) ++ flat_map c.observation.symbols xs)
    many-told many xs fit =
        let long = length-map xs c.coefficients in
        let fits : FitsMany many (length (map c.coefficients xs)) = rw long fit in
        rw (← rows-spread xs, ← long) (elements fits (each-of xs))

    pub one-told : (x : A) →
        Told (ElementsOf Scalar c.algebra.degree) (Elements (c.coefficients x ∷ [])) (c.observation.symbols x)
    one-told x = rw append-nil at (many-told Scalar (x ∷ []) refl)

-- ---- reading back

-- of two encodings, of which one begins the other, both are the same, and so are the values
pub begins-equal : {T S : Type 0} {IsValue : T → Type 0} (encoding : T → List S) → IsPrefixCodeOn IsValue encoding →
    (x y : T) → IsValue x → IsValue y → OneBegins (encoding x) (encoding y) → x ≡ y
begins-equal encoding code x y p q (inl h) = (code x y h.0 [] p q (cc (append-nil (encoding y)))).0
begins-equal encoding code x y p q (inr h) = (code x y [] h.0 p q (cc (append-nil (encoding x)))).0

-- what is read says what is made of it
under : {A B S : Type 0} {a b : A} {x y : S} (make : A → B) → (a ≡ b) × (x ≡ y) → (make a ≡ make b) × (x ≡ y)
under make read = (ap make read.0, read.1)

module _ {S Symbol I F EF O Ac : Type 0} (rules : Rules S Symbol I F EF O Ac) (laws : Lawful rules) where
  bytes-read : (a b : List ℕ) (x y : List Symbol) → AreBytes a → AreBytes b → IsShort rules a → IsShort rules b →
      length a ≡ length b → bytes_symbols rules a ++ x ≡ bytes_symbols rules b ++ y → (a ≡ b) × (x ≡ y)
  bytes-read a b x y a_are b_are a_short b_short as_long e =
      let read = laws.begins a b x y a_are b_are a_short b_short e in
      let same = begins-equal _ (places-prefix_code (length b)) a b as_long refl read.0 in (same, read.1 same)

  count-read : (many : Length) (n m : ℕ) (a b x y : List Symbol) → FitsMany many n → FitsMany many m →
      (count_symbols rules many n ++ a) ++ x ≡ (count_symbols rules many m ++ b) ++ y → (n ≡ m) × (a ++ x ≡ b ++ y)
  count-read (Bounded max) n m a b x y p q e =
      let width = count_width max in
      let long = length-in_bytes width in
      let short = λ (k : ℕ). laws.short (length (count_bytes max k)) (omega (arith, long k, count_width-most max)) in
      let read = bytes-read (count_bytes max n) (count_bytes max m) (a ++ x) (b ++ y) (AreBytes-in_bytes width n)
      (AreBytes-in_bytes width m) (short n) (short m) (long n ∙ sym (long m)) (simp append_assoc at e) in
      (laws.counts max n m p.1 p.0 q.0 read.0, read.1)
  count-read None n m a b x y p q e = absurd p
  count-read _ n m a b x y p q e = (p ∙ sym q, e)

  rows-read : (degree : ℕ) (xss yss : List (List F)) (x y : List Symbol) → length xss ≡ length yss →
      AllByRecursion (λ xs. length xs ≡ degree) xss → AllByRecursion (λ ys. length ys ≡ degree) yss →
      rows rules xss ++ x ≡ rows rules yss ++ y → (xss ≡ yss) × (x ≡ y)
  rows-read degree [] [] x y same h k e = (refl, e)
  rows-read degree (xs ∷ xss) (ys ∷ yss) x y same h k e =
      let first = row-prefix_code _ laws.coefficients xs ys (rows rules xss ++ x) (rows rules yss ++ y) (h.0 ∙ sym k.0)
      (simp append_assoc at e) in
      let others = rows-read degree xss yss x y (cc) h.1 k.1 first.1 in
      (cc, others.1)
  rows-read degree _ _ x y same h k e = cc

  -- at steps of one shape
  pub told-reads : {shape : Shape} {a b : Absorbed F O} {s t : List Symbol} (x y : List Symbol) → Told rules shape a s →
      Told rules shape b t → s ++ x ≡ t ++ y → (a ≡ b) × (x ≡ y)
  told-reads x y silent silent e = (refl, e)
  told-reads x y (bytes {many = many} l i p) (bytes m j q) e =
      let count = count-read many _ _ _ _ x y l m e in under Bytes (bytes-read _ _ x y i j p q count.0 count.1)
  told-reads x y (elements {many = many} l each) (elements m every) e =
      let count = count-read many _ _ _ _ x y l m e in under Elements (rows-read _ _ _ x y count.0 each every count.1)
  told-reads x y (own h) (own k) e = under Own (laws.opaque _ _ x y h k e)
  told-reads x y (witness {bits = zero} v h) (witness w k) e = (refl, e)
  told-reads x y (witness {bits = suc more} v h) (witness w k) e = under Witness (laws.witness h v w x y e)
