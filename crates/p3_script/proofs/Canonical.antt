-- Each step of a script is told by its bytes and its carried witness.
use Rattle.std.proofs.Common.{◌≡◌, ℕ, ◌<◌, ◌≤◌, ◌^◌, List, [], ◌++◌, length, Option, Some, None, refl, sym, ap, ◌∙◌}
use Rattle.std.{proofs.Common.{append_assoc, arith}, specs.List.flat_map}
use Rattle.p3_challenger_core.specs.{Reading.IsPrefixCode, SymbolLaws.{row-prefix_code, as_many-prefix_code}}
use Rattle.p3_fs_core.specs.{BigEndian.{big_endian, in_bytes, count_width, count_bytes}, CountLaws.count_width-enough}
use Rattle.p3_fs_core.specs.{BigEndianLaws.{big_endian-in_bytes, length-in_bytes}, StepFits.FitsLength}
use Rattle.p3_runs.specs.{Plays.{Play, holds_some, when_some}, Runs.if_carried, Rules.Rules, Stepping.IsCanonical}
use Rattle.p3_runs.specs.Values.{Value, Bytes, Scalar, Scalars, Extension, Witness, IsNothing, bytes_in, scalar_in}
use Rattle.p3_runs.specs.Values.{scalars_in, extension_in, witness_in}
use Rattle.p3_script.specs.Scripts.{play_of}
use Rattle.p3_script.specs.declared.steps.Step as script
use Rattle.p3_script.specs.declared.steps.Step.TheVariants as step

-- ---- values

pub nothing-one : {F EF : Type 0} (v w : Value F EF) → IsNothing v → IsNothing w → v ≡ w
nothing-one v w f g = grind arith

bytes-is : {F EF : Type 0} (v : Value F EF) (x : List ℕ) → bytes_in v ≡ Some x → v ≡ Bytes x
bytes-is v x h = grind arith

scalar-is : {F EF : Type 0} (v : Value F EF) (x : F) → scalar_in v ≡ Some x → v ≡ Scalar x
scalar-is v x h = grind arith

scalars-is : {F EF : Type 0} (v : Value F EF) (x : List F) → scalars_in v ≡ Some x → v ≡ Scalars x
scalars-is v x h = grind arith

extension-is : {F EF : Type 0} (v : Value F EF) (x : EF) → extension_in v ≡ Some x → v ≡ Extension x
extension-is v x h = grind arith

pub witness-is : {F EF : Type 0} (v : Value F EF) (x : F) → witness_in v ≡ Some x → v ≡ Witness x
witness-is v x h = grind arith

-- what was found, and that it is fit
pub fitting : {A : Type 0} (IsFit : A → Type 0) (o : Option A) → holds_some IsFit o → (x : A) × (o ≡ Some x) × IsFit x
fitting IsFit None h = absurd h
fitting IsFit (Some x) h = (x, refl, h)

-- ---- bytes

-- of fitting values
abbrev Codes : {A : Type 0} → (A → Type 0) → (A → List ℕ) → Type 0
Codes {A} IsFit wire = (x y : A) (a b : List ℕ) → IsFit x → IsFit y → wire x ++ a ≡ wire y ++ b → (x ≡ y) × (a ≡ b)

count-code : (max : ℕ) → max < 2 ^ 64 → Codes (λ (n : ℕ). n ≤ max) (count_bytes max)
count-code max small n m a b n_is m_is e =
    let w = count_width max in
    let enough = count_width-enough max small in
    let both = as_many-prefix_code (in_bytes w n) (in_bytes w m) a b (simp length-in_bytes) e in
    let n_fits : n < 256 ^ w = omega arith in
    let m_fits : m < 256 ^ w = omega arith in
    (sym (big_endian-in_bytes w n n_fits) ∙ ap big_endian both.0 ∙ big_endian-in_bytes w m m_fits, both.1)

bytes-code : (n : ℕ) → Codes (λ (x : List ℕ). length x ≡ n) (λ x. x)
bytes-code n x y a b p q e = as_many-prefix_code x y a b (p ∙ sym q) e

-- after a count
counted-code : {A : Type 0} (wire : List A → List ℕ) → ((n : ℕ) → Codes (λ (xs : List A). length xs ≡ n) wire) →
    (max : ℕ) → max < 2 ^ 64 →
    Codes (λ (xs : List A). length xs ≤ max) (λ xs. count_bytes max (length xs) ++ wire xs)
counted-code wire code max small x y a b p q e =
    let first = count-code max small (length x) (length y) (wire x ++ a) (wire y ++ b) p q (simp append_assoc at e) in
    code (length x) x y a b refl (sym first.0) first.1

module _ {A : Type 0} (wire : A → List ℕ) (code : IsPrefixCode wire) where
  value-code : {T : Type 0} → Codes (λ (x : A). T) wire
  value-code x y a b p q e = code x y a b e

  values-code : (n : ℕ) → Codes (λ (xs : List A). length xs ≡ n) (flat_map wire)
  values-code n x y a b p q e = row-prefix_code wire code x y a b (p ∙ sym q) e

no_wire : {A : Type 0} (o : Option A) (l : List ℕ) → when_some [] (λ _. []) o ++ l ≡ l
no_wire o l = grind arith

-- ---- the shapes

-- a value that is found where it fits is told by its bytes
told : {F EF A : Type 0} (found : Value F EF → Option A) (made : A → Value F EF) →
    ((v : Value F EF) (x : A) → found v ≡ Some x → v ≡ made x) → (IsFit : A → Type 0) (wire : A → List ℕ) →
    Codes IsFit wire → Codes (λ v. holds_some IsFit (found v)) (λ v. when_some [] wire (found v))
told found made is IsFit wire code v w a b p q e =
    let x = fitting IsFit (found v) p in
    let y = fitting IsFit (found w) q in
    let same = code x.0 y.0 a b x.2 y.2 (rw (x.1, y.1) at e) in
    (is v x.0 x.1 ∙ ap made same.0 ∙ sym (is w y.0 y.1), same.1)

-- where no caller carries it
by_wire : {S Symbol F EF O : Type 0} (play : Play S Symbol F EF O) → Codes play.Fits play.wire →
    ((v : Value F EF) → if_carried play.place v ≡ []) → IsCanonical play
by_wire play code none =
    record {
      one_way = λ v w a b c d p q bytes carried.
          let same = code v w a b p q bytes in (same.0, same.1, simp none at carried);
    }

-- ---- the kinds

module _ {S Symbol I F EF O Ac : Type 0} (rules : Rules S Symbol I F EF O Ac)
    (scalar : IsPrefixCode rules.scalar.encoding.wire) (extension : IsPrefixCode rules.extension.encoding.wire)
    (witness : IsPrefixCode rules.witness_encoding.wire) where
  pub step-canonical : {Su U C K D G It St Sy : Type 0} (x : script.Step Su F EF U O C K Ac D G It St Sy) →
      FitsLength (play_of rules x).interaction.length → IsCanonical (play_of rules x)
  step-canonical (step.Salt label len) fits = by_wire _ (told bytes_in Bytes bytes-is _ _ (bytes-code len)) (λ v. refl)
  step-canonical (step.Bytes label len) fits = by_wire _ (told bytes_in Bytes bytes-is _ _ (bytes-code len)) (λ v. refl)
  step-canonical (step.Hint label len) fits = by_wire _ (told bytes_in Bytes bytes-is _ _ (bytes-code len)) (λ v. refl)
  step-canonical (step.BytesBounded label max) fits =
      by_wire _ (told bytes_in Bytes bytes-is _ _ (counted-code _ bytes-code max fits)) (λ v. refl)
  step-canonical (step.HintBounded label max) fits =
      by_wire _ (told bytes_in Bytes bytes-is _ _ (counted-code _ bytes-code max fits)) (λ v. refl)
  step-canonical (step.Scalar label) fits =
      by_wire _ (told scalar_in Scalar scalar-is _ _ (value-code _ scalar)) (λ v. refl)
  step-canonical (step.Scalars label n) fits =
      by_wire _ (told scalars_in Scalars scalars-is _ _ (values-code _ scalar n)) (λ v. refl)
  step-canonical (step.ScalarsBounded label max) fits =
      by_wire _ (told scalars_in Scalars scalars-is _ _ (counted-code _ (values-code _ scalar) max fits))
      (λ v. refl)
  step-canonical (step.Extension label) fits =
      by_wire _ (told extension_in Extension extension-is _ _ (value-code _ extension)) (λ v. refl)
  step-canonical (step.Pow label bits) fits =
      by_wire _ (told witness_in Witness witness-is _ _ (value-code _ witness)) (λ v. refl)
  step-canonical (step.ObservePow label bits) fits =
      record { one_way = λ v w a b c d p q bytes carried. (cc, simp no_wire at bytes, cc) }
  step-canonical (step.PublicScalarsBounded label xs max) fits =
      by_wire _ (λ v w a b p q e. (nothing-one v w p.0 q.0, e)) (λ v. refl)
  step-canonical (step.ObserveExtensionsBounded label xs max) fits =
      by_wire _ (λ v w a b p q e. (nothing-one v w p.0 q.0, e)) (λ v. refl)
  step-canonical _ fits = by_wire _ (λ v w a b p q e. (nothing-one v w p q, e)) (λ v. refl)
