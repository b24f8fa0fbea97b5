-- What a step absorbed tells its value, but for hints and witnesses of 0 bits.
use Rattle.std.proofs.Common.{◌≡◌, ℕ, zero, suc, List, [], ◌∷◌, ◌++◌, map, refl, ap}
use Rattle.p3_fs_core.specs.declared.step.{Kind.Kind, Length.Length, Length.TheVariants.{None, Scalar, Fixed, Bounded}}
use Rattle.p3_binding.specs.Hints.{SameButHint, SameOfKind, SameButHints, ReceivedButHints, FirstAre}
use Rattle.p3_runs.specs.{Absorbed.{Absorbed, Nothing, Bytes, Elements, witness_of}, Rules.Rules, Plays.holds_some}
use Rattle.p3_runs.specs.Plays.{Play, Place, Nowhere, Sent, Found, Carried, when_some}
use Rattle.p3_runs.specs.Runs.{Finishes, absorbed, in_proof, if_in_proof}
use Rattle.p3_runs.specs.Values.{Value, IsNothing, bytes_in, scalar_in, scalars_in, extension_in, witness_in}
use Rattle.p3_script.specs.Scripts.{play_of}
use Rattle.p3_fs_core.specs.declared.step.Kind.TheVariants as kind
use Rattle.p3_runs.specs.Values as value
use Rattle.p3_script.specs.declared.steps.Step as script
use Rattle.p3_script.specs.declared.steps.Step.TheVariants as step

-- ---- steps in order

-- where the proof carries values that are the same in a sense, and others that are in another
first-are : {V : Type 0} (place : Place) (Same : V → V → Type 0) (Others : List V → List V → Type 0) (v w : V)
    (vs ws : List V) → Same v w → Others vs ws →
    FirstAre place Same Others (if_in_proof place v ++ vs) (if_in_proof place w ++ ws)
first-are Nowhere Same Others v w vs ws h others = others
first-are Sent Same Others v w vs ws h others = (h, others)
first-are Found Same Others v w vs ws h others = (h, others)
first-are Carried Same Others v w vs ws h others = others

module _ {X S Symbol F EF O : Type 0} (play : X → Play S Symbol F EF O) where
  abbrev pub EachTells : Type 0
  EachTells =
      (x : X) (v w : Value F EF) → (play x).Fits v → (play x).Fits w → (play x).absorbed v ≡ (play x).absorbed w →
      SameButHint (play x).interaction v w

  pub steps-tell : EachTells → (xs : List X) (vs ws : List (Value F EF)) (s t : S) → Finishes play xs vs s →
      Finishes play xs ws t → absorbed play xs vs ≡ absorbed play xs ws → SameButHints play xs vs ws
  steps-tell tells [] [] [] s t p q e = tt
  steps-tell tells [] [] (w ∷ ws) s t p q e = absurd q
  steps-tell tells [] (v ∷ vs) ws s t p q e = absurd p
  steps-tell tells (x ∷ xs) [] ws s t p q e = absurd p
  steps-tell tells (x ∷ xs) (v ∷ vs) [] s t p q e = absurd q
  steps-tell tells (x ∷ xs) (v ∷ vs) (w ∷ ws) s t p q e =
      let first : (play x).absorbed v ≡ (play x).absorbed w = cc in
      let others : absorbed play xs vs ≡ absorbed play xs ws = cc in
      (tells x v w p.0 q.0 first, steps-tell tells xs vs ws _ _ p.3 q.3 others)

  pub received-same : (xs : List X) (vs ws : List (Value F EF)) → SameButHints play xs vs ws →
      ReceivedButHints play xs (in_proof play xs vs) (in_proof play xs ws)
  received-same [] [] [] h = (refl, refl)
  received-same [] [] (w ∷ ws) h = absurd h
  received-same [] (v ∷ vs) ws h = absurd h
  received-same (x ∷ xs) [] ws h = absurd h
  received-same (x ∷ xs) (v ∷ vs) [] h = absurd h
  received-same (x ∷ xs) (v ∷ vs) (w ∷ ws) h =
      first-are (play x).place (SameButHint (play x).interaction) (ReceivedButHints play xs) v w (in_proof play xs vs)
      (in_proof play xs ws) h.0 (received-same xs vs ws h.1)

-- ---- values

-- equal values are the same at each step
same-of_length : {V : Type 0} (length : Length) (v w : V) → v ≡ w → SameOfKind kind.Pow length v w
same-of_length None v w e = e
same-of_length Scalar v w e = e
same-of_length (Fixed zero) v w e = tt
same-of_length (Fixed (suc more)) v w e = e
same-of_length (Bounded max) v w e = e

same-of_kind : {V : Type 0} (k : Kind) (length : Length) (v w : V) → v ≡ w → SameOfKind k length v w
same-of_kind kind.Hint length v w e = tt
same-of_kind kind.Pow length v w e = same-of_length length v w e
same-of_kind _ length v w e = e

nothing-tells : {F EF : Type 0} (v w : Value F EF) → IsNothing v → IsNothing w → v ≡ w
nothing-tells value.Nothing value.Nothing p q = refl
nothing-tells value.Nothing _ p q = absurd q
nothing-tells _ w p q = absurd p

-- elements by their coefficients
module _ {F A : Type 0} (coefficients : A → List F) (injective : (x y : A) → coefficients x ≡ coefficients y → x ≡ y) where
  rows-tell : (xs ys : List A) → map coefficients xs ≡ map coefficients ys → xs ≡ ys
  rows-tell [] [] e = refl
  rows-tell [] (y ∷ ys) e = absurd (cc)
  rows-tell (x ∷ xs) [] e = absurd (cc)
  rows-tell (x ∷ xs) (y ∷ ys) e =
      let first : coefficients x ≡ coefficients y = cc in
      let others : map coefficients xs ≡ map coefficients ys = cc in
      let same = injective x y first in
      let more = rows-tell xs ys others in
      cc

  module _ (O : Type 0) where
    one-tells : (x y : A) →
        ◌≡◌ {A = Absorbed F O} (Elements (coefficients x ∷ [])) (Elements (coefficients y ∷ [])) → x ≡ y
    one-tells x y e = let same : coefficients x ≡ coefficients y = cc in injective x y same

    many-tell : (xs ys : List A) →
        ◌≡◌ {A = Absorbed F O} (Elements (map coefficients xs)) (Elements (map coefficients ys)) → xs ≡ ys
    many-tell xs ys e = let same : map coefficients xs ≡ map coefficients ys = cc in rows-tell xs ys same

module _ {F EF O : Type 0} where
  bytes-tell : (P : List ℕ → Type 0) (v w : Value F EF) → holds_some P (bytes_in v) → holds_some P (bytes_in w) →
      ◌≡◌ {A = Absorbed F O} (when_some Nothing Bytes (bytes_in v)) (when_some Nothing Bytes (bytes_in w)) → v ≡ w
  bytes-tell P (value.Bytes a) (value.Bytes b) p q e = let same : a ≡ b = cc in ap value.Bytes same
  bytes-tell P (value.Bytes a) _ p q e = absurd q
  bytes-tell P _ w p q e = absurd p

  scalar-tells : (f : F → Absorbed F O) → ((x y : F) → f x ≡ f y → x ≡ y) → (P : F → Type 0) (v w : Value F EF) →
      holds_some P (scalar_in v) → holds_some P (scalar_in w) →
      when_some Nothing f (scalar_in v) ≡ when_some Nothing f (scalar_in w) → v ≡ w
  scalar-tells f injective P (value.Scalar x) (value.Scalar y) p q e = ap value.Scalar (injective x y e)
  scalar-tells f injective P (value.Scalar x) _ p q e = absurd q
  scalar-tells f injective P _ w p q e = absurd p

  scalars-tell : (f : List F → Absorbed F O) → ((x y : List F) → f x ≡ f y → x ≡ y) → (P : List F → Type 0)
      (v w : Value F EF) → holds_some P (scalars_in v) → holds_some P (scalars_in w) →
      when_some Nothing f (scalars_in v) ≡ when_some Nothing f (scalars_in w) → v ≡ w
  scalars-tell f injective P (value.Scalars x) (value.Scalars y) p q e = ap value.Scalars (injective x y e)
  scalars-tell f injective P (value.Scalars x) _ p q e = absurd q
  scalars-tell f injective P _ w p q e = absurd p

  extension-tells : (f : EF → Absorbed F O) → ((x y : EF) → f x ≡ f y → x ≡ y) → (P : EF → Type 0) (v w : Value F EF) →
      holds_some P (extension_in v) → holds_some P (extension_in w) →
      when_some Nothing f (extension_in v) ≡ when_some Nothing f (extension_in w) → v ≡ w
  extension-tells f injective P (value.Extension x) (value.Extension y) p q e = ap value.Extension (injective x y e)
  extension-tells f injective P (value.Extension x) _ p q e = absurd q
  extension-tells f injective P _ w p q e = absurd p

  witness-tells : (bits : ℕ) (P : F → Type 0) (v w : Value F EF) → holds_some P (witness_in v) →
      holds_some P (witness_in w) → ◌≡◌ {A = Absorbed F O} (when_some Nothing (witness_of bits) (witness_in v))
      (when_some Nothing (witness_of bits) (witness_in w)) → SameOfKind kind.Pow (Fixed bits) v w
  witness-tells zero P v w p q e = tt
  witness-tells (suc more) P (value.Witness x) (value.Witness y) p q e =
      let same : x ≡ y = cc in ap value.Witness same
  witness-tells (suc more) P (value.Witness x) _ p q e = absurd q
  witness-tells (suc more) P _ w p q e = absurd p

-- ---- the steps of scripts

-- elements are told by their coefficients
pub record AreTold {S Symbol I F EF O Ac : Type 0} (r : Rules S Symbol I F EF O Ac) : Type 0 where
  pub scalar : (x y : F) → r.scalar.coefficients x ≡ r.scalar.coefficients y → x ≡ y
  pub extension : (x y : EF) → r.extension.coefficients x ≡ r.extension.coefficients y → x ≡ y

module _ {S Symbol I F EF O Ac : Type 0} (r : Rules S Symbol I F EF O Ac) (told : AreTold r)
    {Su U C K D G It St Sy : Type 0} where
  pub step-tells : EachTells (λ (x : script.Step Su F EF U O C K Ac D G It St Sy). play_of r x)
  step-tells (step.Begin label k) v w p q e = same-of_kind k None v w (nothing-tells v w p q)
  step-tells (step.End label k) v w p q e = same-of_kind k None v w (nothing-tells v w p q)
  step-tells (step.Salt label len) v w p q e = bytes-tell _ v w p q e
  step-tells (step.Bytes label len) v w p q e = bytes-tell _ v w p q e
  step-tells (step.Hint label len) v w p q e = tt
  step-tells (step.BytesBounded label max) v w p q e = bytes-tell _ v w p q e
  step-tells (step.HintBounded label max) v w p q e = tt
  step-tells (step.Scalar label) v w p q e =
      scalar-tells _ (one-tells r.scalar.coefficients told.scalar O) _ v w p q e
  step-tells (step.Scalars label n) v w p q e =
      scalars-tell _ (many-tell r.scalar.coefficients told.scalar O) _ v w p q e
  step-tells (step.ScalarsBounded label max) v w p q e =
      scalars-tell _ (many-tell r.scalar.coefficients told.scalar O) _ v w p q e
  step-tells (step.Extension label) v w p q e =
      extension-tells _ (one-tells r.extension.coefficients told.extension O) _ v w p q e
  step-tells (step.PublicScalarsBounded label xs max) v w p q e = nothing-tells v w p.0 q.0
  step-tells (step.ObserveExtensionsBounded label xs max) v w p q e = nothing-tells v w p.0 q.0
  step-tells (step.Pow label bits) v w p q e = witness-tells bits _ v w p q e
  step-tells (step.ObservePow label bits) v w p q e = witness-tells bits _ v w p q e
  step-tells _ v w p q e = nothing-tells v w p q
