-- What stands at a place of a run is absorbed at that place of what it absorbs.
use Rattle.std.proofs.Common.{◌≡◌, ◌≤◌, ℕ, zero, suc, List, [], ◌∷◌, Some, slice_get, length, inl, inr, refl, sym, ap}
use Rattle.std.proofs.Common.{◌∙◌, arith}
use Rattle.p3_challenger.specs.{Absorbed.{Absorbed, alone, witness_of}, Binding.SymbolsBind, Plays.Play, Rules.Rules}
use Rattle.p3_challenger.specs.{Runs.absorbed, Values.Value}
use Rattle.binding_callers.specs.OnePlace.{SameList, SymbolsTell}
use Rattle.std.specs.Prelude as list
use Rattle.p3_challenger.specs.Absorbed as absorb

module _ {X S Symbol F EF O : Type 0} (play : X → Play S Symbol F EF O) where
  absorbed-at : (place : ℕ) (xs : List X) (vs : List (Value F EF)) (x : X) (v : Value F EF) →
      slice_get xs place ≡ Some x → slice_get vs place ≡ Some v →
      slice_get (absorbed play xs vs) place ≡ Some ((play x).absorbed v)
  absorbed-at zero (y ∷ xs) (w ∷ vs) x v e f =
      let p : y ≡ x = cc in let q : w ≡ v = cc in rw (p, q) refl
  absorbed-at (suc place) (y ∷ xs) (w ∷ vs) x v e f = absorbed-at place xs vs x v e f
  absorbed-at place [] vs x v e f = absurd (cc)
  absorbed-at place xs [] x v e f = absurd (cc)

-- equal symbols tell what equal values absorbed tell
module _ {X S Symbol I F EF O Ac : Type 0} (rules : Rules S Symbol I F EF O Ac) (play : X → Play S Symbol F EF O)
    (bind : SymbolsBind rules play) where
  pub told : {Same : Type 0} (a b : X) (v w : Value F EF) → ((play a).absorbed v ≡ (play b).absorbed w → Same) →
      SymbolsTell rules play a v b w Same
  told a b v w tells x y place feed here there =
      elim ((bind x y feed).steps) [
        | inl same ↦
            let first = absorbed-at play place x.steps x.values a v here.step_is here.value_is in
            let second = absorbed-at play place y.steps y.values b w there.step_is there.value_is in
            let both : Some ((play a).absorbed v) ≡ Some ((play b).absorbed w)
            = sym first ∙ ap (λ l. slice_get l place) same.values ∙ second in
            inl (tells (cc))
        | inr collide ↦ inr collide
      ]

-- ---- what is absorbed tells

abbrev SameAbsorbed : {F O : Type 0} → Absorbed F O → Absorbed F O → Type 0
SameAbsorbed x y = x ≡ y

-- a scalar is told by its one coefficient
pub alone-same : {F : Type 0} (a b : F) → alone a ≡ alone b → a ≡ b
alone-same a b e = cc

-- an element by its coefficients, and a list by those of each
module _ {F A : Type 0} (coefficients : A → List F) (same : (a b : A) → coefficients a ≡ coefficients b → a ≡ b) where
  pub element-tells : {O : Type 0} (a b : A) → SameAbsorbed {F = F} {O = O}
      (absorb.Elements (coefficients a ∷ [])) (absorb.Elements (coefficients b ∷ [])) → a ≡ b
  element-tells a b e = same a b (cc)

  lists-same : (xs ys : List A) → list.map coefficients xs ≡ list.map coefficients ys → xs ≡ ys
  lists-same [] [] e = refl
  lists-same (x ∷ xs) (y ∷ ys) e =
      let here : coefficients x ≡ coefficients y = cc in
      let more : list.map coefficients xs ≡ list.map coefficients ys = cc in
      cc (same x y here, lists-same xs ys more)
  lists-same _ _ e = absurd (cc)

  pub lists-tell : {O : Type 0} (xs ys : List A) → SameAbsorbed {F = F} {O = O}
      (absorb.Elements (list.map coefficients xs)) (absorb.Elements (list.map coefficients ys)) → SameList xs ys
  lists-tell xs ys e = let lists = lists-same xs ys (cc) in record { lengths = ap length lists; lists = lists }

-- a witness, where its check is of at least one bit
pub witness-tells : {F O : Type 0} (bits n : ℕ) (a b : F) → 1 ≤ bits →
    SameAbsorbed {F = F} {O = O} (witness_of bits a) (witness_of n b) → a ≡ b
witness-tells zero n a b within e = absurd (omega (arith, within))
witness-tells (suc bits) zero a b within e = absurd (cc)
witness-tells (suc bits) (suc n) a b within e = cc
