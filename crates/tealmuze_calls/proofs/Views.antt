-- What the numbers of a step are, by what it is.
use Rattle.std.proofs.Common.{ℕ, ◌≡◌, ◌<◌, List, [], ◌∷◌, length, map, refl, subst, lit<, arith}
use Rattle.std.specs.List.{All, flat_map}
use Rattle.p3_challenger.specs.Kind.{Kind}
use Rattle.tealmuze_calls.specs.Descriptions.{kind_number, parts_of, HasForm, IsReadAs}
use Rattle.tealmuze_calls.specs.Readings.{AreSoMany}
use Rattle.tealmuze_calls.proofs.Numbers.{all_below, element_below}
use Rattle.p3_challenger.specs.Kind.TheVariants as kind
use Rattle.p3_challenger.specs.Step as script
use Rattle.p3_challenger.specs.Step.TheVariants as step

pub data View {F EF : Type 0} (number : F → ℕ) (order dimension : ℕ) (coefficients : EF → List F)
    (AreOpaque : List ℕ → Type 0) (what : ℕ) (numbers : List ℕ) : Type 0 where
  Single : what < 4 → numbers ≡ [] → View number order dimension coefficients AreOpaque what numbers
  Marker : 3 < what → what < 6 → (kind : ℕ) → kind < 7 → numbers ≡ kind ∷ [] →
      View number order dimension coefficients AreOpaque what numbers
  Counted : 5 < what → what < 17 → (count : ℕ) → numbers ≡ count ∷ [] →
      View number order dimension coefficients AreOpaque what numbers
  Bits : 16 < what → what < 19 → (width n : ℕ) → numbers ≡ width ∷ n ∷ [] →
      View number order dimension coefficients AreOpaque what numbers
  Scalar : what ≡ 19 → (x : ℕ) → x < order → numbers ≡ x ∷ [] →
      View number order dimension coefficients AreOpaque what numbers
  Scalars : what ≡ 20 → All (λ n. n < order) numbers → View number order dimension coefficients AreOpaque what numbers
  Element : what ≡ 21 → AreSoMany dimension (λ n. n < order) numbers →
      View number order dimension coefficients AreOpaque what numbers
  Elements : what ≡ 22 → (xs : List EF) → flat_map (λ x. map number (coefficients x)) xs ≡ numbers →
      View number order dimension coefficients AreOpaque what numbers
  Opaque : what ≡ 23 → AreOpaque numbers → View number order dimension coefficients AreOpaque what numbers
  ScalarsWithin : what ≡ 24 → (max : ℕ) (below : List ℕ) → All (λ n. n < order) below → numbers ≡ max ∷ below →
      View number order dimension coefficients AreOpaque what numbers
  ElementsWithin : what ≡ 25 → (max : ℕ) (xs : List EF) →
      numbers ≡ max ∷ flat_map (λ x. map number (coefficients x)) xs →
      View number order dimension coefficients AreOpaque what numbers

kind_below : (k : Kind) → kind_number k < 7
kind_below kind.Protocol = lit< tt
kind_below kind.Public = lit< tt
kind_below kind.Message = lit< tt
kind_below kind.Hint = lit< tt
kind_below kind.Challenge = lit< tt
kind_below kind.Pow = lit< tt
kind_below kind.Salt = lit< tt

module _ {Su F EF U O C K Ac D G It St Sy : Type 0} (number : F → ℕ) (order dimension : ℕ) (coefficients : EF → List F)
    (opaque_numbers : O → List ℕ) (AreOpaque : List ℕ → Type 0) (below : (x : F) → number x < order)
    (long : (x : EF) → length (coefficients x) ≡ dimension) where
  view : (s : script.Step Su F EF U O C K Ac D G It St Sy) → HasForm number coefficients opaque_numbers AreOpaque s →
      let parts = parts_of number coefficients opaque_numbers s in
      View number order dimension coefficients AreOpaque parts.what parts.numbers
  view (step.Scalar label) formed = Single (lit< tt) refl
  view (step.Extension label) formed = Single (lit< tt) refl
  view (step.ChallengeScalar label) formed = Single (lit< tt) refl
  view (step.ChallengeExtension label) formed = Single (lit< tt) refl
  view (step.Begin label k) formed = Marker (lit< tt) (lit< tt) (kind_number k) (kind_below k) refl
  view (step.End label k) formed = Marker (lit< tt) (lit< tt) (kind_number k) (kind_below k) refl
  view (step.Salt label len) formed = Counted (lit< tt) (lit< tt) len refl
  view (step.Bytes label len) formed = Counted (lit< tt) (lit< tt) len refl
  view (step.Hint label len) formed = Counted (lit< tt) (lit< tt) len refl
  view (step.BytesBounded label max) formed = Counted (lit< tt) (lit< tt) max refl
  view (step.HintBounded label max) formed = Counted (lit< tt) (lit< tt) max refl
  view (step.Scalars label n) formed = Counted (lit< tt) (lit< tt) n refl
  view (step.ScalarsBounded label max) formed = Counted (lit< tt) (lit< tt) max refl
  view (step.ChallengeScalars label n) formed = Counted (lit< tt) (lit< tt) n refl
  view (step.ChallengeExtensions label n) formed = Counted (lit< tt) (lit< tt) n refl
  view (step.Pow label bits) formed = Counted (lit< tt) (lit< tt) bits refl
  view (step.ObservePow label bits) formed = Counted (lit< tt) (lit< tt) bits refl
  view (step.ChallengeBits label width n) formed = Bits (lit< tt) (lit< tt) width n refl
  view (step.ChallengeUniformBits label width n) formed = Bits (lit< tt) (lit< tt) width n refl
  view (step.PublicScalar label x) formed = Scalar refl (number x) (below x) refl
  view (step.PublicScalars label xs) formed = Scalars refl (all_below number order below xs.items)
  view (step.ObserveExtension label x) formed =
      Element refl (element_below number order below coefficients dimension long x)
  view (step.ObserveExtensions label xs) formed = Elements refl xs.items refl
  view (step.Opaque label x) formed = Opaque refl formed
  view (step.PublicScalarsBounded label xs max) formed =
      ScalarsWithin refl max (map number xs.items) (all_below number order below xs.items) refl
  view (step.ObserveExtensionsBounded label xs max) formed = ElementsWithin refl max xs.items refl
  view (step.ChallengeExtensionsRejecting label n accept limit) formed = absurd formed
  view (step.ChallengeUniformBitsRejecting label width n accept limit) formed = absurd formed

  -- a step that is read as these has one
  pub view_of : (what : ℕ) (label numbers : List ℕ) (s : script.Step Su F EF U O C K Ac D G It St Sy) →
      IsReadAs number coefficients opaque_numbers AreOpaque what label numbers s →
      View number order dimension coefficients AreOpaque what numbers
  view_of what label numbers s read =
      let parts = parts_of number coefficients opaque_numbers s in
      let Of : ℕ → List ℕ → Type 0 = λ w ns. View number order dimension coefficients AreOpaque w ns in
      subst (λ ns. Of what ns) read.numbers_are (subst (λ w. Of w parts.numbers) read.what_is (view s read.formed))

module _ {F EF : Type 0} (number : F → ℕ) (order dimension : ℕ) (coefficients : EF → List F)
    (AreOpaque : List ℕ → Type 0) where
  -- the numbers of a step that is of this kind
  pub scalar_in : (what : ℕ) (numbers : List ℕ) → what ≡ 19 → View number order dimension coefficients AreOpaque what numbers →
      (x : ℕ) × (x < order) × (numbers ≡ x ∷ [])
  scalar_in what numbers is (Single less e) = absurd (omega (arith, is, less))
  scalar_in what numbers is (Marker above less kind kind_less e) = absurd (omega (arith, is, above, less))
  scalar_in what numbers is (Counted above less count e) = absurd (omega (arith, is, above, less))
  scalar_in what numbers is (Bits above less width n e) = absurd (omega (arith, is, above, less))
  scalar_in what numbers is (Scalar w x less e) = (x, less, e)
  scalar_in what numbers is (Scalars w all) = absurd (omega (arith, is, w))
  scalar_in what numbers is (Element w are) = absurd (omega (arith, is, w))
  scalar_in what numbers is (Elements w xs e) = absurd (omega (arith, is, w))
  scalar_in what numbers is (Opaque w are) = absurd (omega (arith, is, w))
  scalar_in what numbers is (ScalarsWithin w max ns all e) = absurd (omega (arith, is, w))
  scalar_in what numbers is (ElementsWithin w max xs e) = absurd (omega (arith, is, w))

  pub scalars_in : (what : ℕ) (numbers : List ℕ) → what ≡ 20 → View number order dimension coefficients AreOpaque what numbers →
      All (λ n. n < order) numbers
  scalars_in what numbers is (Single less e) = absurd (omega (arith, is, less))
  scalars_in what numbers is (Marker above less kind kind_less e) = absurd (omega (arith, is, above, less))
  scalars_in what numbers is (Counted above less count e) = absurd (omega (arith, is, above, less))
  scalars_in what numbers is (Bits above less width n e) = absurd (omega (arith, is, above, less))
  scalars_in what numbers is (Scalar w x less e) = absurd (omega (arith, is, w))
  scalars_in what numbers is (Scalars w all) = all
  scalars_in what numbers is (Element w are) = absurd (omega (arith, is, w))
  scalars_in what numbers is (Elements w xs e) = absurd (omega (arith, is, w))
  scalars_in what numbers is (Opaque w are) = absurd (omega (arith, is, w))
  scalars_in what numbers is (ScalarsWithin w max ns all e) = absurd (omega (arith, is, w))
  scalars_in what numbers is (ElementsWithin w max xs e) = absurd (omega (arith, is, w))

  pub element_in : (what : ℕ) (numbers : List ℕ) → what ≡ 21 → View number order dimension coefficients AreOpaque what numbers →
      AreSoMany dimension (λ n. n < order) numbers
  element_in what numbers is (Single less e) = absurd (omega (arith, is, less))
  element_in what numbers is (Marker above less kind kind_less e) = absurd (omega (arith, is, above, less))
  element_in what numbers is (Counted above less count e) = absurd (omega (arith, is, above, less))
  element_in what numbers is (Bits above less width n e) = absurd (omega (arith, is, above, less))
  element_in what numbers is (Scalar w x less e) = absurd (omega (arith, is, w))
  element_in what numbers is (Scalars w all) = absurd (omega (arith, is, w))
  element_in what numbers is (Element w are) = are
  element_in what numbers is (Elements w xs e) = absurd (omega (arith, is, w))
  element_in what numbers is (Opaque w are) = absurd (omega (arith, is, w))
  element_in what numbers is (ScalarsWithin w max ns all e) = absurd (omega (arith, is, w))
  element_in what numbers is (ElementsWithin w max xs e) = absurd (omega (arith, is, w))

  pub elements_in : (what : ℕ) (numbers : List ℕ) → what ≡ 22 → View number order dimension coefficients AreOpaque what numbers →
      (xs : List EF) × (flat_map (λ x. map number (coefficients x)) xs ≡ numbers)
  elements_in what numbers is (Single less e) = absurd (omega (arith, is, less))
  elements_in what numbers is (Marker above less kind kind_less e) = absurd (omega (arith, is, above, less))
  elements_in what numbers is (Counted above less count e) = absurd (omega (arith, is, above, less))
  elements_in what numbers is (Bits above less width n e) = absurd (omega (arith, is, above, less))
  elements_in what numbers is (Scalar w x less e) = absurd (omega (arith, is, w))
  elements_in what numbers is (Scalars w all) = absurd (omega (arith, is, w))
  elements_in what numbers is (Element w are) = absurd (omega (arith, is, w))
  elements_in what numbers is (Elements w xs e) = (xs, e)
  elements_in what numbers is (Opaque w are) = absurd (omega (arith, is, w))
  elements_in what numbers is (ScalarsWithin w max ns all e) = absurd (omega (arith, is, w))
  elements_in what numbers is (ElementsWithin w max xs e) = absurd (omega (arith, is, w))

  pub opaque_in : (what : ℕ) (numbers : List ℕ) → what ≡ 23 → View number order dimension coefficients AreOpaque what numbers →
      AreOpaque numbers
  opaque_in what numbers is (Single less e) = absurd (omega (arith, is, less))
  opaque_in what numbers is (Marker above less kind kind_less e) = absurd (omega (arith, is, above, less))
  opaque_in what numbers is (Counted above less count e) = absurd (omega (arith, is, above, less))
  opaque_in what numbers is (Bits above less width n e) = absurd (omega (arith, is, above, less))
  opaque_in what numbers is (Scalar w x less e) = absurd (omega (arith, is, w))
  opaque_in what numbers is (Scalars w all) = absurd (omega (arith, is, w))
  opaque_in what numbers is (Element w are) = absurd (omega (arith, is, w))
  opaque_in what numbers is (Elements w xs e) = absurd (omega (arith, is, w))
  opaque_in what numbers is (Opaque w are) = are
  opaque_in what numbers is (ScalarsWithin w max ns all e) = absurd (omega (arith, is, w))
  opaque_in what numbers is (ElementsWithin w max xs e) = absurd (omega (arith, is, w))

  pub scalars_within : (what : ℕ) (numbers : List ℕ) → what ≡ 24 → View number order dimension coefficients AreOpaque what numbers →
      (max : ℕ) × ((below : List ℕ) × (All (λ n. n < order) below × (numbers ≡ max ∷ below)))
  scalars_within what numbers is (Single less e) = absurd (omega (arith, is, less))
  scalars_within what numbers is (Marker above less kind kind_less e) = absurd (omega (arith, is, above, less))
  scalars_within what numbers is (Counted above less count e) = absurd (omega (arith, is, above, less))
  scalars_within what numbers is (Bits above less width n e) = absurd (omega (arith, is, above, less))
  scalars_within what numbers is (Scalar w x less e) = absurd (omega (arith, is, w))
  scalars_within what numbers is (Scalars w all) = absurd (omega (arith, is, w))
  scalars_within what numbers is (Element w are) = absurd (omega (arith, is, w))
  scalars_within what numbers is (Elements w xs e) = absurd (omega (arith, is, w))
  scalars_within what numbers is (Opaque w are) = absurd (omega (arith, is, w))
  scalars_within what numbers is (ScalarsWithin w max ns all e) = (max, (ns, (all, e)))
  scalars_within what numbers is (ElementsWithin w max xs e) = absurd (omega (arith, is, w))

  pub elements_within : (what : ℕ) (numbers : List ℕ) → what ≡ 25 → View number order dimension coefficients AreOpaque what numbers →
      (max : ℕ) × ((xs : List EF) × (numbers ≡ max ∷ flat_map (λ x. map number (coefficients x)) xs))
  elements_within what numbers is (Single less e) = absurd (omega (arith, is, less))
  elements_within what numbers is (Marker above less kind kind_less e) = absurd (omega (arith, is, above, less))
  elements_within what numbers is (Counted above less count e) = absurd (omega (arith, is, above, less))
  elements_within what numbers is (Bits above less width n e) = absurd (omega (arith, is, above, less))
  elements_within what numbers is (Scalar w x less e) = absurd (omega (arith, is, w))
  elements_within what numbers is (Scalars w all) = absurd (omega (arith, is, w))
  elements_within what numbers is (Element w are) = absurd (omega (arith, is, w))
  elements_within what numbers is (Elements w xs e) = absurd (omega (arith, is, w))
  elements_within what numbers is (Opaque w are) = absurd (omega (arith, is, w))
  elements_within what numbers is (ScalarsWithin w max ns all e) = absurd (omega (arith, is, w))
  elements_within what numbers is (ElementsWithin w max xs e) = (max, (xs, e))
