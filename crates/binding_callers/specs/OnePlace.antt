-- What equal symbols say of one place of two runs: that a step absorbed the same there, kind by kind.
use Rattle.std.specs.{declared.alloc.Global.Global, Borrow.Bor}
use Rattle.std.specs.Prelude.{◌≡◌, ◌⊎◌, ◌≤◌, ℕ, List, Vec, Some, length, slice_get}
use Rattle.p3_challenger.specs.{Binding.{Collide, FeedTheSame, alternate_rendering}, Fronts.{Run, pattern}, Plays.Play}
use Rattle.p3_challenger.specs.{Rules.Rules, Scripts.play_of, Values.Value}
use Rattle.p3_challenger.specs.Step as script
use Rattle.p3_challenger.specs.Step.TheVariants as step
use Rattle.p3_challenger.specs.Values as value

-- at this place of the run stands this step, with this value
pub record StandsAt {X F EF S : Type 0} (place : ℕ) (run : Run X F EF S) (x : X) (v : Value F EF) : Type 0 where
  pub step_is : slice_get run.steps place ≡ Some x
  pub value_is : slice_get run.values place ≡ Some v

-- two lists are equally long, and the same
pub record SameList {A : Type 0} (xs ys : List A) : Type 0 where
  pub lengths : length xs ≡ length ys
  pub lists : xs ≡ ys

-- Equal symbols tell this of two steps with their values: wherever two runs feed the same symbols, and these stand at one
-- place of them, it is so, unless the renderings of the patterns collide.
abbrev pub SymbolsTell : {X S Symbol I F EF O Ac : Type 0} → Rules S Symbol I F EF O Ac →
    (X → Play S Symbol F EF O) → X → Value F EF → X → Value F EF → Type 0 → Type 0
SymbolsTell {X} {S} {Symbol} {I} {F} {EF} rules play a v b w Same =
    (x y : Run X F EF S) (place : ℕ) → FeedTheSame rules play x y → StandsAt place x a v → StandsAt place y b w →
    Same ⊎ Collide rules.digest_of (alternate_rendering (pattern x)) (alternate_rendering (pattern y))

module _ {S Symbol I F EF O Ac : Type 0} (Su U C K D G It St Sy : Type 0) (rules : Rules S Symbol I F EF O Ac) where
  abbrev Step : Type 0
  Step = script.Step Su F EF U O C K Ac D G It St Sy

  abbrev Label : Type 0
  Label = Bor (List ℕ)

  abbrev Told : Step → Value F EF → Step → Value F EF → Type 0 → Type 0
  Told = SymbolsTell rules (play_of rules)

  -- what both sides know: a public value; a public list, and one after its count, with their lengths
  abbrev pub PublicValuesAreTold : Type 0
  PublicValuesAreTold = (l m : Label) (a b : F) →
      Told (step.PublicScalar l a) value.Nothing (step.PublicScalar m b) value.Nothing (a ≡ b)

  abbrev pub PublicListsAreTold : Type 0
  PublicListsAreTold = (l m : Label) (xs ys : Vec F Global) →
      Told (step.PublicScalars l xs) value.Nothing (step.PublicScalars m ys) value.Nothing (SameList xs.items ys.items)

  abbrev pub CountedPublicListsAreTold : Type 0
  CountedPublicListsAreTold = (l m : Label) (xs ys : Vec F Global) (max most : ℕ) →
      Told (step.PublicScalarsBounded l xs max) value.Nothing (step.PublicScalarsBounded m ys most) value.Nothing
      (SameList xs.items ys.items)

  -- an element of the extension that the proof does not carry; a list of such, and one after its count
  abbrev pub ElementsAreTold : Type 0
  ElementsAreTold = (l m : Label) (a b : EF) →
      Told (step.ObserveExtension l a) value.Nothing (step.ObserveExtension m b) value.Nothing (a ≡ b)

  abbrev pub ElementListsAreTold : Type 0
  ElementListsAreTold = (l m : Label) (xs ys : Vec EF Global) →
      Told (step.ObserveExtensions l xs) value.Nothing (step.ObserveExtensions m ys) value.Nothing
      (SameList xs.items ys.items)

  abbrev pub CountedElementListsAreTold : Type 0
  CountedElementListsAreTold = (l m : Label) (xs ys : Vec EF Global) (max most : ℕ) →
      Told (step.ObserveExtensionsBounded l xs max) value.Nothing (step.ObserveExtensionsBounded m ys most) value.Nothing
      (SameList xs.items ys.items)

  -- a value of the type that the challenger itself knows how to observe
  abbrev pub OpaqueValuesAreTold : Type 0
  OpaqueValuesAreTold = (l m : Label) (a b : O) →
      Told (step.Opaque l a) value.Nothing (step.Opaque m b) value.Nothing (a ≡ b)

  -- what the proof carries: a scalar; a list of scalars, and one after its count, with their lengths
  abbrev pub ScalarsAreTold : Type 0
  ScalarsAreTold = (l m : Label) (a b : F) →
      Told (step.Scalar l) (value.Scalar a) (step.Scalar m) (value.Scalar b) (a ≡ b)

  abbrev pub ScalarListsAreTold : Type 0
  ScalarListsAreTold = (l m : Label) (len n : ℕ) (xs ys : List F) →
      Told (step.Scalars l len) (value.Scalars xs) (step.Scalars m n) (value.Scalars ys) (SameList xs ys)

  abbrev pub CountedScalarListsAreTold : Type 0
  CountedScalarListsAreTold = (l m : Label) (max most : ℕ) (xs ys : List F) →
      Told (step.ScalarsBounded l max) (value.Scalars xs) (step.ScalarsBounded m most) (value.Scalars ys) (SameList xs ys)

  -- an element of the extension
  abbrev pub SentElementsAreTold : Type 0
  SentElementsAreTold = (l m : Label) (a b : EF) →
      Told (step.Extension l) (value.Extension a) (step.Extension m) (value.Extension b) (a ≡ b)

  -- a salt; a message, and one after its count
  abbrev pub SaltsAreTold : Type 0
  SaltsAreTold = (l m : Label) (len n : ℕ) (a b : List ℕ) →
      Told (step.Salt l len) (value.Bytes a) (step.Salt m n) (value.Bytes b) (a ≡ b)

  abbrev pub MessagesAreTold : Type 0
  MessagesAreTold = (l m : Label) (len n : ℕ) (a b : List ℕ) →
      Told (step.Bytes l len) (value.Bytes a) (step.Bytes m n) (value.Bytes b) (a ≡ b)

  abbrev pub CountedMessagesAreTold : Type 0
  CountedMessagesAreTold = (l m : Label) (max most : ℕ) (a b : List ℕ) →
      Told (step.BytesBounded l max) (value.Bytes a) (step.BytesBounded m most) (value.Bytes b) (a ≡ b)

  -- the witness of at least one bit, which the proof carries, or the caller
  abbrev pub WitnessesAreTold : Type 0
  WitnessesAreTold = (l m : Label) (bits n : ℕ) (a b : F) → 1 ≤ bits →
      Told (step.Pow l bits) (value.Witness a) (step.Pow m n) (value.Witness b) (a ≡ b)

  abbrev pub CarriedWitnessesAreTold : Type 0
  CarriedWitnessesAreTold = (l m : Label) (bits n : ℕ) (a b : F) → 1 ≤ bits →
      Told (step.ObservePow l bits) (value.Witness a) (step.ObservePow m n) (value.Witness b) (a ≡ b)
