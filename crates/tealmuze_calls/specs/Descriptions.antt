-- What the bytes of a description describe.
use Rattle.std.specs.Prelude.{◌≡◌, ℕ, List, [], ◌∷◌, ◌++◌, map, flat_map}
use Rattle.std.specs.{List.All, Str.IsUtf8}
use Rattle.p3_challenger.specs.{Separators.{HeldSeparator, contents_of}}
use Rattle.p3_challenger.specs.Kind.{Kind}
use Rattle.p3_challenger.specs.PatternSteps.{steps_of}
use Rattle.p3_challenger.specs.{Rules.Rules, Runs.{AreAdmitted, interactions}}
use Rattle.p3_challenger.specs.Scripts.{play_of}
use Rattle.tealmuze_calls.specs.Forms.{listed_bytes}
use Rattle.tealmuze_calls.specs.Readings.{Parts, parts_bytes, Reading, reading_bytes, FitsWord, IsListHeld, IsHeld, AreTexts}
use Rattle.p3_challenger.specs.Kind.TheVariants as kind
use Rattle.p3_challenger.specs.Step as script
use Rattle.p3_challenger.specs.Step.TheVariants as step

-- what a container is of
abbrev pub kind_number : Kind → ℕ
kind_number kind.Protocol = 0
kind_number kind.Public = 1
kind_number kind.Message = 2
kind_number kind.Hint = 3
kind_number kind.Challenge = 4
kind_number kind.Pow = 5
kind_number kind.Salt = 6

-- an element of the extension: the numbers of its coefficients
abbrev pub element_numbers : {F EF : Type 0} → (F → ℕ) → (EF → List F) → EF → List ℕ
element_numbers number coefficients x = map number (coefficients x)

module _ {Su F EF U O C K Ac D G It St Sy : Type 0} (number : F → ℕ) (coefficients : EF → List F)
    (opaque_numbers : O → List ℕ) where
  abbrev pub parts_of : script.Step Su F EF U O C K Ac D G It St Sy → Parts
  parts_of (step.Scalar label) = record { what = 0; label = label.now; numbers = [] }
  parts_of (step.Extension label) = record { what = 1; label = label.now; numbers = [] }
  parts_of (step.ChallengeScalar label) = record { what = 2; label = label.now; numbers = [] }
  parts_of (step.ChallengeExtension label) = record { what = 3; label = label.now; numbers = [] }
  parts_of (step.Begin label kind) = record { what = 4; label = label.now; numbers = kind_number kind ∷ [] }
  parts_of (step.End label kind) = record { what = 5; label = label.now; numbers = kind_number kind ∷ [] }
  parts_of (step.Salt label len) = record { what = 6; label = label.now; numbers = len ∷ [] }
  parts_of (step.Bytes label len) = record { what = 7; label = label.now; numbers = len ∷ [] }
  parts_of (step.Hint label len) = record { what = 8; label = label.now; numbers = len ∷ [] }
  parts_of (step.BytesBounded label max) = record { what = 9; label = label.now; numbers = max ∷ [] }
  parts_of (step.HintBounded label max) = record { what = 10; label = label.now; numbers = max ∷ [] }
  parts_of (step.Scalars label n) = record { what = 11; label = label.now; numbers = n ∷ [] }
  parts_of (step.ScalarsBounded label max) = record { what = 12; label = label.now; numbers = max ∷ [] }
  parts_of (step.ChallengeScalars label n) = record { what = 13; label = label.now; numbers = n ∷ [] }
  parts_of (step.ChallengeExtensions label n) = record { what = 14; label = label.now; numbers = n ∷ [] }
  parts_of (step.Pow label bits) = record { what = 15; label = label.now; numbers = bits ∷ [] }
  parts_of (step.ObservePow label bits) = record { what = 16; label = label.now; numbers = bits ∷ [] }
  parts_of (step.ChallengeBits label width n) = record { what = 17; label = label.now; numbers = width ∷ n ∷ [] }
  parts_of (step.ChallengeUniformBits label width n) = record { what = 18; label = label.now; numbers = width ∷ n ∷ [] }
  parts_of (step.PublicScalar label x) = record { what = 19; label = label.now; numbers = number x ∷ [] }
  parts_of (step.PublicScalars label xs) = record { what = 20; label = label.now; numbers = map number xs.items }
  parts_of (step.ObserveExtension label x) = record { what = 21; label = label.now; numbers = element_numbers number coefficients x }
  parts_of (step.ObserveExtensions label xs) =
      record { what = 22; label = label.now; numbers = flat_map (element_numbers number coefficients) xs.items }
  parts_of (step.Opaque label x) = record { what = 23; label = label.now; numbers = opaque_numbers x }
  parts_of (step.PublicScalarsBounded label xs max) =
      record { what = 24; label = label.now; numbers = max ∷ map number xs.items }
  parts_of (step.ObserveExtensionsBounded label xs max) =
      record { what = 25; label = label.now; numbers = max ∷ flat_map (element_numbers number coefficients) xs.items }
  -- a draw that may be rejected has a rule that is code
  parts_of (step.ChallengeExtensionsRejecting label n accept limit) = record { what = 26; label = []; numbers = [] }
  parts_of (step.ChallengeUniformBitsRejecting label width n accept limit) = record { what = 26; label = []; numbers = [] }

  abbrev pub step_bytes : script.Step Su F EF U O C K Ac D G It St Sy → List ℕ
  step_bytes s = parts_bytes (parts_of s)

  -- its label is a text
  abbrev pub HasText : script.Step Su F EF U O C K Ac D G It St Sy → Type 0
  HasText s = IsUtf8 (parts_of s).label

  -- a step's numbers, and how many they are, have a form of 8 bytes
  abbrev pub HasHeldParts : script.Step Su F EF U O C K Ac D G It St Sy → Type 0
  HasHeldParts s = IsListHeld FitsWord (parts_of s).numbers

  -- what a description says of a protocol
  abbrev pub reading_of : HeldSeparator → List (script.Step Su F EF U O C K Ac D G It St Sy) → Reading
  reading_of separator steps = let s = contents_of separator in
      record { version = s.version; name = s.name; chunks = s.chunks; steps = map parts_of steps }

module _ {Su F EF U O C K Ac D G It St Sy : Type 0} (number : F → ℕ) (coefficients : EF → List F)
    (opaque_numbers : O → List ℕ) (AreOpaque : List ℕ → Type 0) where
  -- the step has a form: an opaque value is one by its numbers, and no rule is code
  abbrev pub HasForm : script.Step Su F EF U O C K Ac D G It St Sy → Type 0
  HasForm (step.ChallengeExtensionsRejecting label n accept limit) = ⊥
  HasForm (step.ChallengeUniformBitsRejecting label width n accept limit) = ⊥
  HasForm (step.Opaque label x) = AreOpaque (opaque_numbers x)
  HasForm _ = Unit {0}

  -- the step has a form, and these are its parts
  pub record IsReadAs (what : ℕ) (label numbers : List ℕ) (s : script.Step Su F EF U O C K Ac D G It St Sy) : Type 0 where
    pub formed : HasForm s
    pub what_is : (parts_of number coefficients opaque_numbers s).what ≡ what
    pub label_is : (parts_of number coefficients opaque_numbers s).label ≡ label
    pub numbers_are : (parts_of number coefficients opaque_numbers s).numbers ≡ numbers

  -- some bytes begin with those of a step, and these come after it; and with those of steps, after their number
  pub record IsRead (bytes left : List ℕ) (s : script.Step Su F EF U O C K Ac D G It St Sy) : Type 0 where
    pub formed : HasForm s
    pub text : HasText number coefficients opaque_numbers s
    pub held : HasHeldParts number coefficients opaque_numbers s
    pub begins : bytes ≡ step_bytes number coefficients opaque_numbers s ++ left

  pub record AreRead (bytes left : List ℕ) (steps : List (script.Step Su F EF U O C K Ac D G It St Sy)) : Type 0 where
    pub formed : All HasForm steps
    pub texts : All (HasText number coefficients opaque_numbers) steps
    pub held : IsListHeld (HasHeldParts number coefficients opaque_numbers) steps
    pub begins : bytes ≡ listed_bytes (step_bytes number coefficients opaque_numbers) steps ++ left

  -- The bytes after the suite describe these steps under this separator: they say its version, its name, the chunks of
  -- its instance's label, and the steps, each of which has a form and may be played; its pattern is theirs. The name and
  -- the labels are texts.
  pub record Describes (rules : Rules St Sy It F EF O Ac) (bytes : List ℕ) (separator : HeldSeparator)
      (steps : List (script.Step Su F EF U O C K Ac D G It St Sy)) : Type 0 where
    pub encoded : bytes ≡ reading_bytes (reading_of number coefficients opaque_numbers separator steps)
    pub texts : AreTexts (reading_of number coefficients opaque_numbers separator steps)
    pub held : IsHeld (reading_of number coefficients opaque_numbers separator steps)
    pub formed : All HasForm steps
    pub played : interactions (play_of rules) steps ≡ steps_of (contents_of separator).pattern
    pub admitted : AreAdmitted (play_of rules) steps
