-- What the arguments of a command line ask for.
use Rattle.std.specs.{Prelude.{◌≡◌, ℕ, ◌≤◌, ◌==◌, ◌⊎◌, List, [], ◌∷◌, length, codes, Ok}, List.slice_split}
use Rattle.std.specs.Str.Parse.{IsNumeral, digits_value}
use Rattle.hex.specs.Hex.{decode_sized}
use Rattle.p3_field.specs.BabyBearResidues.{BabyBear, residues}
use Rattle.transcript_program.specs.declared.arguments.{Request.{Request, TheVariants.First}, ToProve.ToProve}
use Rattle.transcript_program.specs.declared.arguments.Request.TheVariants.{DemoPattern, Prove, Verify}

-- a text writes a scalar: decimal digits, with any number of zeros in front
pub record IsScalarText (text : List ℕ) (x : BabyBear) : Type 0 where
  pub digits : IsNumeral 10 text
  pub value : digits_value 10 text ≡ residues.number x

-- one text, which writes a scalar
abbrev pub IsOneScalar : List (List ℕ) → BabyBear → Type 0
IsOneScalar (text ∷ []) x = IsScalarText text x
IsOneScalar _ x = ⊥

-- texts write scalars, one each
abbrev pub AreScalarTexts : List (List ℕ) → List BabyBear → Type 0
AreScalarTexts [] [] = Unit {0}
AreScalarTexts (text ∷ texts) (x ∷ xs) = IsScalarText text x × AreScalarTexts texts xs
AreScalarTexts _ _ = ⊥

-- the parts of a text write scalars, one each; commas stand between them
abbrev pub IsCommaText : List ℕ → List BabyBear → Type 0
IsCommaText text xs = AreScalarTexts (slice_split (λ byte. byte == 44) text) xs

-- a text writes a public list of at most 4 scalars: `-` the empty one
abbrev pub IsListText : List ℕ → List BabyBear → Type 0
IsListText text xs = ((text ≡ codes "-") × (xs ≡ [])) ⊎ (IsCommaText text xs × (length xs ≤ 4))

-- one text, which writes such a list
abbrev pub IsOneList : List (List ℕ) → List BabyBear → Type 0
IsOneList (text ∷ []) xs = IsListText text xs
IsOneList _ xs = ⊥

-- a text is a salt in hexadecimal: two digits for each of its 8 bytes
abbrev pub IsSaltText : List ℕ → List ℕ → Type 0
IsSaltText text salt = decode_sized text 8 ≡ Ok salt

-- a public list, a salt, a note of at most 16 bytes, and at most 4 values
pub record IsToProve (inputs salt note : List ℕ) (values : List (List ℕ)) (ask : ToProve) : Type 0 where
  pub inputs_are : IsListText inputs ask.inputs.items
  pub salt_is : IsSaltText salt ask.salt
  pub note_is : ask.note.now ≡ note
  pub note_is_short : length note ≤ 16
  pub values_are : AreScalarTexts values ask.values.items
  pub values_are_few : length values ≤ 4

abbrev pub AreToProve : List (List ℕ) → ToProve → Type 0
AreToProve (inputs ∷ salt ∷ note ∷ values) ask = IsToProve inputs salt note values ask
AreToProve _ ask = ⊥

-- the arguments of a command line ask for this
abbrev pub Asks : List (List ℕ) → Request → Type 0
Asks [] request = ⊥
Asks (argument ∷ arguments) (First x) = (argument ≡ codes "first") × IsOneScalar arguments x
Asks (argument ∷ arguments) DemoPattern = (argument ≡ codes "pattern") × (arguments ≡ [])
Asks (argument ∷ arguments) (Prove ask) = (argument ≡ codes "prove") × AreToProve arguments ask
Asks (argument ∷ arguments) (Verify inputs) = (argument ≡ codes "verify") × IsOneList arguments inputs.items
