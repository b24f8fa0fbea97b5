-- The demo protocol as a script.
use Rattle.std.specs.{declared.alloc.Global.Global, Borrow.Bor, Prelude.{◌≡◌, ℕ, List, [], ◌∷◌, Vec, codes}}
use Rattle.p3_challenger.specs.{Sha256Hasher.Sha256Hasher, FieldUnit.FieldUnit, Both.Both}
use Rattle.p3_challenger.specs.{FieldToFieldCodec.FieldToFieldCodec, AcceptAll.AcceptAll, Hash.Hash}
use Rattle.p3_challenger.specs.{DuplexCalls.fresh, DuplexState.DuplexState}
use Rattle.p3_field.specs.{Coeffs.Coeffs, BabyBearResidues.{BabyBear, residues}}
use Rattle.p3_poseidon2.specs.declared.poseidon2.Poseidon2.{Poseidon2}
use Rattle.uses.specs.declared.demo_script.Demo.{Demo}
use Rattle.p3_challenger.specs.Kind.TheVariants as kind
use Rattle.p3_challenger.specs.Step as script
use Rattle.p3_challenger.specs.Step.TheVariants as step

-- Poseidon2 with sixteen cells, and a challenger over it
abbrev pub Permutation : Type 0
Permutation = Poseidon2 BabyBear 16 7 13

abbrev pub ScriptChallenger : Type 0
ScriptChallenger = DuplexState BabyBear Permutation

-- a challenger that has observed nothing, with a limit of 1000 candidates for uniform bits
abbrev pub fresh_challenger : Permutation → ScriptChallenger
fresh_challenger permutation = record { sponge = fresh residues 16; permutation = permutation; draw_limit = 1000 }

-- a step of the script
abbrev pub ScriptStep : Type 0
ScriptStep =
    script.Step Demo BabyBear (Coeffs BabyBear 4) (FieldUnit BabyBear) (Hash BabyBear BabyBear 8) ScriptChallenger
    (FieldToFieldCodec BabyBear) AcceptAll Sha256Hasher Both BabyBear ScriptChallenger BabyBear

-- a label with this text
pub record Labelled (text : List ℕ) : Type 0 where
  pub label : Bor (List ℕ)
  pub says : label.now ≡ text

-- the steps with these numbers
pub record AreDemoSteps (inputs : Vec BabyBear Global) (steps : List ScriptStep) : Type 0 where
  pub opener : Labelled (codes "demo")
  pub numbers : Labelled (codes "inputs")
  pub salt : Labelled (codes "salt")
  pub values : Labelled (codes "values")
  pub work : Labelled (codes "work")
  pub alpha : Labelled (codes "alpha")
  pub note : Labelled (codes "note")
  pub indices : Labelled (codes "indices")
  pub closer : Labelled (codes "demo")
  pub are : steps ≡ step.Begin opener.label kind.Protocol
      ∷ step.PublicScalarsBounded numbers.label inputs 4
      ∷ step.Salt salt.label 8
      ∷ step.ScalarsBounded values.label 4
      ∷ step.Pow work.label 8
      ∷ step.ChallengeScalar alpha.label
      ∷ step.HintBounded note.label 16
      ∷ step.ChallengeUniformBits indices.label 4 2
      ∷ step.End closer.label kind.Protocol
      ∷ []
