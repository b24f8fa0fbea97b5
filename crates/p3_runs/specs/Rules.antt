-- What the definitions of a script take from its suite.
use Rattle.std.specs.Prelude.{ℕ, List}
use Rattle.p3_field_core.specs.Residues.{Residues}
use Rattle.p3_challenger_core.specs.{Observation.Observation, Sampling.Sampling}
use Rattle.p3_fs_core.specs.{Encoding.Encoding, Steps.NamedAlgebra, Alphabet.Alphabet}
use Rattle.p3_driver_core.specs.Rejecting.{Rule}

-- the coding of a type: its name in steps, and the encoding, observation, draw and coefficients of its values
pub record Coding (S Symbol F A : Type 0) : Type 1 where
  pub algebra : NamedAlgebra
  pub coefficients : A → List F
  pub encoding : Encoding A
  pub observation : Observation S Symbol A
  pub sampling : Sampling S A

-- the proofs of work of a group: the draw before a witness, its observation, and the states from which a search
-- may run out of memory
pub record Grinding (S Symbol F : Type 0) : Type 1 where
  pub is_there : Type 0
  pub before_witness : Sampling S (Unit {0})
  pub witness : Observation S Symbol F
  pub may_run_out : S → Type 0

-- how a group of steps draws bits: the greatest number at once, and whether it has uniform ones
pub record BitDraws (S : Type 0) : Type 1 where
  pub most : ℕ
  pub are_there : Type 0
  pub are_uniform : Type 0
  pub plain : ℕ → Sampling S ℕ
  pub uniform : ℕ → Sampling S ℕ

-- the properties of a suite's types and of its challenger
pub record Rules (S Symbol I F EF O Ac : Type 0) : Type 1 where
  pub marker_name : List ℕ
  pub is_secure : Type 0
  pub scalar : Coding S Symbol F F
  pub extension : Coding S Symbol F EF
  pub alphabet : Alphabet S Symbol I
  pub opaque : Observation S Symbol O
  pub IsOwn : O → Type 0
  pub accepts_extension : Ac → Rule EF
  pub accepts_bits : Ac → Rule ℕ
  pub residues : Residues F
  pub witness_encoding : Encoding F
  pub bits : BitDraws S
  pub grinding : Grinding S Symbol F
  pub digest_of : List ℕ → List ℕ
