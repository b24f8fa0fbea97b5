-- Digests of bytes, and the values of a digest.
use Rattle.std.specs.Prelude.{◌≡◌, ℕ, ◌<◌, List, length, slice_index}
use Rattle.p3_symmetric.specs.declared.hash.Hash.{Hash}

-- a digest of bytes has 32 of them
pub record IsDigest (digest : List ℕ) : Type 0 where
  pub places : length digest ≡ 32
  pub bytes : (i : ℕ) → slice_index digest i < 256

-- the values of a digest
abbrev pub values_of : {F T : Type 0} {N : ℕ} → Hash F T N → List T
values_of digest = digest.value
