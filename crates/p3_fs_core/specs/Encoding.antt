-- The encoding of a type's values in the proof: a prefix code of one width.
use Rattle.std.specs.Prelude.{◌≡◌, ℕ, List, ◌++◌, length, Result, Ok}
use Rattle.p3_challenger_core.specs.Reading.{IsPrefixCode, AreBytes}

-- An encoding: its width in bytes, the bytes of a value, and the reading at the head of bytes. Reading gives a value
-- and the bytes after it, or the reason why there is none.
pub record Encoding (T : Type 0) : Type 0 where
  pub width : ℕ
  pub wire : T → List ℕ
  pub read : List ℕ → Result (T × List ℕ) (List ℕ)

-- All encodings have the width and form a prefix code. An encoded value is read back, whatever follows, and a value
-- that is read has these bytes as its encoding.
pub record IsEncoding {T : Type 0} (e : Encoding T) : Type 0 where
  pub fixed_width : (x : T) → length (e.wire x) ≡ e.width
  pub prefix_code : IsPrefixCode e.wire
  pub reads_back : (x : T) (rest : List ℕ) → e.read (e.wire x ++ rest) ≡ Ok (x, rest)
  pub only_reads : (bytes : List ℕ) (x : T) (rest : List ℕ) → AreBytes bytes → e.read bytes ≡ Ok (x, rest) →
      bytes ≡ e.wire x ++ rest
