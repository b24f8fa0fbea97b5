-- A verifier reads what a prover writes, and only in one encoding.
use Rattle.std.specs.Prelude.{◌≡◌, ℕ, List, ◌++◌, Ok}
use Rattle.p3_driver_core.specs.{Transcripts.Meaning, Reads.Reading}
use Rattle.p3_challenger_core.specs.Reading.{AreBytes}

-- A reading step mirrors a sending step. Both have the same next step in the pattern. From the bytes that the sending
-- step writes, whatever follows them, the reading step reads the value and leaves the rest. Both steps have the same
-- effect on the challenger.
pub record ReadsBack {S Symbol A : Type 0} (m : Meaning S Symbol A) (r : Reading S Symbol A) (x : A) : Type 0 where
  pub interaction : r.interaction ≡ m.interaction
  pub reads_back : (rest : List ℕ) → r.read (m.wire ++ rest) ≡ Ok (x, rest)
  pub gives : (s : S) → (r.effect x).gives s ≡ m.effect.gives s
  pub after : (s : S) → (r.effect x).after s ≡ m.effect.after s

-- if a step reads one value, each value of its type fits
abbrev pub AnyValue : {A : Type 0} → A → Type 0
AnyValue x = Unit {0}

-- A reading step accepts only one encoding. A value that it reads fits. The bytes that it consumes are those that a
-- prover's step writes for the value, and the rest are bytes too.
pub record OnlyReads {S Symbol A : Type 0} (r : Reading S Symbol A) (Fits : A → Type 0) (sent : A → Meaning S Symbol A)
    : Type 0 where
  pub fits : (bytes : List ℕ) (x : A) (rest : List ℕ) → AreBytes bytes → r.read bytes ≡ Ok (x, rest) → Fits x
  pub encoded : (bytes : List ℕ) (x : A) (rest : List ℕ) → AreBytes bytes → r.read bytes ≡ Ok (x, rest) →
      bytes ≡ (sent x).wire ++ rest
  pub bytes_left : (bytes : List ℕ) (x : A) (rest : List ℕ) → AreBytes bytes → r.read bytes ≡ Ok (x, rest) →
      AreBytes rest
