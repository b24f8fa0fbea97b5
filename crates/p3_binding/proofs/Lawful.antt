-- What a suite promises of what is fed.
use Rattle.std.proofs.Common.{◌≡◌, ℕ, ◌<◌, ◌≤◌, ◌^◌, List, ◌++◌, length, flat_map}
use Rattle.p3_challenger_core.specs.Reading.{AreBytes, OneBegins, IsPrefixCode, IsPrefixCodeOn}
use Rattle.p3_fs_core.specs.BigEndian.{count_bytes}
use Rattle.p3_runs.specs.Rules.{Rules, Coding}

module _ {S Symbol I F EF O Ac : Type 0} (rules : Rules S Symbol I F EF O Ac) where
  -- a value feeds its coefficients, as many as its algebra says
  pub record LawfulCoding {A : Type 0} (c : Coding S Symbol F A) : Type 0 where
    pub feeds : (x : A) → c.observation.symbols x ≡ flat_map rules.scalar.observation.symbols (c.coefficients x)
    pub places : (x : A) → length (c.coefficients x) ≡ c.algebra.degree

  -- what a byte string feeds
  abbrev pub bytes_symbols : List ℕ → List Symbol
  bytes_symbols bytes = flat_map rules.alphabet.item.symbols (rules.alphabet.items bytes)

  abbrev pub IsShort : List ℕ → Type 0
  IsShort bytes = rules.alphabet.is_too_long (length bytes) → ⊥

  pub record Lawful : Type 0 where
    -- byte strings whose symbols begin the same begin one another
    pub begins : (a b : List ℕ) (x y : List Symbol) → AreBytes a → AreBytes b → IsShort a → IsShort b →
        bytes_symbols a ++ x ≡ bytes_symbols b ++ y → OneBegins a b × (a ≡ b → x ≡ y)
    pub short : (len : ℕ) → len ≤ 255 → rules.alphabet.is_too_long len → ⊥
    pub coefficients : IsPrefixCode rules.scalar.observation.symbols
    pub scalar : LawfulCoding rules.scalar
    pub extension : LawfulCoding rules.extension
    pub opaque : IsPrefixCodeOn rules.IsOwn rules.opaque.symbols
    pub witness : rules.grinding.is_there → IsPrefixCode rules.grinding.witness.symbols
    pub counts : (max count other : ℕ) → max < 2 ^ 64 → count ≤ max → other ≤ max →
        count_bytes max count ≡ count_bytes max other → count ≡ other
