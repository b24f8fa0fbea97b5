-- The parts of a separator.
use Rattle.std.specs.{Prelude.{◌≡◌, ℕ, ◌≤◌, ◌<◌, ◌^◌, List, length}, List.All}
use Rattle.p3_challenger_core.specs.Reading.{AreBytes}
use Rattle.p3_patterns.specs.PatternSteps.{PatternSteps}
use Rattle.p3_domain_separator.specs.Seed.{identifier, label_of, FitsCount}

-- the bytes are the identifier of a protocol, with a version and a name of 1 to 62 bytes
pub record IsIdentifier (protocol_id : List ℕ) : Type 0 where
  pub version : ℕ
  pub name : List ℕ
  pub encoded : protocol_id ≡ identifier version name
  pub version_fits : version < 256
  pub named : 1 ≤ length name
  pub short : length name ≤ 62
  pub bytes : AreBytes name

-- the bytes are the label of an instance, whose chunks have lengths that fit in four bytes
pub record IsLabel (label : List ℕ) : Type 0 where
  pub chunks : List (List ℕ)
  pub encoded : label ≡ label_of chunks
  pub counted : All FitsCount chunks
  pub bytes : All AreBytes chunks

-- a separator: the version and the name of a protocol, the chunks of an instance's label, and a pattern
pub record Separator : Type 0 where
  pub version : ℕ
  pub name : List ℕ
  pub chunks : List (List ℕ)
  pub pattern : PatternSteps

-- a separator as it is held: its identifier and its label as bytes, and its pattern
pub record HeldSeparator : Type 0 where
  pub protocol_id : List ℕ
  pub label : List ℕ
  pub pattern : PatternSteps
  pub is_identifier : IsIdentifier protocol_id
  pub is_label : IsLabel label
  pub label_fits : length label < 2 ^ 32

-- the separator that is held
abbrev pub contents_of : HeldSeparator → Separator
contents_of held =
    let id = held.is_identifier in
    record { version = id.version; name = id.name; chunks = held.is_label.chunks; pattern = held.pattern }
