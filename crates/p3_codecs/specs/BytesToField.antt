-- An element of a prime field through a challenger of bytes. The bytes of its encoding are observed,
-- and more bytes than that are drawn for it.
use Rattle.std.specs.Prelude.{ℕ, ◌+◌, List}
use Rattle.p3_field_core.specs.Residues.{Residues}
use Rattle.p3_challenger_core.specs.{Observation.{Observation, in_slice, observed_as}, Sampling.{Sampling, made_of}}
use Rattle.p3_fs_core.specs.{BigEndian.{big_endian, bytes_for}, Scalar.wire}
use Rattle.p3_challenger_core.specs.Sampling as sampling

-- the number of bytes drawn for an element: those of an encoding, and 16 more
abbrev pub draw_bytes : ℕ → ℕ
draw_bytes width = width + 16

-- the element that drawn bytes give: their number modulo the order
abbrev pub challenge_of : {F : Type 0} → Residues F → List ℕ → F
challenge_of r bytes = r.of (big_endian bytes)

-- an element is observed as the bytes of its encoding, in one slice
abbrev pub observed_bytes : {F S Symbol : Type 0} → Residues F → ℕ → Observation S Symbol ℕ →
    (S → List ℕ → S → Type 0) → Observation S Symbol F
observed_bytes r bits byte slice_may_leave = observed_as (wire r (bytes_for bits)) (in_slice byte slice_may_leave)

-- an element is drawn as the number of n bytes
abbrev pub drawn_bytes : {F S : Type 0} → Residues F → ℕ → Sampling S ℕ → Sampling S F
drawn_bytes r bits byte = made_of (challenge_of r) (sampling.in_row byte (draw_bytes (bytes_for bits)))
