-- Worked rows, computed on the definitions.
use Rattle.std.{proofs.Common.{◌≡◌, [], ◌∷◌, codes, refl}, specs.Fmt.digits}
use Rattle.p3_fs_core.specs.{BigEndian.{in_bytes, bytes_for}, Packing.chunk_bytes, declared.step.Hierarchy.Hierarchy}
use Rattle.p3_fs_core.specs.Steps.{Step, step_with, marker_of, plain_text, alternate_text}
use Rattle.p3_fs_core.specs.declared.step.{Hierarchy.TheVariants.{Atomic, Begin, End}, Length.TheVariants.Scalar}
use Rattle.p3_fs_core.specs.declared.step.{Kind.TheVariants.{Protocol, Message}, TypeTag.TheVariants.Opaque}

-- how many bytes an element takes, and how many a chunk has
widths : (bytes_for 31 ≡ 4) × (bytes_for 64 ≡ 8) × (bytes_for 9 ≡ 2)
widths = (refl, refl, refl)

chunk_widths : (chunk_bytes 31 ≡ 3) × (chunk_bytes 64 ≡ 7) × (chunk_bytes 9 ≡ 1)
chunk_widths = (refl, refl, refl)

-- a count of three bytes
counted : in_bytes 3 0x010203 ≡ 1 ∷ 2 ∷ 3 ∷ []
counted = refl

-- ---- the texts of steps

-- a marker of the type (), and an opaque value
abbrev outer : Hierarchy → Step
outer hierarchy = marker_of hierarchy Protocol (codes "outer") (codes "()")

abbrev commit : Step
commit = step_with Atomic Message (codes "commit") Opaque (codes "opaque") Scalar

plain_texts : (plain_text (outer Begin) ≡ codes "Begin Protocol outer None ()")
    × (plain_text commit ≡ codes "Atomic Message commit Scalar opaque")
plain_texts = (refl, refl)

alternate_texts : (alternate_text (outer End) ≡ codes "End Protocol 5 outer None Marker")
    × (alternate_text commit ≡ codes "Atomic Message 6 commit Scalar Opaque")
unfolding digits
alternate_texts = (refl, refl)
