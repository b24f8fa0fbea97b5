-- The protocol that the program shows.
use Rattle.std.specs.Prelude.{ℕ, List, [], ◌∷◌, ◌++◌, codes}
use Rattle.hex.specs.Hex.{encode_lower}
use Rattle.sha2.specs.Sha256.{sha256}
use Rattle.p3_challenger.specs.{Hierarchy.Hierarchy, Hierarchy.TheVariants.{Atomic, Begin, End}, Kind.Kind}
use Rattle.p3_challenger.specs.{Kind.TheVariants.{Protocol, Public, Message, Hint, Challenge, Pow, Salt}, Length.Length}
use Rattle.p3_challenger.specs.{Length.TheVariants.{Scalar, Fixed, Bounded}, Rendering.rendering}
use Rattle.p3_challenger.specs.TypeTag.TheVariants.{Bytes, Algebra, UniformBits}
use Rattle.p3_challenger.specs.Steps.{Step, step_with, marker_of, alternate_text}

-- the opener or the closer of the whole protocol
abbrev pub container : Hierarchy → Step
container hierarchy = marker_of hierarchy Protocol (codes "demo") (codes "()")

-- elements of the field of order 15 * 2 ^ 27 + 1
abbrev pub scalars : Kind → List ℕ → Length → Step
scalars kind label length =
    step_with Atomic kind label (Algebra 2013265921 1 (sha256 (codes "prime:2013265921"))) (codes "BabyBear") length

abbrev pub bytes : Kind → List ℕ → Length → Step
bytes kind label length = step_with Atomic kind label Bytes (codes "u8") length

-- numbers of four bits
abbrev pub indices : Step
indices = step_with Atomic Challenge (codes "indices") (UniformBits 4) (codes "usize") (Fixed 2)

-- its steps
abbrev pub demo_steps : List Step
demo_steps =
    container Begin
    ∷ scalars Public (codes "inputs") (Bounded 4)
    ∷ bytes Salt (codes "salt") (Fixed 8)
    ∷ scalars Message (codes "values") (Bounded 4)
    ∷ scalars Pow (codes "work") (Fixed 8)
    ∷ scalars Challenge (codes "alpha") Scalar
    ∷ bytes Hint (codes "note") (Bounded 16)
    ∷ indices
    ∷ container End
    ∷ []

-- what the program prints of it: the text that is hashed, and a line with its digest
abbrev pub demo_text : List ℕ
demo_text =
    rendering alternate_text demo_steps
    ++ (codes "digest " ++ (encode_lower (sha256 (rendering alternate_text demo_steps)) ++ 10 ∷ []))
