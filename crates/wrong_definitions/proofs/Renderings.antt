-- Renderings of a pattern, each with one thing left out, of which two different patterns have the same.
use Rattle.std.proofs.Common.{◌≡◌, ◌↔◌, ℕ, ◌<◌, ◌^◌, true, List, [], ◌∷◌, ◌++◌, length, codes, refl, ap, arith, lit<}
use Rattle.std.specs.Fmt.{decimal, digits}
use Rattle.p3_fs_core.specs.declared.step.{Hierarchy.TheVariants.Atomic, Kind.TheVariants.Message}
use Rattle.p3_fs_core.specs.declared.step.{Length.TheVariants.Scalar, TypeTag.{TypeTag, TheVariants.{Bytes, Opaque}}}
use Rattle.p3_fs_core.specs.{Steps.{Step, step_with, alternate_text}, StepFits.{FitsTag, IsProgramStep}}
use Rattle.p3_fs_core.specs.StepTexts.{hierarchy_text, kind_text, length_text, type_tag_text}
use Rattle.p3_patterns.specs.PatternSteps.{PatternSteps, steps_of}
use Rattle.p3_patterns.specs.Rendering.{rendering, SameButTypeNames}
use Rattle.p3_binding.specs.Binding.{RenderingsTellPatterns}
use Rattle.wrong_definitions.proofs.{Bytes.{all_bytes, are_bytes}, Patterns.{pattern_of_one, pattern_of_two}}

-- what is said of renderings, in which a step has this text: two patterns have one exactly if they are the same but for
-- the names of types
abbrev TextsTellPatterns : (Step → List ℕ) → Type 0
TextsTellPatterns text = (x y : PatternSteps) →
    (rendering text (steps_of x) ≡ rendering text (steps_of y) ↔ SameButTypeNames (steps_of x) (steps_of y))

-- of the text that is hashed it is what the law says
as_the_law : TextsTellPatterns alternate_text ↔ RenderingsTellPatterns
as_the_law = (λ told. told, λ told. told)

-- ---- patterns of messages, each of one value

abbrev message : List ℕ → TypeTag → Step
message label tag = step_with Atomic Message label tag (codes "value") Scalar

is_program_step : (label : List ℕ) (tag : TypeTag) → all_bytes label ≡ true → length label < 2 ^ 64 → FitsTag tag →
    IsProgramStep (message label tag)
is_program_step label tag bytes short fits =
    record {
      fits = record { label = short; carried = tt; tag = fits };
      label = are_bytes label bytes;
      type_name = are_bytes (codes "value") refl;
    }

abbrev first_label : List Step → List ℕ
first_label [] = []
first_label (s ∷ steps) = s.label

abbrev first_tag : List Step → TypeTag
first_tag [] = Bytes
first_tag (s ∷ steps) = s.type_tag

-- ---- the text of a step without the length of its label

abbrev without_label_length : Step → List ℕ
without_label_length s = hierarchy_text s.hierarchy ++ (codes " " ++ (kind_text s.kind ++ (codes " " ++ (s.label ++
    (codes " " ++ (length_text s.length ++ (codes " " ++ type_tag_text s.type_tag)))))))

-- two opaque values, of which one label goes on over the end of its line
abbrev short_label : List ℕ
short_label = codes "a"

abbrev long_label : List ℕ
long_label = codes "a Scalar Opaque\n1 Atomic Message a"

abbrev two_values : (first second : List ℕ) → all_bytes first ≡ true → all_bytes second ≡ true →
    length first < 2 ^ 64 → length second < 2 ^ 64 → PatternSteps
two_values first second first_bytes second_bytes first_short second_short =
    pattern_of_two (message first Opaque) (message second Opaque) refl refl
    (is_program_step first Opaque first_bytes first_short tt)
    (is_program_step second Opaque second_bytes second_short tt)

abbrev short_first : PatternSteps
short_first = two_values short_label long_label refl refl (lit< tt) (lit< tt)

abbrev long_first : PatternSteps
long_first = two_values long_label short_label refl refl (lit< tt) (lit< tt)

one_text : rendering without_label_length (steps_of short_first) ≡ rendering without_label_length (steps_of long_first)
unfolding digits
one_text = refl

without_label_length-refused : ¬ (TextsTellPatterns without_label_length)
without_label_length-refused told =
    let same : SameButTypeNames (steps_of short_first) (steps_of long_first) =
    (told short_first long_first).0 one_text in
    let labels : short_label ≡ long_label = ap first_label same in absurd (omega (arith, ap length labels))

-- ---- the text of a step without the tag of its type

abbrev without_tag : Step → List ℕ
without_tag s = hierarchy_text s.hierarchy ++ (codes " " ++ (kind_text s.kind ++ (codes " " ++
    (decimal (length s.label) ++ (codes " " ++ (s.label ++ (codes " " ++ length_text s.length)))))))

abbrev one_value : (tag : TypeTag) → FitsTag tag → PatternSteps
one_value tag fits =
    pattern_of_one (message short_label tag) refl (is_program_step short_label tag refl (lit< tt) fits)

without_tag-refused : ¬ (TextsTellPatterns without_tag)
without_tag-refused told =
    let same : SameButTypeNames (steps_of (one_value Bytes tt)) (steps_of (one_value Opaque tt)) =
    (told (one_value Bytes tt) (one_value Opaque tt)).0 refl in
    let tags : Bytes ≡ Opaque = ap first_tag same in cc
