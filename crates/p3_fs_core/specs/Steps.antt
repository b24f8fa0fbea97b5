-- Steps of an interactive protocol and the algebras that they name, as contracts see them.
use Rattle.std.specs.{Prelude.{◌≡◌, ℕ, List, ◌++◌, length, codes}, Fmt.decimal}
use Rattle.p3_fs_core.specs.StepTexts.{hierarchy_text, kind_text, length_text, type_tag_text}
use Rattle.p3_fs_core.specs.declared.step.{Hierarchy.{Hierarchy, TheVariants.{Begin, End, Atomic}}, Kind.Kind}
use Rattle.p3_fs_core.specs.declared.step.{Length.{Length, TheVariants.None}, TypeTag.{TypeTag, TheVariants.Marker}}
use Rattle.p3_fs_core.specs.declared.step.TypeTag.TheVariants.{Algebra}

-- a step: six parts, of which two are texts
pub record Step : Type 0 where
  pub hierarchy : Hierarchy
  pub kind : Kind
  pub label : List ℕ
  pub type_tag : TypeTag
  pub type_name : List ℕ
  pub length : Length

-- the step of these parts: hierarchy, kind, label, the tag of what it carries, and the name of that type in the
-- program
abbrev pub step_with : Hierarchy → Kind → List ℕ → TypeTag → List ℕ → Length → Step
step_with hierarchy kind label type_tag type_name length = record {
  hierarchy = hierarchy;
  kind = kind;
  label = label;
  type_tag = type_tag;
  type_name = type_name;
  length = length;
}

-- the opener or closer of a container, which carries nothing
abbrev pub marker_of : Hierarchy → Kind → List ℕ → List ℕ → Step
marker_of hierarchy kind label type_name = step_with hierarchy kind label Marker type_name None

-- a closer closes an opener with the same parts, except that one is an End and the other a Begin
pub record Closes (closer opener : Step) : Type 0 where
  pub ends : closer.hierarchy ≡ End
  pub begins : opener.hierarchy ≡ Begin
  pub kind : closer.kind ≡ opener.kind
  pub label : closer.label ≡ opener.label
  pub type_tag : closer.type_tag ≡ opener.type_tag
  pub type_name : closer.type_name ≡ opener.type_name
  pub length : closer.length ≡ opener.length

-- the number of values that a step of the type carries; a marker carries none
abbrev pub carried_by : TypeTag → Length → Length
carried_by Marker length = None
carried_by tag length = length

-- the printed text of a step, with the name of its type
abbrev pub plain_text : Step → List ℕ
plain_text s = hierarchy_text s.hierarchy ++ (codes " " ++ (kind_text s.kind
    ++ (codes " " ++ (s.label ++ (codes " " ++ (length_text s.length ++ (codes " " ++ s.type_name)))))))

-- the hashed text of a step, with the tag of its type, and the length of its label before the label
abbrev pub alternate_text : Step → List ℕ
alternate_text s =
    hierarchy_text s.hierarchy ++ (codes " " ++ (kind_text s.kind ++ (codes " " ++ (decimal (length s.label) ++
    (codes " " ++ (s.label ++ (codes " " ++ (length_text s.length ++ (codes " " ++ type_tag_text s.type_tag)))))))))

-- An algebra as steps name it: the order of its field, the number of coefficients, the digest of its identity, and
-- its name in the program.
pub record NamedAlgebra : Type 0 where
  pub order : ℕ
  pub degree : ℕ
  pub digest : List ℕ
  pub name : List ℕ

abbrev pub algebra_of : ℕ → ℕ → List ℕ → List ℕ → NamedAlgebra
algebra_of order degree digest name = record { order = order; degree = degree; digest = digest; name = name }

-- the tag of an algebra, which a step's hashed text has in place of the name
abbrev pub tag_of : NamedAlgebra → TypeTag
tag_of algebra = Algebra algebra.order algebra.degree algebra.digest

-- a step that carries elements of an algebra
abbrev pub algebra_step : Kind → List ℕ → NamedAlgebra → Length → Step
algebra_step kind label algebra length = step_with Atomic kind label (tag_of algebra) algebra.name length
