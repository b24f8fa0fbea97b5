-- How the logic stores a step: as the tuple of its parts.
use Rattle.std.specs.{Prelude.{ℕ, List, refl}, Coded.{Coded, code_by, coded×, coded_list, coded_ℕ}}
use Rattle.p3_fs_core.specs.declared.step.{Hierarchy.Hierarchy, Kind.Kind, Length.Length, TypeTag.TypeTag}
use Rattle.p3_fs_core.specs.Steps.{Step, step_with}
use Rattle.p3_fs_core.specs.contracts.step.Hierarchy as hierarchy
use Rattle.p3_fs_core.specs.contracts.step.Kind as kind
use Rattle.p3_fs_core.specs.contracts.step.Length as count
use Rattle.p3_fs_core.specs.contracts.step.TypeTag as type_tag

abbrev Parts : Type 0
Parts = Hierarchy × (Kind × (List ℕ × (TypeTag × (List ℕ × Length))))

abbrev text_code : Coded (List ℕ)
text_code = coded_list coded_ℕ

abbrev parts_code : Coded Parts
parts_code =
    coded× hierarchy.the_row.coded
    (coded× kind.the_row.coded
    (coded× text_code (coded× type_tag.the_row.coded (coded× text_code count.the_row.coded))))

abbrev pub step_code : Coded Step
step_code =
    code_by Parts parts_code
    (λ s. (s.hierarchy, (s.kind, (s.label, (s.type_tag, (s.type_name, s.length))))))
    (λ p. step_with p.0 p.1.0 p.1.1.0 p.1.1.1.0 p.1.1.1.1.0 p.1.1.1.1.1)
    (λ _. refl)
