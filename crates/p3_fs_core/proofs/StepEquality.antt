-- The parts of steps compare equal exactly where they are one, and interactions where they are one step.
use Rattle.std.{proofs.Common.{◌≡◌, ◌↔◌, ℕ, true, List, Bor, ap, rules}, specs.Cmp.Lexicographic.bytes_decides}
use Rattle.std.proofs.lemmas.Bool.Decides.{Decides-and, Decides-like}
use Rattle.p3_field_core.specs.Equality.{IsExact}
use Rattle.p3_fs_core.specs.{declared.interaction.Interaction.Interaction, Interactions.step_of, Steps.step_with}
use Rattle.std.specs.contracts.prelude.RefStrPartialEq.TheImpl as texts
use Rattle.p3_fs_core.specs.contracts.step.HierarchyPartialEq.TheImpl as hierarchies
use Rattle.p3_fs_core.specs.contracts.step.KindPartialEq.TheImpl as kinds
use Rattle.p3_fs_core.specs.contracts.step.LengthPartialEq.TheImpl as lengths
use Rattle.p3_fs_core.specs.contracts.step.TypeTagPartialEq.TheImpl as tags
use Rattle.p3_fs_core.specs.contracts.interaction.InteractionPartialEq.TheImpl as interactions

pub equal_hierarchies : IsExact hierarchies.ghosts.eq
equal_hierarchies a b = search rules

pub equal_kinds : IsExact kinds.ghosts.eq
equal_kinds a b = search rules

pub equal_lengths : IsExact lengths.ghosts.eq
equal_lengths a b = search rules

pub equal_type_tags : IsExact tags.ghosts.eq
equal_type_tags a b = search rules

-- texts compare equal exactly where they are the same bytes, wherever they lie
pub equal_texts : (a b : Bor (List ℕ)) → (texts.ghosts.eq a b ≡ true ↔ a.now ≡ b.now)
equal_texts a b = bytes_decides a.now b.now

pub equal_steps : (a b : Interaction) → (interactions.ghosts.eq a b ≡ true ↔ step_of a ≡ step_of b)
equal_steps a b =
    Decides-like _ (λ p i. step_with (p.0 i) (p.1.0 i) (p.1.1.0 i) (p.1.1.1.0 i) (p.1.1.1.1.0 i) (p.1.1.1.1.1 i))
    (λ e. let hierarchies = ap (λ s. s.hierarchy) e in let kinds = ap (λ s. s.kind) e in
    let labels = ap (λ s. s.label) e in let tags = ap (λ s. s.type_tag) e in
    let names = ap (λ s. s.type_name) e in (hierarchies, (kinds, (labels, (tags, (names, ap (λ s. s.length) e))))))
    (Decides-and _ _ (equal_hierarchies a.hierarchy b.hierarchy)
    (Decides-and _ _ (equal_kinds a.kind b.kind)
    (Decides-and _ _ (equal_texts a.label b.label)
    (Decides-and _ _ (equal_type_tags a.type_tag b.type_tag)
    (Decides-and _ _ (equal_texts a.type_name b.type_name) (equal_lengths a.length b.length))))))
