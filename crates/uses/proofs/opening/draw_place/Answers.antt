use Rattle.std.proofs.Common.{◌%◌, ap, ◌∙◌}
use Rattle.p3_challenger.specs.Bound.{bound_value}
use Rattle.p3_field.specs.BabyBearResidues.{residues}
use Rattle.uses.proofs.opening.draw_place.Goals as goal

pub returns-clause-drawn : goal.returns-clause-drawn
returns-clause-drawn g c =
    record {
      element = bound_value c.in_ok-drawn.drawn;
      drawn = c.in_ok-drawn.ensures.played.gives;
      is = ap (λ n. n % 8) (c.as_canonical_u32.ensures ∙ ap residues.number c.into_inner.ensures);
      after = c.in_ok-drawn.ensures.played.challenger;
    }
