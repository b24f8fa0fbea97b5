-- The steps of the demo protocol are a pattern.
use Rattle.std.proofs.Common.{[], refl, inl}
use Rattle.p3_challenger.specs.{Hierarchy.TheVariants.{Begin, End}, Kind.TheVariants.Protocol, Steps.Closes}
use Rattle.p3_challenger.specs.PatternGrammar.{IsPattern, nothing, leaf, container}
use Rattle.transcript_program.specs.Demo as demo

closes : Closes (demo.container End) (demo.container Begin)
closes = record {
  ends = refl;
  begins = refl;
  kind = refl;
  label = refl;
  type_tag = refl;
  type_name = refl;
  length = refl;
}

pub demo_is_pattern : IsPattern Protocol demo.demo_steps
demo_is_pattern =
    container Protocol (demo.container Begin) (demo.container End) _ [] (inl refl)
    (leaf Protocol _ _ refl (inl refl)
    (leaf Protocol _ _ refl (inl refl)
    (leaf Protocol _ _ refl (inl refl)
    (leaf Protocol _ _ refl (inl refl)
    (leaf Protocol _ _ refl (inl refl)
    (leaf Protocol _ _ refl (inl refl)
    (leaf Protocol _ _ refl (inl refl)
    (nothing Protocol))))))))
    closes
    (nothing Protocol)
