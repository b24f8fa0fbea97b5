use Rattle.std.proofs.Common.{refl, sym, ◌∙◌}
use Rattle.p3_script_checks.proofs.Checking.{not_true}
use Rattle.p3_script_checks.proofs.fitting.fits.Goals as goal

pub returns-then-not-admitted : goal.returns-then-not-admitted
returns-then-not-admitted g c = (
  λ t. not_true t,
  λ both. not_true (c.if-not-admitted.ensures.1 both.0),
)

pub returns : goal.returns
returns g c =
    let are = c.are_steps.ensures c.carriers_of.ensures in (
      λ t. (c.if-not-admitted.ensures.0 refl, are.0 t ∙ c.interactions.ensures),
      λ both. are.1 (both.1 ∙ sym c.interactions.ensures),
    )
