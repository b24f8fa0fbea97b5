use Rattle.p3_multi_field.specs.MultiFieldSymbolLaws.{scalar-prefix_code}
use Rattle.p3_multi_field.proofs.prefix_code.multi_field_scalars_are_prefix_code.Goals as goal

pub returns : goal.returns
returns g c = scalar-prefix_code
