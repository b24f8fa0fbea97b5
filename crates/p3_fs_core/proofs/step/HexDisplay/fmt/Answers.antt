use Rattle.std.{proofs.Common.rules, specs.Str.IsUtf8, proofs.lemmas.Str.IsUtf8-from_ascii}
use Rattle.p3_fs_core.proofs.step.HexDisplay.fmt.Goals as goal

pub unwrap-requires : goal.unwrap-requires
unwrap-requires g c =
    let text : IsUtf8 c.hex_digits-digits.result = IsUtf8-from_ascii _ c.hex_digits-digits.ensures.ascii in
    search rules
