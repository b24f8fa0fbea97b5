use Rattle.std.proofs.Common.{◌≡◌, ◌+◌, ◌*◌, ◌/◌, ◌%◌, ◌^◌, ◌++◌, sym, ap, ◌∙◌, rules, arith}
use Rattle.std.proofs.Output.{has_written_of_eq}
use Rattle.p3_fs_core.{specs.StepTexts.hex_number, proofs.HexDigits.{hex_number-parts, sixteen_wide}}
use Rattle.p3_fs_core.proofs.step.HexNumberDisplay.fmt.Goals as goal

pub returns-else-high-eq0-clause-writes : goal.returns-else-high-eq0-clause-writes
returns-else-high-eq0-clause-writes g c plain ok =
    let n = c.args.self.now.0 in
    let high = n / 2 ^ 64 in
    let low = n % 2 ^ 64 in
    let parts : hex_number (high * 2 ^ 64 + low) ≡ hex_number high ++ sixteen_wide low =
    hex_number-parts high low (omega arith) (omega arith) (omega arith) in
    let whole : high * 2 ^ 64 + low ≡ n = omega arith in
    has_written_of_eq _ _ _ _ _ (sym parts ∙ ap hex_number whole) (search rules)
