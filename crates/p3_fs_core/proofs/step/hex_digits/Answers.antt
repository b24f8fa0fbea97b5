use Rattle.std.{proofs.Common.{rules, ◌≡◌, sym, subst, ◌∙◌}, specs.Str.IsAscii}
use Rattle.hex.specs.Hex.{encode_lower}
use Rattle.p3_challenger_core.specs.Reading.{AreBytes}
use Rattle.p3_fs_core.proofs.HexDigits.{hex_text-of_table, hex_text-ascii}
use Rattle.p3_fs_core.proofs.step.hex_digits.Goals as goal

pub returns-clause-digits : goal.returns-clause-digits
returns-clause-digits c =
    let are : AreBytes c.args.digest = search rules in
    let written : c.encode_to_slice.new.output ≡ encode_lower c.args.digest = search rules in
    written ∙ hex_text-of_table c.args.digest are

pub returns-clause-ascii : goal.returns-clause-ascii
returns-clause-ascii c =
    let are : AreBytes c.args.digest = search rules in
    let written : c.encode_to_slice.new.output ≡ encode_lower c.args.digest = search rules in
    subst IsAscii (sym (written ∙ hex_text-of_table c.args.digest are)) (hex_text-ascii c.args.digest are)
