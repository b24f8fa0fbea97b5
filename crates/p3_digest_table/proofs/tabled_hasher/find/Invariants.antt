use Rattle.std.proofs.Common.{◌≡◌, drop, map}
use Rattle.p3_digest_table.specs.Tables.{found, line_of}
use Rattle.p3_digest_table.proofs.tabled_hasher.find.Given as goal

-- the lines that are left give the text what all of them give it
abbrev pub invariant-lines : goal.invariant-lines
invariant-lines l = found (map line_of (drop l.line-index l.lines)) l.text ≡ found (map line_of l.lines) l.text
