use Rattle.std.{proofs.Common.{◌≡◌, ◌≤◌, length, [], arith}, specs.List.All}
use Rattle.p3_domain_separator.{specs.Seed.{identifier, label_of, FitsCount}, proofs.SeparatorContents.made_of}
use Rattle.p3_domain_separator.proofs.domain_separator.DomainSeparator.new.Goals as goal

pub returns-clause-ok : goal.returns-clause-ok
returns-clause-ok g c =
    let name = c.args.name.now in
    let id : c.protocol_identifier.result ≡ identifier c.args.version name = c.protocol_identifier.ensures in
    let short : length name ≤ 62 = c.requires.short in
    let label : c.new.result.items ≡ label_of [] = c.new.ensures.items in
    let none : All FitsCount [] = λ k d within. absurd (omega (arith, within)) in
    let pattern : c.in_ok-new.field-0.value ≡ c.args.pattern = c.in_ok-new.ensures.ok in
    search made_of
