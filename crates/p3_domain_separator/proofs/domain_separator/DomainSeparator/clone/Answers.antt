use Rattle.std.{proofs.Common.rules, specs.List.each_same}
use Rattle.p3_domain_separator.proofs.SeparatorContents.{same_contents}
use Rattle.p3_domain_separator.proofs.domain_separator.DomainSeparator.clone.Goals as goal

pub returns-clause-ok : goal.returns-clause-ok
returns-clause-ok g c =
    let labels = each_same c.args.self.now.instance_label.items c.in_ok-clone.field-0.items
    c.in_ok-clone.ensures.cases.0 in
    let patterns = c.in_ok-clone-2.ensures.cases in
    search (rules, same_contents)
