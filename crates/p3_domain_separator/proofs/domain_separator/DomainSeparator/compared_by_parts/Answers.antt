use Rattle.std.proofs.{Common.{◌≡◌, ◌↔◌, true, refl, ap}, lemmas.Bool.Decides.{Decides-and, Decides-like}}
use Rattle.std.specs.Cmp.Lexicographic.{bytes_decides}
use Rattle.p3_patterns.specs.PatternStepLaws.{PatternSteps-same}
use Rattle.p3_domain_separator.proofs.SeparatorContents.{same_contents, same_bytes, same_digests}
use Rattle.p3_domain_separator.proofs.domain_separator.DomainSeparator.compared_by_parts.Goals as goal

-- places that are left out of the comparison
left_out : true ≡ true ↔ Unit {0}
left_out = (λ _. tt, λ _. refl)

pub returns-clause-exact : goal.returns-clause-exact
returns-clause-exact g c =
    let s = c.args.self.now in
    let t = c.args.other.now in
    let digests = same_digests g.D.DigestHasher.digest_of s t s.is_digest t.is_digest in
    Decides-like _
    (λ p. same_contents s t p.0 p.1.0 p.1.1.0)
    (λ contents. let parts = same_bytes s t contents in
    (parts.0, (parts.1, (parts.2, (digests parts.2, tt)))))
    (Decides-and _ _ (bytes_decides s.protocol_id t.protocol_id)
    (Decides-and _ _ (bytes_decides s.instance_label.items t.instance_label.items)
    (Decides-and _ _ (c.compared_by_steps.ensures s.pattern.value t.pattern.value)
    (Decides-and _ _ (bytes_decides s.digest t.digest) left_out))))

pub returns-clause-parts : goal.returns-clause-parts
returns-clause-parts g c =
    let s = c.args.self.now in
    let t = c.args.other.now in
    let digests = same_digests g.D.DigestHasher.digest_of s t s.is_digest t.is_digest in
    Decides-like _
    (λ p. (p.0, p.1.0, ap (λ pattern. pattern.steps) p.1.1.0))
    (λ parts. let patterns = PatternSteps-same s.pattern.value t.pattern.value parts.2 in
    (parts.0, (parts.1, (patterns, (digests patterns, tt)))))
    (Decides-and _ _ (bytes_decides s.protocol_id t.protocol_id)
    (Decides-and _ _ (bytes_decides s.instance_label.items t.instance_label.items)
    (Decides-and _ _ (c.compared_by_steps.ensures s.pattern.value t.pattern.value)
    (Decides-and _ _ (bytes_decides s.digest t.digest) left_out))))
