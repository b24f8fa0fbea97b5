use Rattle.std.proofs.{Common.{◌≡◌, ◌+◌, ◌≤◌, ◌<◌, ◌^◌, [], ◌∷◌, ◌++◌, length, Result, Ok, Err, OnErr}, Common.rules}
use Rattle.std.{specs.List.All, proofs.lemmas.List.Elements.All-push}
use Rattle.p3_challenger_core.specs.Reading.{AreBytes}
use Rattle.p3_domain_separator.specs.{Seed.{identifier, counted, label_of, FitsCount}, SeedLaws.chunk_added}
use Rattle.p3_domain_separator.proofs.Labels.{pushed-is_label, pushed-fits}
use Rattle.p3_domain_separator.proofs.SeparatorContents.{made_of, same_contents}
use Rattle.p3_domain_separator.proofs.domain_separator.DomainSeparator.instance.Goals as goal

pub invariant_of-self-clause-is_label : goal.invariant_of-self-clause-is_label
invariant_of-self-clause-is_label g c =
    let chunk = c.args.chunk.now in
    let fits : FitsCount chunk = search rules in
    let bytes : AreBytes chunk = search rules in
    pushed-is_label c.args.self.now.instance_label.items chunk _ c.push_counted.result c.args.self.now.is_label fits
    bytes c.push_counted.ensures.ok c.push_counted.ensures.err

pub invariant_of-self-clause-label_fits : goal.invariant_of-self-clause-label_fits
invariant_of-self-clause-label_fits g c =
    let label = c.args.self.now.instance_label.items in
    let chunk = c.args.chunk.now in
    let fits : length label + (4 + length chunk) < 2 ^ 32 = search rules in
    pushed-fits label chunk _ c.push_counted.result fits c.push_counted.ensures.ok c.push_counted.ensures.err

-- what is so is so where an error was answered
told : {T E : Type 0} (result : Result T E) (P : Type 0) → P → OnErr result P
told (Ok x) P h = tt
told (Err e) P h = h

pub returns-in_err-push_counted-clause-same : goal.returns-in_err-push_counted-clause-same
returns-in_err-push_counted-clause-same g c =
    let labels = c.in_err-push_counted.ensures.err in
    told c.from_residual.result _ (search (rules, same_contents))

pub returns-clause-chunks : goal.returns-clause-chunks
returns-clause-chunks g c =
    let id = c.args.self.now.is_identifier in
    let is = c.args.self.now.is_label in
    let chunk = c.args.chunk.now in
    let encoded : c.args.self.now.protocol_id ≡ identifier id.version id.name = id.encoded in
    let short : length id.name ≤ 62 = id.short in
    let counts : FitsCount chunk = search rules in
    let fit : All FitsCount (is.chunks ++ (chunk ∷ [])) = All-push FitsCount is.chunks chunk is.counted counts in
    let label : c.push_counted.new.bytes.items ≡ label_of (is.chunks ++ (chunk ∷ [])) =
    chunk_added chunk _ _ c.in_ok-push_counted.ensures.ok is.chunks is.encoded in
    search made_of
