use Rattle.std.proofs.Common.{arith}
use Rattle.p3_domain_separator.proofs.Identifiers.{identifier_written}
use Rattle.p3_domain_separator.proofs.domain_separator.protocol_identifier.Goals as goal

pub returns : goal.returns
returns c =
    let name = c.args.name.now in
    identifier_written c.args.version _ name c.copy_from_slice.new.self c.requires c.copy_from_slice.ensures.after
    (omega arith)
