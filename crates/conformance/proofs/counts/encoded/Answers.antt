use Rattle.std.proofs.Common.{rules}
use Rattle.conformance.proofs.Widths.{fits_wider}
use Rattle.conformance.proofs.counts.encoded.Goals as goal

pub encode_len_be-requires-clause-fits : goal.encode_len_be-requires-clause-fits
encode_len_be-requires-clause-fits c =
    fits_wider c.args.count c.bound_byte_width.result c.args.width c.bound_byte_width.ensures.enough (search rules)
