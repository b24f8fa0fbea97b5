use Rattle.std.{specs.List.flat_map, proofs.lemmas.Result.{err_from_is_err_and, on_err_weaker}}
use Rattle.p3_drivers.proofs.Pieces.{first-left, second-left}
use Rattle.p3_drivers.proofs.writing.write_counted_values.Goals as goal

pub returns-in_err-write_bytes-clause-left : goal.returns-in_err-write_bytes-clause-left
returns-in_err-write_bytes-clause-left g c =
    let p = err_from_is_err_and c.from_residual.result c.from_residual.ensures.1 in
    rw p.1 (first-left c.args.narg.now.items c.write_bytes.new.narg.items
    c.args.count.now (flat_map g.Cdc.Codec.encoding.wire c.args.values.now) c.in_err-write_bytes.ensures.left)

pub returns-clause-left : goal.returns-clause-left
returns-clause-left g c = on_err_weaker c.write_values.result
    (second-left c.args.narg.now.items c.write_bytes.new.narg.items c.write_values.new.narg.items c.args.count.now
    (flat_map g.Cdc.Codec.encoding.wire c.args.values.now) c.in_ok-write_bytes.ensures.ok) c.write_values.ensures.left
