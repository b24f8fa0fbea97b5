use Rattle.std.proofs.lemmas.Result.{err_from_is_err_and, on_err_weaker}
use Rattle.p3_drivers.proofs.Pieces.{first-left, second-left}
use Rattle.p3_drivers.proofs.writing.write_counted_bytes.Goals as goal

pub returns-in_err-write_bytes-clause-left : goal.returns-in_err-write_bytes-clause-left
returns-in_err-write_bytes-clause-left c =
    let p = err_from_is_err_and c.from_residual.result c.from_residual.ensures.1 in
    rw p.1 (first-left c.args.narg.now.items c.write_bytes.new.narg.items
    c.args.prefix.now c.args.bytes.now c.in_err-write_bytes.ensures.left)

pub returns-clause-left : goal.returns-clause-left
returns-clause-left c = on_err_weaker c.write_bytes-2.result
    (second-left c.args.narg.now.items c.write_bytes.new.narg.items c.write_bytes-2.new.narg.items
    c.args.prefix.now c.args.bytes.now c.in_ok-write_bytes.ensures.ok) c.write_bytes-2.ensures.left
