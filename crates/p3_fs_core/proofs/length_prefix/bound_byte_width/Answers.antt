use Rattle.p3_fs_core.proofs.{Counting.{width-enough, width-least}, Widths.count_width-is}
use Rattle.p3_fs_core.proofs.length_prefix.bound_byte_width.Goals as goal

pub returns-clause-width : goal.returns-clause-width
returns-clause-width c =
    count_width-is c.args.max c.div_ceil.result c.ranges.max.fits
    (width-enough c.args.max c.div_ceil.result c.ranges.max.fits c.div_ceil.ensures)
    (width-least c.args.max c.div_ceil.result c.ranges.max.fits c.div_ceil.ensures)

pub returns-clause-enough : goal.returns-clause-enough
returns-clause-enough c = width-enough c.args.max c.div_ceil.result c.ranges.max.fits c.div_ceil.ensures

pub returns-clause-least : goal.returns-clause-least
returns-clause-least c = width-least c.args.max c.div_ceil.result c.ranges.max.fits c.div_ceil.ensures
