use Rattle.std.proofs.Common.{ap, ◌∙◌}
use Rattle.std.specs.Int.{w64, bit_not}
use Rattle.p3_keccak.proofs.Complements.{moved-not}
use Rattle.p3_keccak.proofs.permutation.moved_complement.Goals as goal

pub returns : goal.returns
returns c =
    ap (bit_not w64) c.rotate_left.ensures ∙ moved-not c.args.lane c.args.effect c.args.by c.ranges.lane.fits c.ranges.effect.fits
