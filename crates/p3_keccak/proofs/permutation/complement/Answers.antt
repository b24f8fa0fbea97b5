use Rattle.p3_keccak.proofs.Complements.{not_not}
use Rattle.p3_keccak.proofs.permutation.complement.Goals as goal

pub returns : goal.returns
returns c = not_not c.args.word c.ranges.word.fits
