use Rattle.std.proofs.Common.{refl}
use Rattle.p3_keccak.specs.{Keccak.{chi, iota, pi, rho, round, theta}, Rows.row_of}
use Rattle.p3_keccak.proofs.permutation.round.Goals as goal

pub returns : goal.returns
unfolding chi iota pi rho round row_of theta
returns c =
    rw (c.row.ensures, c.row-2.ensures, c.row-3.ensures, c.row-4.ensures, c.row-5.ensures)
    (rw (c.complement-n0.ensures, c.complement-n1.ensures, c.complement-n2.ensures, c.complement-n3.ensures, c.complement-n4.ensures, c.theta_effects.ensures)
    refl)
