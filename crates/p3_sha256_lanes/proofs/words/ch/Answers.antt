use Rattle.std.proofs.Common.{w32, arith}
use Rattle.std.proofs.lemmas.Simd.{Each1-get_or}
use mir.Val.{Fits}
use Rattle.p3_sha256_lanes.proofs.ChMaj.{ch_short}
use Rattle.p3_sha256_lanes.proofs.words.ch.Goals as goal

pub returns : goal.returns
returns c = λ lane is_lane.
    let x = Each1-get_or (Fits w32) c.args.x lane 0 (omega (arith, is_lane, c.fits-x.0)) c.fits-x.1 in
    let y = Each1-get_or (Fits w32) c.args.y lane 0 (omega (arith, is_lane, c.fits-y.0)) c.fits-y.1 in
    let z = Each1-get_or (Fits w32) c.args.z lane 0 (omega (arith, is_lane, c.fits-z.0)) c.fits-z.1 in
    rw (c.xor-2.ensures lane is_lane, c.and.ensures lane is_lane, c.xor.ensures lane is_lane)
    (ch_short w32 _ _ _ x.fits y.fits z.fits)
