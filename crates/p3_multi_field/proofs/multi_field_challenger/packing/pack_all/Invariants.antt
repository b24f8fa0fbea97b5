use Rattle.std.proofs.Common.{◌-◌, length, take}
use Rattle.p3_multi_field.proofs.{Packing.HasPacked, Pairs.pair_over}
use Rattle.p3_multi_field.proofs.multi_field_challenger.packing.pack_all.Given as goal

-- the cells so far are packed
abbrev pub invariant-loop-i : goal.invariant-loop-i
invariant-loop-i g l =
    let pair = pair_over g.F.PrimeCharacteristicRing.residues g.PF.PrimeCharacteristicRing.residues g.PF.FieldBridge in
    let cells = length l.initial.cells in
    HasPacked pair cells l.initial.scalars (take l.i l.cells) (cells - l.i) l.rest
