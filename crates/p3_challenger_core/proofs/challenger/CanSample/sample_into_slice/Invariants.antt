use Rattle.std.proofs.Common.{◌-◌, take, length}
use Rattle.p3_challenger_core.specs.DrawLaws.{Drew}
use Rattle.p3_challenger_core.proofs.challenger.CanSample.sample_into_slice.Given as goal

abbrev pub invariant-loop-i : goal.invariant-loop-i
invariant-loop-i g l =
    let m = g.Self.CanSample in
    let n = length l.initial.values in
    Drew m.sampling n (g.Self.Sponge.state l.initial.self) (take l.i l.values) (n - l.i) (g.Self.Sponge.state l.self)
