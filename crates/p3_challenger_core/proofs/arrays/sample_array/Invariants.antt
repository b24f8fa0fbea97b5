use Rattle.std.proofs.Common.{◌≡◌, ◌-◌, take, length}
use Rattle.p3_challenger_core.specs.DrawLaws.{Drew}
use Rattle.p3_challenger_core.proofs.arrays.sample_array.Given as goal

abbrev pub invariant-loop-i : goal.invariant-loop-i
invariant-loop-i g l =
    let m = g.C.CanSample in
    record {
      drew : Drew m.sampling g.row.N (g.C.Sponge.state l.fn.challenger) (take l.i l.values) (g.row.N - l.i)
          (g.C.Sponge.state l.challenger);
      long : length l.values ≡ g.row.N;
    }
