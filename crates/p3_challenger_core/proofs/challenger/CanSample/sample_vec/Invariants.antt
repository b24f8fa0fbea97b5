use Rattle.std.proofs.Common.{◌≡◌, ◌-◌, vec_len, vec_capacity}
use Rattle.p3_challenger_core.specs.DrawLaws.{Drew}
use Rattle.p3_challenger_core.proofs.challenger.CanSample.sample_vec.Given as goal

abbrev pub invariant-loop : goal.invariant-loop
invariant-loop g l =
    let m = g.Self.CanSample in
    record {
      drew : Drew m.sampling l.n (g.Self.Sponge.state l.initial.self) l.values.items (l.n - l.counter)
          (g.Self.Sponge.state l.self);
      count : vec_len l.values ≡ l.counter;
      room : vec_capacity l.values ≡ l.n;
    }
