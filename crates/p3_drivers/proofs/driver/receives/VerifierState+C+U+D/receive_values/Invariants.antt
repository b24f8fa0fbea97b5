use Rattle.std.proofs.Common.{◌≡◌, ◌-◌, vec_len, vec_capacity, map}
use Rattle.p3_driver_core.specs.Bound.{bound_value}
use Rattle.p3_drivers.proofs.ValuesInTurn.{ReadsOn}
use Rattle.p3_drivers.proofs.driver.receives.VerifierState+C+U+D.receive_values.Given as goal

abbrev pub invariant-loop : goal.invariant-loop
invariant-loop g l = record {
  on : ReadsOn g.Cdc.Codec.encoding g.Cdc.Codec.observation l.n l.fn.self.tape.bytes.now
      (g.C.Sponge.state l.fn.self.challenger) (map bound_value l.bounds.items) (l.n - l.counter)
      l.self.tape.bytes.now (g.C.Sponge.state l.self.challenger);
  steps : l.self.steps ≡ l.fn.self.steps;
  count : vec_len l.bounds ≡ l.counter;
  room : vec_capacity l.bounds ≡ l.n;
}
