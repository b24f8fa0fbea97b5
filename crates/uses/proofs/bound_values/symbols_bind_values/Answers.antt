use Rattle.uses.{specs.BoundValues.of_bytes, proofs.BoundValues.symbols-bind}
use Rattle.uses.proofs.bound_values.symbols_bind_values.Goals as goal

pub returns : goal.returns
returns g c = λ p q v w a b x y a_are b_are a_fits b_fits same.
    symbols-bind g.D.Codec.observation.symbols (of_bytes g.U.Unit.items g.C.CanObserve.observation.symbols)
    (g.met.D.Codec.symbols_are_prefix_code c.requires.values).prefix_code p q v w a b x y same
    (λ r s e. c.symbols_begin.ensures c.requires.items a b r s a_are b_are a_fits b_fits e)
