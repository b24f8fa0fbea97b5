use Rattle.p3_script_binding.proofs.Agreeing.{verified-agree}
use Rattle.p3_script_binding.proofs.bound.equal_symbols_have_equal_values.Goals as goal

pub returns : goal.returns
returns g c =
    verified-agree _ _ _ _ _ _ _ _ _ _ g.S.Challenger.Sponge.state c.binding.ensures.equal_symbols_bind
    c.binding.ensures.hints_do_not_influence record {
      scalar = λ x y e. cc;
      extension = g.met.S.Extension.BasedVectorSpace.same_coefficients;
    }
