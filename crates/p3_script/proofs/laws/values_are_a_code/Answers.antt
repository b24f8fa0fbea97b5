use Rattle.p3_script.proofs.laws.values_are_a_code.Goals as goal

pub returns : goal.returns
returns g c = g.met.Cdc.Codec.is_codec.encodes.prefix_code
