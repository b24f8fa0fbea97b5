use Rattle.p3_step_laws.proofs.ExtensionReasons.{element-reason}
use Rattle.p3_step_laws.proofs.extensions.extensions_are_refused_for_one_reason.Goals as goal

pub returns : goal.returns
returns g c =
    element-reason _ g.met.Base.Codec.is_codec.encodes g.met.Base.ScalarCodec.one_reason g.EF.BasedVectorSpace.DIMENSION
    g.EF.BasedVectorSpace.element
