-- Values that a transcript has bound.
use Rattle.std.specs.Prelude.{List, Vec, map}
use Rattle.p3_driver_core.specs.declared.bound.TranscriptBound.{TranscriptBound}

abbrev pub bound_value : {T : Type 0} → TranscriptBound T → T
bound_value bound = bound.0

abbrev pub bound_values : {T A : Type 0} → Vec (TranscriptBound T) A → List T
bound_values bounds = map bound_value bounds.items
