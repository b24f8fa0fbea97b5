-- The obligations of every codec.
use Rattle.std.specs.Prelude.{List}
use Rattle.p3_challenger_core.specs.{Observation.{Observation, IsObservation}, Sampling.{Sampling, IsSampling}}
use Rattle.p3_fs_core.specs.Encoding.{Encoding, IsEncoding}

-- Values are encoded, as a prefix code. The symbols fed are those of the observation, and a refused value has
-- fed a prefix of them. A draw that meets the limit gives nothing, and each draw is a number of smallest draws.
pub record IsCodec {S Symbol T : Type 0} (fed : S → List Symbol → S) (next : S → S) (encoding : Encoding T)
    (observation : Observation S Symbol T) (sampling : Sampling S T) : Type 0 where
  pub encodes : IsEncoding encoding
  pub observes : IsObservation fed observation
  pub samples : IsSampling next sampling
