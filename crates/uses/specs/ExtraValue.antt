-- A value that no step carries, observed before a step.
use Rattle.p3_challenger.specs.{Driving.Driving, Observation.Observation}

-- the driver, once its challenger has observed one more value
abbrev pub after_value : {S Symbol T : Type 0} → Observation S Symbol T → T → Driving S → Driving S
after_value o x driver =
    record {
      transcript = record {
        challenger = o.observed driver.transcript.challenger x;
        playing = driver.transcript.playing;
      };
      bytes = driver.bytes;
    }
