use Rattle.tealmuze_calls.proofs.Codes.{reading-one}
use Rattle.tealmuze_calls.proofs.readings.description_has_one_reading.Goals as goal

pub returns : goal.returns
returns c = reading-one
