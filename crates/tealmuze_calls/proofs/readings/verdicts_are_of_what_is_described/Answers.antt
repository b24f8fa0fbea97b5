use Rattle.tealmuze_calls.proofs.Alike.{verdicts-of_all, provings-of_all}
use Rattle.tealmuze_calls.proofs.readings.verdicts_are_of_what_is_described.Goals as goal

pub returns-clause-verify : goal.returns-clause-verify
returns-clause-verify g c =
    verdicts-of_all _ _ _ _ _ _ _ _ _ _ _ g.S.Called.is_fresh c.described_protocols_are_alike.ensures

pub returns-clause-prove : goal.returns-clause-prove
returns-clause-prove g c =
    provings-of_all _ _ _ _ _ _ _ _ _ _ _ g.S.Called.is_fresh c.described_protocols_are_alike.ensures
