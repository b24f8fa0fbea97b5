-- The state of a driver after a `&mut` loan of its challenger has ended.
use Rattle.std.specs.Borrow.{Fml, RattleType, MutBor, Lends}
use Rattle.p3_symmetric.specs.declared.digest_hasher.DigestHasher.{Ghosts}
use Rattle.p3_drivers.specs.{declared.driver.DriverState.DriverState, contracts.driver.DriverState.the_row}

-- the driver with this challenger, and otherwise unchanged
abbrev pub with_challenger : {C U D P : Type 0} {hasher : Ghosts D} → DriverState C U D P hasher → C →
    DriverState C U D P hasher
with_challenger d challenger = record d { challenger = challenger }

-- the driver ends with the challenger that the borrower left
abbrev pub lends_challenger : (C U D P : RattleType) (hasher : Ghosts D.Denot) →
    MutBor (DriverState C.Denot U.Denot D.Denot P.Denot hasher) → MutBor C.Denot → Fml
lends_challenger C U D P hasher d r = Lends (the_row C U D P hasher) C d r (with_challenger d.now)
