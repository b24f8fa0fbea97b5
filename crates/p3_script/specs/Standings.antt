-- Where the value of a step stands, in the words of the program.
use Rattle.std.specs.Prelude.{◌≡◌}
use Rattle.p3_runs.specs.{Plays.Play, Values.Nothing}
use Rattle.p3_script.specs.declared.standing.Standing.{Standing}
use Rattle.p3_runs.specs.Plays as place
use Rattle.p3_script.specs.declared.standing.Standing.TheVariants as standing

-- where the value of a step stands; a step that sends none is handed nothing
abbrev pub Stands : {S Symbol F EF O : Type 0} → Play S Symbol F EF O → Standing → Type 0
Stands play standing.Nowhere = (play.place ≡ place.Nowhere) × play.IsHanded Nothing
Stands play standing.Sent = play.place ≡ place.Sent
Stands play standing.Found = (play.place ≡ place.Found) × play.IsHanded Nothing
Stands play standing.Carried = (play.place ≡ place.Carried) × play.IsHanded Nothing

pub record StandsSo {S Symbol F EF O : Type 0} (play : Play S Symbol F EF O) (standing : Standing) : Type 0 where
  pub so : Stands play standing
