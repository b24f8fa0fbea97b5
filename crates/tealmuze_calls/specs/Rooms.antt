-- How many bytes an answer may have.
use Rattle.std.specs.Prelude.{ℕ, ◌+◌, ◌-◌, ◌*◌, ◌^◌, List, min}
use Rattle.std.specs.List.{sum_by}
use Rattle.p3_challenger.specs.Step as script
use Rattle.p3_challenger.specs.Step.TheVariants as step

module _ {Su F EF U O C K Ac D G It St Sy : Type 0} (dimension : ℕ) where
  -- how many bytes there are for what a step draws, where an element of the extension has so many coefficients
  abbrev pub drawn_room : script.Step Su F EF U O C K Ac D G It St Sy → ℕ
  drawn_room (step.ChallengeScalar label) = 8
  drawn_room (step.ChallengeScalars label n) = n * 8
  drawn_room (step.ChallengeExtension label) = dimension * 8
  drawn_room (step.ChallengeExtensions label n) = n * (dimension * 8)
  drawn_room (step.ChallengeBits label width n) = n * 8
  drawn_room (step.ChallengeUniformBits label width n) = n * 8
  drawn_room _ = 0

  -- So many bytes an answer may have, of these steps and of a proof or values of this length; or the greatest number.
  abbrev pub room_for : List (script.Step Su F EF U O C K Ac D G It St Sy) → ℕ → ℕ
  room_for steps len = min (1024 + len * 8 + sum_by (λ s. 40 + drawn_room s) steps) (2 ^ 64 - 1)
