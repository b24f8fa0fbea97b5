use Rattle.std.proofs.Common.{◌≡◌, ◌++◌, take}
use Rattle.std.specs.List.{flat_map}
use Rattle.p3_challenger.specs.Scripts.{challenges_of}
use Rattle.tealmuze_calls.specs.Forms.{challenge_bytes}
use Rattle.tealmuze_calls.proofs.answers.put_challenges.Given as goal

-- what was drawn so far is there
abbrev pub invariant-loop-drawn : goal.invariant-loop-drawn
invariant-loop-drawn g l =
    l.to.items ≡ l.initial.to.items ++ flat_map (challenge_bytes g.S.Field.PrimeCharacteristicRing.residues.number
    g.S.Extension.BasedVectorSpace.coefficients) (challenges_of (take l.drawn-index l.challenges))
