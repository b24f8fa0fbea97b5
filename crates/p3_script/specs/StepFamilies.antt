-- The families of script steps, by which functions over all kinds of steps are split.
use Rattle.p3_script.specs.declared.steps.Step as script
use Rattle.p3_script.specs.declared.steps.Step.TheVariants as step

module _ {Su F EF U O C K Ac D G It St Sy : Type 0} where
  -- the step sends nothing: it is a marker, a value that both sides know, or a draw
  abbrev pub SendsNothing : script.Step Su F EF U O C K Ac D G It St Sy → Type 0
  SendsNothing (step.Salt label len) = ⊥
  SendsNothing (step.Bytes label len) = ⊥
  SendsNothing (step.Hint label len) = ⊥
  SendsNothing (step.BytesBounded label max) = ⊥
  SendsNothing (step.HintBounded label max) = ⊥
  SendsNothing (step.Scalar label) = ⊥
  SendsNothing (step.Scalars label n) = ⊥
  SendsNothing (step.ScalarsBounded label max) = ⊥
  SendsNothing (step.Extension label) = ⊥
  SendsNothing (step.Pow label bits) = ⊥
  SendsNothing (step.ObservePow label bits) = ⊥
  SendsNothing _ = Unit {0}

  -- the step draws a challenge
  abbrev pub Draws : script.Step Su F EF U O C K Ac D G It St Sy → Type 0
  Draws (step.ChallengeScalar label) = Unit {0}
  Draws (step.ChallengeScalars label n) = Unit {0}
  Draws (step.ChallengeExtension label) = Unit {0}
  Draws (step.ChallengeExtensions label n) = Unit {0}
  Draws (step.ChallengeExtensionsRejecting label n accept limit) = Unit {0}
  Draws (step.ChallengeBits label width n) = Unit {0}
  Draws (step.ChallengeUniformBits label width n) = Unit {0}
  Draws (step.ChallengeUniformBitsRejecting label width n accept limit) = Unit {0}
  Draws _ = ⊥

  -- Both sides play the step by one method of theirs. It is a marker, a draw, an element of the extension that both sides
  -- know, or an opaque value.
  abbrev pub IsPlayedAlike : script.Step Su F EF U O C K Ac D G It St Sy → Type 0
  IsPlayedAlike (step.Begin label kind) = Unit {0}
  IsPlayedAlike (step.End label kind) = Unit {0}
  IsPlayedAlike (step.ObserveExtension label x) = Unit {0}
  IsPlayedAlike (step.Opaque label x) = Unit {0}
  IsPlayedAlike step = Draws step
