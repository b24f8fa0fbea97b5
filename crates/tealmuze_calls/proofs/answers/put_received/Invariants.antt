use Rattle.std.proofs.Common.{◌≡◌, ◌++◌, take}
use Rattle.std.specs.List.{flat_map}
use Rattle.p3_challenger.specs.Scripts.{values_received}
use Rattle.tealmuze_calls.specs.Forms.{value_bytes}
use Rattle.tealmuze_calls.proofs.answers.put_received.Given as goal

-- the values so far are there
abbrev pub invariant-loop-value : goal.invariant-loop-value
invariant-loop-value g l =
    l.to.items ≡ l.initial.to.items ++ flat_map (value_bytes g.S.Field.PrimeCharacteristicRing.residues.number
    g.S.Extension.BasedVectorSpace.coefficients) (values_received (take l.value-index l.received))
