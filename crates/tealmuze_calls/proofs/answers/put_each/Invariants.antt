use Rattle.std.proofs.Common.{◌≡◌, ◌++◌, take}
use Rattle.std.specs.List.{flat_map}
use Rattle.tealmuze_calls.specs.Forms.{number_bytes}
use Rattle.tealmuze_calls.proofs.answers.put_each.Given as goal

-- the scalars so far are there
abbrev pub invariant-loop-scalar : goal.invariant-loop-scalar
invariant-loop-scalar g l =
    l.to.items ≡ l.initial.to.items ++ flat_map (λ x. number_bytes (g.F.PrimeCharacteristicRing.residues.number x))
    (take l.scalar-index l.scalars)
