use Rattle.std.proofs.Common.{◌≡◌, drop}
use Rattle.p3_challenger.specs.{Observation.observed_all, DuplexState.fed, Turn.turned}
use Rattle.p3_field.specs.F257Residues.{residues}
use Rattle.tests_drivers.proofs.opaque.WorldCanObserveLists.observe_slice.Given as goal

-- what is left to observe leads to the same end
abbrev pub invariant-loop-i : goal.invariant-loop-i
invariant-loop-i l =
    let all = observed_all (λ s lists. fed residues (λ _ cells. turned residues 2 3 cells) 2 s lists.elements) in
    all l.self (drop l.i l.values) ≡ all l.initial.self l.values
