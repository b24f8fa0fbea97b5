use Rattle.std.proofs.Common.{◌≡◌, Bool, true, false, [], Result, Ok, inl}
use Rattle.p3_patterns.proofs.state.fault_of_step.Goals as goal

-- what is not taken, though memory was given, may not come next
not_taken : {E : Type 0} (b : Bool) (taken : Result Bool E) → taken ≡ Ok b → (taken ≡ Ok true → ⊥)
    → taken ≡ Ok false
not_taken true taken is refused = absurd (refused is)
not_taken false taken is refused = is

pub returns-in-Ok : goal.returns-in-Ok
returns-in-Ok c =
    let is = not_taken c.in-Ok.field-0 c.args.taken c.in-Ok.is c.requires.not_taken in
    inl (c.requires.stuck is, c.fault_of_next.ensures [])
