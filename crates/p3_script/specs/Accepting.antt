-- The rules of draws that may be rejected.
use Rattle.std.specs.{Prelude.{Bool, List, not}, List.list_any}

-- the candidate equals none of the elements kept before it
abbrev pub is_new : {T : Type 0} → (T → T → Bool) → T → List T → Bool
is_new eq candidate kept = not (list_any (λ y. eq y candidate) kept)
