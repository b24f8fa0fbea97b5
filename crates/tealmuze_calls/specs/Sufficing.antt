-- What a caller is told who gives as many bytes as are wanted.
use Rattle.std.specs.Prelude.{◌⊎◌, ℕ, ◌≤◌, List, length}
use Rattle.tealmuze_calls.specs.{Readings.FitsWord, Written.{Answers, IsNoVerdict, IsTold}}

-- A call that is given as many bytes as are wanted tells a verdict, or why it gives none, and that fits in. What it
-- returns is a number of 64 bits.
abbrev pub RoomSuffices : (IsVerdict : List ℕ → Type 0) (IsAsked : Type 0) (Wants : ℕ → Type 0) → Type 0
RoomSuffices IsVerdict IsAsked Wants = (before after : List ℕ) (returned wanted : ℕ) → FitsWord returned →
    Answers IsVerdict IsAsked Wants before returned after → Wants wanted → wanted ≤ length before →
    IsTold (λ told. IsVerdict told ⊎ IsNoVerdict IsAsked told) before returned after × (returned ≤ length before)
