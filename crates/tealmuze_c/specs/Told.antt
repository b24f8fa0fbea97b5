-- What is told by the calls that hand out, and by those of a transcript.
use Rattle.std.specs.Prelude.{◌≡◌, ◌⊎◌, ℕ, List, ◌∷◌, [], take}
use Rattle.tealmuze_calls.specs.Written.{Answers, IsTold, IsUnasked, IsWanted}
use Rattle.tealmuze_live.specs.Lives.{TellsSeedRefused}

-- The answer is the byte 0 alone: the description was read, and is kept.
abbrev pub IsPrepared : (returned : ℕ) (after : List ℕ) → Type 0
IsPrepared returned after = (returned ≡ 1) × (take 1 after ≡ 0 ∷ [])

-- The answer is the byte 0 alone: a transcript was begun.
abbrev pub IsBegun : (returned : ℕ) (after : List ℕ) → Type 0
IsBegun returned after = (returned ≡ 1) × (take 1 after ≡ 0 ∷ [])

-- A call that begins a transcript tells that, or that the seed is refused, or that memory ran out; or wants 1009 bytes.
abbrev pub Begins : (before : List ℕ) (returned : ℕ) (after : List ℕ) → Type 0
Begins = Answers (λ told. (told ≡ 0 ∷ []) ⊎ TellsSeedRefused told) (Unit {0}) (λ wanted. wanted ≡ 1009)

-- What a call that is given a request does of a transcript: what it tells is told of that; or nothing was asked that can be
-- answered, and the transcript is as it was; or memory ran out. Or more bytes are wanted, and the transcript is as it was.
abbrev pub IsStep : {T : Type 0} → (T → List ℕ → List ℕ → T → Type 0) → T → (request before : List ℕ) → T →
    (after : List ℕ) (returned : ℕ) → Type 0
IsStep tells was request before is after returned =
    IsTold (λ told. tells was request told is ⊎ ((IsUnasked told × (is ≡ was)) ⊎ (told ≡ 3 ∷ []))) before returned after
    ⊎ IsWanted (λ wanted. is ≡ was) before returned after
