-- The commit phase of FRI, and its queries.
use Rattle.std.specs.Prelude.{◌≡◌, ℕ, ◌==◌, Bool, true, List, [], ◌∷◌, ◌++◌, Some, length, if◌then◌else◌}
use Rattle.std.specs.List.{IsDistinct, list_any}
use Rattle.p3_challenger.specs.{Rounds.AreRounds, Sampling.Sampling}

-- a value is observed, and another is drawn after it as a function of the draw's result
abbrev pub ObservesAndDraws : {S T X Y : Type 0} → (S → T → S) → Sampling S X → (Y → X) → S × List Y → T →
    S × List Y → Type 0
ObservesAndDraws {Y = Y} observed d parts (s, ys) x (t, more) =
    let here = observed s x in
    (y : Y) × (d.sampled here ≡ Some (parts y)) × (more ≡ ys ++ (y ∷ [])) × (t ≡ d.after here)

-- after each observed value one is drawn, as a function of the draw's result; the last draw leaves this state
abbrev pub AreDrawnInTurn : {S T X Y : Type 0} → (S → T → S) → Sampling S X → (Y → X) → List T → List Y → S → S → Type 0
AreDrawnInTurn observed d parts xs ys s t = AreRounds (ObservesAndDraws observed d parts) (s, []) xs (t, ys)

-- the numbers with this one added, unless it is among them
abbrev pub kept_with : List ℕ → ℕ → List ℕ
kept_with kept x = if list_any (λ y. y == x) kept then kept else kept ++ (x ∷ [])

-- a number is drawn, and added unless it is among those drawn before
abbrev pub DrawsAndKeeps : {S : Type 0} → Sampling S ℕ → S × List ℕ → ℕ → S × List ℕ → Type 0
DrawsAndKeeps d (s, kept) x (t, more) = (d.sampled s ≡ Some x) × (more ≡ kept_with kept x) × (t ≡ d.after s)

-- these are the numbers of some draws, each once, and the last draw leaves this state
abbrev pub AreNumbersDrawn : {S : Type 0} → Sampling S ℕ → List ℕ → S → S → Type 0
AreNumbersDrawn d kept s t = (drawn : List ℕ) × AreRounds (DrawsAndKeeps d) (s, []) drawn (t, kept)

-- the given number of different numbers are drawn, each listed where it comes first
pub record AreQueries {S : Type 0} (d : Sampling S ℕ) (count : ℕ) (queries : List ℕ) (s t : S) : Type 0 where
  pub enough : length queries ≡ count
  pub distinct : IsDistinct (λ x y. x == y) queries
  pub drawn : AreNumbersDrawn d queries s t

-- a whole commit phase: the commitments, a check that passes after them, and the queries at the end
pub record IsCommitPhase {S : Type 0} (Commits : S → S → Type 0) (check : Sampling S Bool) (Queries : S → S → Type 0)
    (s t : S) : Type 0 where
  pub here : S
  pub commits : Commits s here
  pub works : check.sampled here ≡ Some true
  pub queries : Queries (check.after here) t
