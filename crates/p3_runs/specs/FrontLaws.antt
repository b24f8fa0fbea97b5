-- The steps of a finished prefix of a script are the first steps of its pattern.
use Rattle.std.proofs.Common.{◌≡◌, ℕ, suc, zero, List, [], ◌∷◌, ◌++◌, Some, None, refl, length, take, slice_get, map}
use Rattle.p3_fs_core.specs.{StepFits.{FitsLength, AreProgramSteps}, Steps.Step}
use Rattle.p3_runs.specs.{Fronts.{Run, IsFinished, pattern}, Plays.Play, Rules.Rules, Values.Value, Verdicts.with_steps}
use Rattle.p3_runs.specs.Runs.{AreAdmitted, Finishes, interactions}

-- ---- elements of lists

pub get-past : {A : Type 0} (xs : List A) → slice_get xs (length xs) ≡ None
get-past [] = refl
get-past (x ∷ xs) = get-past xs

get-middle : {A B : Type 0} (f : A → B) (xs : List A) (x : A) (ys : List A) →
    slice_get (map f (xs ++ (x ∷ ys))) (length xs) ≡ Some (f x)
get-middle f [] x ys = refl
get-middle f (y ∷ xs) x ys = get-middle f xs x ys

get-of_take : {A : Type 0} (xs : List A) (n k : ℕ) (y : A) → slice_get (take n xs) k ≡ Some y → slice_get xs k ≡ Some y
get-of_take xs zero k y h = absurd (cc)
get-of_take [] (suc n) k y h = absurd (cc)
get-of_take (x ∷ xs) (suc n) zero y h = h
get-of_take (x ∷ xs) (suc n) (suc k) y h = get-of_take xs n k y h

-- ---- facts of each step

program-take : (xs : List Step) (n : ℕ) → AreProgramSteps xs → AreProgramSteps (take n xs)
program-take xs zero h = tt
program-take [] (suc n) h = tt
program-take (x ∷ xs) (suc n) h = (h.0, program-take xs n h.1)

module _ {X S Symbol F EF O : Type 0} (play : X → Play S Symbol F EF O) where
  pub next-fits : (front : List X) (x : X) (later : List X) → AreProgramSteps (interactions play (front ++ (x ∷ later))) →
      FitsLength (play x).interaction.length
  next-fits [] x later fit = fit.0.fits.carried
  next-fits (y ∷ front) x later fit = next-fits front x later fit.1

  pub next-admitted : (front : List X) (x : X) (later : List X) → AreAdmitted play (front ++ (x ∷ later)) →
      (play x).admitted
  next-admitted [] x later all = all.0
  next-admitted (y ∷ front) x later all = next-admitted front x later all.1

  -- no steps have no values
  pub no_values-left : (more : List (Value F EF)) (s : S) → Finishes play [] more s → more ≡ []
  no_values-left [] s h = refl
  no_values-left (v ∷ more) s h = absurd h

-- ---- a finished prefix

module _ {X S Symbol I F EF O Ac : Type 0} (rules : Rules S Symbol I F EF O Ac) (play : X → Play S Symbol F EF O)
    (script : Run X F EF S) where
  -- the steps of a finished prefix fit their types
  pub front-fits : (front : List X) (values : List (Value F EF)) →
      IsFinished rules play (with_steps script front values) → AreProgramSteps (interactions play front)
  front-fits front values finished =
      rw finished.in_pattern (program-take (pattern script) (length front) script.separator.pattern.fit)

  -- each step of a finished prefix is the next one of the pattern at its place
  pub front-next : (front : List X) (x : X) (later : List X) (values : List (Value F EF)) →
      IsFinished rules play (with_steps script (front ++ (x ∷ later)) values) →
      slice_get (pattern script) (length front) ≡ Some (play x).interaction
  front-next front x later values finished =
      get-of_take (pattern script) (length (front ++ (x ∷ later))) (length front) (play x).interaction
      (rw (← finished.in_pattern) (get-middle (λ y. (play y).interaction) front x later))
