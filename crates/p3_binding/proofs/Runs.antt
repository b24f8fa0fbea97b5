-- Runs of equal patterns that feed the same symbols absorbed the same.
use Rattle.std.proofs.{Common.{◌≡◌, ◌⊎◌, inl, inr, List, [], ◌∷◌, length, refl, ap}, lemmas.List.take-map}
use Rattle.p3_fs_core.specs.StepFits.{FitsLength, AreProgramSteps}
use Rattle.p3_patterns.specs.Rendering.{SameButTypeNames, without_type_name}
use Rattle.p3_binding.{specs.Binding.{IsHeld, AreHeld, FeedTheSame}, proofs.Lawful.Lawful}
use Rattle.p3_binding.proofs.Told.{Told, shape_of, told-reads}
use Rattle.p3_runs.specs.{FrontLaws.front-fits, Fronts.{Run, pattern, IsFinished, IsWhole}, Plays.Play, Rules.Rules}
use Rattle.p3_runs.specs.{Runs.{interactions, Finishes, symbols, absorbed}, Values.Value}

module _ {X S Symbol I F EF O Ac : Type 0} (rules : Rules S Symbol I F EF O Ac) (play : X → Play S Symbol F EF O) where
  -- each step absorbs as its step of the pattern says
  abbrev pub EachTold : Type 0
  EachTold =
      (x : X) (v : Value F EF) → (play x).Fits v → IsHeld rules.IsOwn ((play x).absorbed v) →
      ((play x).effect v).fits → FitsLength (play x).interaction.length →
      Told rules (shape_of (play x).interaction) ((play x).absorbed v) ((play x).effect v).symbols

  module _ (laws : Lawful rules) (told : EachTold) where
    -- what each step absorbed, one after another
    steps-bound : (xs ys : List X) (vs ws : List (Value F EF)) (s t : S) →
        SameButTypeNames (interactions play xs) (interactions play ys) →
        AreProgramSteps (interactions play xs) → AreProgramSteps (interactions play ys) →
        Finishes play xs vs s → Finishes play ys ws t →
        AreHeld rules.IsOwn (absorbed play xs vs) → AreHeld rules.IsOwn (absorbed play ys ws) →
        symbols play xs vs ≡ symbols play ys ws → absorbed play xs vs ≡ absorbed play ys ws
    steps-bound (x ∷ xs) (y ∷ ys) (v ∷ vs) (w ∷ ws) s t same i j p q k l e =
        let here : without_type_name (play y).interaction ≡ without_type_name (play x).interaction = cc in
        let there : SameButTypeNames (interactions play xs) (interactions play ys) = cc in
        let shapes : shape_of (play y).interaction ≡ shape_of (play x).interaction = ap shape_of here in
        let read = told-reads rules laws (symbols play xs vs) (symbols play ys ws)
        (told x v p.0 k.0 p.1 i.0.fits.carried) (rw shapes at (told y w q.0 l.0 q.1 j.0.fits.carried)) e in
        let others = steps-bound xs ys vs ws _ _ there i.1 j.1 p.3 q.3 k.1 l.1 read.1 in cc
    steps-bound [] [] [] [] s t same i j p q k l e = refl
    steps-bound _ _ _ _ s t same i j p q k l e = search

    -- whole runs, and fronts of equally many steps
    same-steps : (x y : Run X F EF S) → IsFinished rules play x → IsFinished rules play y →
        (IsWhole rules play x × IsWhole rules play y) ⊎ (length x.steps ≡ length y.steps) →
        SameButTypeNames (pattern x) (pattern y) →
        SameButTypeNames (interactions play x.steps) (interactions play y.steps)
    same-steps x y p q (inl whole) patterns = rw (whole.0, whole.1) patterns
    same-steps x y p q (inr same) patterns = simp (p.in_pattern, q.in_pattern, ← take-map, same, patterns)

    pub absorbed-bound : (x y : Run X F EF S) → FeedTheSame rules play x y →
        SameButTypeNames (pattern x) (pattern y) →
        symbols play x.steps x.values ≡ symbols play y.steps y.values →
        absorbed play x.steps x.values ≡ absorbed play y.steps y.values
    absorbed-bound x y feed patterns e =
        let p = feed.finished.0 in let q = feed.finished.1 in
        steps-bound x.steps y.steps x.values y.values _ _ (same-steps x y p q feed.as_far patterns)
        (front-fits rules play x _ _ p) (front-fits rules play y _ _ q) p.finishes q.finishes feed.held.0 feed.held.1 e
