-- Values that the challenger does not observe.
use Rattle.std.specs.Prelude.{◌≡◌, zero, List, [], ◌∷◌}
use Rattle.p3_fs_core.specs.{Steps.Step, declared.step.Kind.Kind, declared.step.Kind.TheVariants.{Hint, Pow}}
use Rattle.p3_fs_core.specs.declared.step.{Length.Length, Length.TheVariants.Fixed}
use Rattle.p3_runs.specs.{Fronts.{Run, IsFinished, challenges, last}, Rules.Rules, Values.Value}
use Rattle.p3_runs.specs.Plays.{Play, Place, Nowhere, Sent, Found, Carried}

-- ---- values of one step

-- hints and witnesses of 0 bits may be any; other values are the same
abbrev pub SameOfKind : {V : Type 0} → Kind → Length → V → V → Type 0
SameOfKind Hint length v w = Unit {0}
SameOfKind Pow (Fixed zero) v w = Unit {0}
SameOfKind _ length v w = v ≡ w

-- the values of a step are the same, except that hints and witnesses of 0 bits may be any
abbrev pub SameButHint : {V : Type 0} → Step → V → V → Type 0
SameButHint step v w = SameOfKind step.kind step.length v w

-- ---- values of steps

-- Two lists have a value for each step whose value the proof carries. The first values are related in the one way, and
-- the others in the other.
abbrev pub FirstAre : {V : Type 0} → Place → (V → V → Type 0) → (List V → List V → Type 0) → List V → List V → Type 0
FirstAre Nowhere Same Others vs ws = Others vs ws
FirstAre Carried Same Others vs ws = Others vs ws
FirstAre Sent Same Others (v ∷ vs) (w ∷ ws) = Same v w × Others vs ws
FirstAre Found Same Others (v ∷ vs) (w ∷ ws) = Same v w × Others vs ws
FirstAre _ Same Others _ _ = ⊥

module _ {X S Symbol F EF O : Type 0} (play : X → Play S Symbol F EF O) where
  -- the values at the steps are the same except for hints and witnesses of 0 bits
  abbrev pub SameButHints : List X → List (Value F EF) → List (Value F EF) → Type 0
  SameButHints [] [] [] = Unit {0}
  SameButHints (x ∷ steps) (v ∷ values) (w ∷ others) =
      SameButHint (play x).interaction v w × SameButHints steps values others
  SameButHints _ _ _ = ⊥

  -- the values that a verifier receives are the same except for hints and witnesses of 0 bits
  abbrev pub ReceivedButHints : List X → List (Value F EF) → List (Value F EF) → Type 0
  ReceivedButHints [] received again = (received ≡ []) × (again ≡ [])
  ReceivedButHints (x ∷ steps) received again =
      FirstAre (play x).place (SameButHint (play x).interaction) (ReceivedButHints steps) received again

-- ---- runs

module _ {X S Symbol I F EF O Ac : Type 0} (rules : Rules S Symbol I F EF O Ac) (play : X → Play S Symbol F EF O) where
  -- the challenges are the same, and so are the final challengers
  pub record SameEnds (x y : Run X F EF S) : Type 0 where
    pub draws : challenges rules play x ≡ challenges rules play y
    pub ends : last rules play x ≡ last rules play y

-- Hints do not influence challenges. Finished runs of one script, separator and challenger have the same challenges
-- and final challengers, if their values are the same except for hints and witnesses of 0 bits.
abbrev pub HintsDoNotInfluence : {X S Symbol I F EF O Ac : Type 0} → Rules S Symbol I F EF O Ac →
    (X → Play S Symbol F EF O) → Type 0
HintsDoNotInfluence {X} {S} {Symbol} {I} {F} {EF} rules play = (x : Run X F EF S) (others : List (Value F EF)) →
    IsFinished rules play x → IsFinished rules play (record x { values = others }) →
    SameButHints play x.steps x.values others → SameEnds rules play x (record x { values = others })
