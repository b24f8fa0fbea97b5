-- Runs of scripts: steps, each with its value.
use Rattle.std.specs.{Prelude.{ℕ, ◌+◌, List, [], ◌∷◌, ◌++◌, length, map, Option, Some, IsSome}, List.AllByRecursion}
use Rattle.p3_fs_core.specs.Steps.{Step}
use Rattle.p3_runs.specs.{Absorbed.Absorbed, Plays.{Play, Place, Sent, Found, Carried}, Values.{Value, Challenge}}

-- The value as a list if its place says so: if the proof carries it, the prover is handed it, the caller carries
-- it, or the prover finds it as a witness.
abbrev pub if_in_proof : {V : Type 0} → Place → V → List V
if_in_proof Sent v = v ∷ []
if_in_proof Found v = v ∷ []
if_in_proof _ v = []

abbrev pub if_sent : {V : Type 0} → Place → V → List V
if_sent Sent v = v ∷ []
if_sent _ v = []

abbrev pub if_carried : {V : Type 0} → Place → V → List V
if_carried Carried v = v ∷ []
if_carried _ v = []

abbrev pub if_witness : {V : Type 0} → Place → V → List V
if_witness Found v = v ∷ []
if_witness Carried v = v ∷ []
if_witness _ v = []

-- the challenge of a step, if it has one
abbrev pub if_drawn : {A : Type 0} → Option (Option A) → List A
if_drawn (Some (Some x)) = x ∷ []
if_drawn _ = []

-- the number of carried values at steps with these places
abbrev pub carried_among : {X : Type 0} → (X → Place) → List X → ℕ
carried_among place [] = 0
carried_among place (x ∷ steps) = length (if_carried (place x) (tt {0})) + carried_among place steps

module _ {X S Symbol F EF O : Type 0} (play : X → Play S Symbol F EF O) where
  -- the pattern that the steps play
  abbrev pub interactions : List X → List Step
  interactions steps = map (λ x. (play x).interaction) steps

  -- each step may be played
  abbrev pub AreAdmitted : List X → Type 0
  AreAdmitted steps = AllByRecursion (λ x. (play x).admitted) steps

  -- the bytes of the proof: those of each step, in order
  abbrev pub wires : List X → List (Value F EF) → List ℕ
  wires (x ∷ steps) (v ∷ values) = (play x).wire v ++ wires steps values
  wires _ _ = []

  -- the symbols fed to the challenger: those of each step, in order
  abbrev pub symbols : List X → List (Value F EF) → List Symbol
  symbols (x ∷ steps) (v ∷ values) = ((play x).effect v).symbols ++ symbols steps values
  symbols _ _ = []

  -- what each step absorbs
  abbrev pub absorbed : List X → List (Value F EF) → List (Absorbed F O)
  absorbed (x ∷ steps) (v ∷ values) = (play x).absorbed v ∷ absorbed steps values
  absorbed _ _ = []

  -- the values in the proof, those that the prover is handed, those that the caller carries, and all witnesses
  abbrev pub picked : (Place → Value F EF → List (Value F EF)) → List X → List (Value F EF) → List (Value F EF)
  picked pick (x ∷ steps) (v ∷ values) = pick (play x).place v ++ picked pick steps values
  picked pick _ _ = []

  abbrev pub in_proof : List X → List (Value F EF) → List (Value F EF)
  in_proof steps values = picked if_in_proof steps values

  abbrev pub handed : List X → List (Value F EF) → List (Value F EF)
  handed steps values = picked if_sent steps values

  abbrev pub carried : List X → List (Value F EF) → List (Value F EF)
  carried steps values = picked if_carried steps values

  abbrev pub witnesses : List X → List (Value F EF) → List (Value F EF)
  witnesses steps values = picked if_witness steps values

  -- the challenger after the steps
  abbrev pub after : List X → List (Value F EF) → S → S
  after (x ∷ steps) (v ∷ values) s = after steps values (((play x).effect v).after s)
  after _ _ s = s

  -- the challenges that the steps draw
  abbrev pub challenges : List X → List (Value F EF) → S → List (Challenge F EF)
  challenges (x ∷ steps) (v ∷ values) s =
      if_drawn (((play x).effect v).gives s) ++ challenges steps values (((play x).effect v).after s)
  challenges _ _ s = []

  -- each step has one value, which fits; none is too long for the alphabet, no draw meets a limit, and each witness
  -- passes
  abbrev pub Finishes : List X → List (Value F EF) → S → Type 0
  Finishes [] [] s = Unit {0}
  Finishes (x ∷ steps) (v ∷ values) s = (play x).Fits v × ((play x).effect v).fits
      × IsSome (((play x).effect v).gives s) × Finishes steps values (((play x).effect v).after s)
  Finishes _ _ s = ⊥

  -- each witness that a prover finds is the least one that passes
  abbrev pub AreChosen : List X → List (Value F EF) → S → Type 0
  AreChosen (x ∷ steps) (v ∷ values) s =
      (play x).IsChosen s v × AreChosen steps values (((play x).effect v).after s)
  AreChosen _ _ s = Unit {0}

  -- how many witnesses the caller carries
  abbrev pub carried_count : List X → ℕ
  carried_count steps = carried_among (λ x. (play x).place) steps
