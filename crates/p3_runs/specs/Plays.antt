-- The meaning of a script's step, computed from the step by a few shapes for all kinds of steps.
use Rattle.std.specs.{Prelude.{◌≡◌, ℕ, ◌≤◌, List, [], length, Option, Some, None}, Option.option_map}
use Rattle.p3_fs_core.specs.{Encoding.Encoding, Steps.Step}
use Rattle.p3_driver_core.specs.{Effects.{Effect, untouched}, Transcripts.Meaning}
use Rattle.p3_driver_core.specs.Working.{Work, checking}
use Rattle.p3_grinding.specs.Checks.{IsLeast}
use Rattle.p3_runs.specs.{Absorbed.{Absorbed, Nothing}, Values.{witness_in, Challenge, IsNothing, Value}}

-- Where the value of a step stands. There is none, the prover is handed it and the proof carries it, or it is a witness
-- that the prover finds. A witness is carried by the proof or by the caller.
pub data Place : Type 0 where
  Nowhere : Place
  Sent : Place
  Found : Place
  Carried : Place

-- The meaning of a step. It has the pattern's next step, the condition under which the step may be played, the place of
-- its value, and the values that fit. For each value it has the bytes in the proof, the effect on the challenger with a
-- possible challenge, and what is absorbed. Of the prover it has the values that it may be handed, and those that it
-- may choose itself.
pub record Play (S Symbol F EF O : Type 0) : Type 1 where
  pub interaction : Step
  pub admitted : Type 0
  pub place : Place
  pub IsHanded : Value F EF → Type 0
  pub IsChosen : S → Value F EF → Type 0
  pub Fits : Value F EF → Type 0
  pub wire : Value F EF → List ℕ
  pub effect : Value F EF → Effect S Symbol (Option (Challenge F EF))
  pub absorbed : Value F EF → Absorbed F O

-- the step with its value, as drivers play it
abbrev pub meaning : {S Symbol F EF O : Type 0} → Play S Symbol F EF O → Value F EF →
    Meaning S Symbol (Option (Challenge F EF))
meaning play v = record { interaction = play.interaction; effect = play.effect v; wire = play.wire v }

-- the same effect, with a function of its result
abbrev pub giving : {S Symbol A T : Type 0} → (A → T) → Effect S Symbol A → Effect S Symbol T
giving f e = record {
  symbols = e.symbols;
  fits = e.fits;
  gives = λ s. option_map f (e.gives s);
  after = e.after;
  refuses = e.refuses;
}

abbrev pub no_challenge : {F EF A : Type 0} → A → Option (Challenge F EF)
no_challenge x = None

-- the step, which may be played only under this condition
abbrev pub only_if : {S Symbol F EF O : Type 0} → Type 0 → Play S Symbol F EF O → Play S Symbol F EF O
only_if condition play = record play { admitted = condition }

-- of what was found, if anything was
abbrev pub holds_some : {A : Type 0} → (A → Type 0) → Option A → Type 0
holds_some P None = ⊥
holds_some P (Some x) = P x

-- a prover chooses nothing
abbrev pub NoChoice : {S F EF : Type 0} → S → Value F EF → Type 0
NoChoice s v = Unit {0}

-- ---- the shapes

-- the proof has no bytes of the step, which has this effect
abbrev pub known_with : {S Symbol F EF O A : Type 0} → Step → (Value F EF → Type 0) → (A → Option (Challenge F EF)) →
    Effect S Symbol A → Absorbed F O → Play S Symbol F EF O
known_with interaction Fits f effect absorbed = record {
  interaction = interaction;
  admitted = Unit {0};
  place = Nowhere;
  IsHanded = IsNothing;
  IsChosen = NoChoice;
  Fits = Fits;
  wire = λ _. [];
  effect = λ _. giving f effect;
  absorbed = λ _. absorbed;
}

abbrev pub known : {S Symbol F EF O A : Type 0} → Step → (A → Option (Challenge F EF)) → Effect S Symbol A →
    Absorbed F O → Play S Symbol F EF O
known interaction f effect absorbed = known_with interaction IsNothing f effect absorbed

-- the proof has no bytes of a list with a greatest length: the step has this effect
abbrev pub known_within : {S Symbol F EF O A : Type 0} → Step → ℕ → ℕ → Effect S Symbol A → Absorbed F O →
    Play S Symbol F EF O
known_within interaction len max effect absorbed =
    known_with interaction (λ v. IsNothing v × (len ≤ max)) no_challenge effect absorbed

-- ---- what is sent

-- a function of what was found, or another value where nothing was
abbrev pub when_some : {A R : Type 0} → R → (A → R) → Option A → R
when_some other f None = other
when_some other f (Some x) = f x

abbrev pub effect_some : {S Symbol A T : Type 0} → T → (A → Effect S Symbol T) → Option A → Effect S Symbol T
effect_some other f None = untouched other
effect_some other f (Some x) = f x

-- A value is sent if `found` finds one of its type and it fits. It has these bytes in the proof and this effect.
abbrev pub sends : {S Symbol F EF O A : Type 0} → Step → (Value F EF → Option A) → (A → Type 0) → (A → Type 0) →
    (A → List ℕ) → (A → Effect S Symbol A) → (A → Absorbed F O) → Play S Symbol F EF O
sends interaction found IsHanded IsFit wire effect absorbed = record {
  interaction = interaction;
  admitted = Unit {0};
  place = Sent;
  IsHanded = λ v. holds_some IsHanded (found v);
  IsChosen = NoChoice;
  Fits = λ v. holds_some IsFit (found v);
  wire = λ v. when_some [] wire (found v);
  effect = λ v. effect_some None (λ x. giving no_challenge (effect x)) (found v);
  absorbed = λ v. when_some Nothing absorbed (found v);
}

-- ---- proof of work

-- the least witness that passes
abbrev pub IsLeastWitness : {S Symbol F EF : Type 0} → Work S Symbol F → S → Value F EF → Type 0
IsLeastWitness work s v = holds_some (IsLeast work.residues work.check s) (witness_in v)

-- a witness that the prover finds
abbrev pub works : {S Symbol F EF O : Type 0} → Work S Symbol F → Place → Type 0 → (F → List ℕ) →
    (F → Absorbed F O) → Play S Symbol F EF O
works work place condition wire absorbed = record {
  interaction = work.interaction;
  admitted = condition;
  place = place;
  IsHanded = IsNothing;
  IsChosen = IsLeastWitness work;
  Fits = λ v. holds_some (λ _. condition) (witness_in v);
  wire = λ v. when_some [] wire (witness_in v);
  effect = λ v. effect_some None (λ x. giving no_challenge (checking work x)) (witness_in v);
  absorbed = λ v. when_some Nothing absorbed (witness_in v);
}

-- a witness that the prover finds and the proof carries
abbrev pub sends_witness : {S Symbol F EF O : Type 0} → Work S Symbol F → Type 0 → Encoding F →
    (F → Absorbed F O) → Play S Symbol F EF O
sends_witness work condition enc absorbed = works work Found condition enc.wire absorbed

-- a witness that the prover finds and the caller carries
abbrev pub carries_witness : {S Symbol F EF O : Type 0} → Work S Symbol F → Type 0 → (F → Absorbed F O) →
    Play S Symbol F EF O
carries_witness work condition absorbed = works work Carried condition (λ _. []) absorbed

-- ---- values that fit by their length

abbrev pub Any : {A : Type 0} → A → Type 0
Any x = Unit {0}

abbrev pub HasLength : {A : Type 0} → ℕ → List A → Type 0
HasLength n xs = length xs ≡ n

abbrev pub HasAtMost : {A : Type 0} → ℕ → List A → Type 0
HasAtMost max xs = length xs ≤ max
