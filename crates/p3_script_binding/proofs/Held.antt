-- What a run absorbs a program can hold, where it can hold the script and the proof.
use Rattle.std.proofs.Common.{ℕ, zero, suc, List, [], ◌∷◌, ◌++◌, lit<, length}
use Rattle.p3_challenger_core.specs.Reading.{AreBytes}
use Rattle.p3_fs_core.specs.BigEndian.{count_bytes}
use Rattle.p3_binding.specs.Binding.{IsHeld, AreHeld}
use Rattle.p3_runs.specs.{Plays.Play, Rules.Rules, Runs.{Finishes, wires, absorbed}, Values.Value}
use Rattle.p3_script.specs.Scripts.{play_of}
use Rattle.p3_script_binding.specs.AnswersBound.{AreOwn}
use Rattle.p3_runs.specs.Values as value
use Rattle.p3_script.specs.declared.steps.Step as script
use Rattle.p3_script.specs.declared.steps.Step.TheVariants as step

-- parts of bytes
bytes-first : (a b : List ℕ) → AreBytes (a ++ b) → AreBytes a
bytes-first [] b h i = lit< tt
bytes-first (x ∷ a) b h zero = h zero
bytes-first (x ∷ a) b h (suc i) = bytes-first a b (λ j. h (suc j)) i

bytes-rest : (a b : List ℕ) → AreBytes (a ++ b) → AreBytes b
bytes-rest [] b h = h
bytes-rest (x ∷ a) b h = bytes-rest a b (λ j. h (suc j))

module _ {X S Symbol I F EF O Ac : Type 0} (rules : Rules S Symbol I F EF O Ac) (play : X → Play S Symbol F EF O) where
  -- what a step absorbs is held, where its bytes and what it says of itself are
  abbrev pub EachHeld : Type 0
  EachHeld =
      (x : X) (v : Value F EF) → (play x).Fits v → AreBytes ((play x).wire v) →
      IsHeld rules.IsOwn ((play x).absorbed value.Nothing) → IsHeld rules.IsOwn ((play x).absorbed v)

  pub steps-held : EachHeld → (xs : List X) (vs : List (Value F EF)) (s : S) → Finishes play xs vs s →
      AreOwn rules play xs → AreBytes (wires play xs vs) → AreHeld rules.IsOwn (absorbed play xs vs)
  steps-held held [] [] s p own h = tt
  steps-held held [] (v ∷ vs) s p own h = absurd p
  steps-held held (x ∷ xs) [] s p own h = absurd p
  steps-held held (x ∷ xs) (v ∷ vs) s p own h = (
    held x v p.0 (bytes-first ((play x).wire v) (wires play xs vs) h) own.0,
    steps-held held xs vs _ p.3 own.1 (bytes-rest ((play x).wire v) (wires play xs vs) h),
  )

module _ {S Symbol I F EF O Ac : Type 0} (r : Rules S Symbol I F EF O Ac) {Su U C K D G It St Sy : Type 0} where
  pub step-held : EachHeld r (λ (x : script.Step Su F EF U O C K Ac D G It St Sy). play_of r x)
  step-held (step.Salt label len) (value.Bytes bytes) p h own = h
  step-held (step.Bytes label len) (value.Bytes bytes) p h own = h
  step-held (step.BytesBounded label max) (value.Bytes bytes) p h own =
      bytes-rest (count_bytes max (length bytes)) bytes h
  step-held (step.Hint label len) (value.Bytes bytes) p h own = tt
  step-held (step.HintBounded label max) (value.Bytes bytes) p h own = tt
  step-held (step.Scalar label) (value.Scalar x) p h own = tt
  step-held (step.Scalars label n) (value.Scalars xs) p h own = tt
  step-held (step.ScalarsBounded label max) (value.Scalars xs) p h own = tt
  step-held (step.Extension label) (value.Extension x) p h own = tt
  step-held (step.Opaque label x) v p h own = own
  step-held (step.Pow label zero) (value.Witness x) p h own = tt
  step-held (step.Pow label (suc bits)) (value.Witness x) p h own = tt
  step-held (step.ObservePow label zero) (value.Witness x) p h own = tt
  step-held (step.ObservePow label (suc bits)) (value.Witness x) p h own = tt
  step-held _ _ p h own = tt
