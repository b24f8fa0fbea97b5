-- The types of the demo protocol.
use Rattle.std.specs.Prelude.{ℕ}
use Rattle.p3_challenger.specs.{AcceptAll.AcceptAll, Both.Both, Hash.Hash, Sha256Hasher.Sha256Hasher, Fronts.Run}
use Rattle.p3_challenger.specs.{FieldToFieldCodec.FieldToFieldCodec, SerializingState.SerializingState, Rules.Rules}
use Rattle.p3_challenger.specs.{FieldUnit.FieldUnit, Values.{Value, Challenge}, HashState.HashState}
use Rattle.p3_field.specs.{Coeffs.Coeffs, BabyBearResidues.BabyBear}
use Rattle.transcript_program.specs.declared.script.Demo.{Demo}
use Rattle.p3_challenger.specs.Step as script

-- a challenger of scalars over the bytes of SHA-256
abbrev pub DemoChallenger : Type 0
DemoChallenger = SerializingState (HashState ℕ Sha256Hasher)

-- a step of its script
abbrev pub DemoStep : Type 0
DemoStep =
    script.Step Demo BabyBear (Coeffs BabyBear 4) (FieldUnit BabyBear) (Hash BabyBear ℕ 32) DemoChallenger
    (FieldToFieldCodec BabyBear) AcceptAll Sha256Hasher Both BabyBear DemoChallenger ℕ

-- what its suite does
abbrev pub DemoRules : Type 1
DemoRules = Rules DemoChallenger ℕ BabyBear BabyBear (Coeffs BabyBear 4) (Hash BabyBear ℕ 32) AcceptAll

-- a run, and what stands at a step and is drawn there
abbrev pub DemoRun : Type 0
DemoRun = Run DemoStep BabyBear (Coeffs BabyBear 4) DemoChallenger

abbrev pub DemoValue : Type 0
DemoValue = Value BabyBear (Coeffs BabyBear 4)

abbrev pub DemoDrawn : Type 0
DemoDrawn = Challenge BabyBear (Coeffs BabyBear 4)
