-- What is sent at a step, and that a witness is the least one, tells its value.
use Rattle.std.proofs.Common.{◌≡◌, [], ◌∷◌, ap, Bool, arith, rules}
use Rattle.p3_challenger_core.specs.Sampling.{Sampling}
use Rattle.p3_field_core.specs.Residues.{Residues, IsResidues}
use Rattle.p3_grinding.specs.Checks.{IsLeast}
use Rattle.p3_runs.specs.{Plays.{Play, holds_some}, Rules.Rules, Runs.if_sent, Stepping.IsDetermined}
use Rattle.p3_runs.specs.Values.{Value, IsNothing, Witness, witness_in}
use Rattle.p3_script.{specs.Scripts.play_of, proofs.Canonical.nothing-one}
use Rattle.p3_script.specs.declared.steps.Step as script
use Rattle.p3_script.specs.declared.steps.Step.TheVariants as step

-- there is one least witness
least-one : {S W : Type 0} (r : Residues W) → IsResidues r → (check : W → Sampling S Bool) (s : S) (x y : W) →
    IsLeast r check s x → IsLeast r check s y → x ≡ y
least-one r law check s x y a b = grind (arith, law.of_number x, law.of_number y, a.least, b.least, a.passes, b.passes)

sent-one : {F EF : Type 0} (v w : Value F EF) → v ∷ [] ≡ w ∷ [] → v ≡ w
sent-one v w same = cc

witness-one : {S F EF : Type 0} (r : Residues F) → IsResidues r → (check : F → Sampling S Bool) (s : S)
    (v w : Value F EF) → holds_some (IsLeast r check s) (witness_in v) → holds_some (IsLeast r check s) (witness_in w) →
    v ≡ w
witness-one r law check s (Witness x) (Witness y) a b = ap Witness (least-one r law check s x y a b)
witness-one r law check s _ _ a b = search rules

-- ---- the shapes

module _ {S Symbol F EF O : Type 0} (play : Play S Symbol F EF O) where
  -- it is nothing, or the least witness
  unsent-determined : ((v w : Value F EF) (s : S) → play.Fits v → play.Fits w → play.IsChosen s v →
      play.IsChosen s w → v ≡ w) → ((v : Value F EF) → play.IsHanded v → IsNothing v) → IsDetermined play
  unsent-determined one given =
      record {
        one_way = λ v w s f g same. one v w s f g;
        one_handed = λ v w f g same. nothing-one v w (given v f) (given w g);
      }

  -- it is sent
  sent-determined : ((v w : Value F EF) → if_sent play.place v ≡ if_sent play.place w → v ≡ w) → IsDetermined play
  sent-determined one =
      record { one_way = λ v w s f g same c d. one v w same; one_handed = λ v w f g same. one v w same }

-- ---- the kinds

module _ {S Symbol I F EF O Ac : Type 0} (rules : Rules S Symbol I F EF O Ac)
    (law : IsResidues rules.residues) where
  pub step-determined : {Su U C K D G It St Sy : Type 0} (x : script.Step Su F EF U O C K Ac D G It St Sy) →
      IsDetermined (play_of rules x)
  step-determined (step.Salt label len) = sent-determined _ sent-one
  step-determined (step.Bytes label len) = sent-determined _ sent-one
  step-determined (step.Hint label len) = sent-determined _ sent-one
  step-determined (step.BytesBounded label max) = sent-determined _ sent-one
  step-determined (step.HintBounded label max) = sent-determined _ sent-one
  step-determined (step.Scalar label) = sent-determined _ sent-one
  step-determined (step.Scalars label n) = sent-determined _ sent-one
  step-determined (step.ScalarsBounded label max) = sent-determined _ sent-one
  step-determined (step.Extension label) = sent-determined _ sent-one
  step-determined (step.Pow label bits) =
      unsent-determined _ (λ v w s f g. witness-one rules.residues law _ s v w) (λ v f. f)
  step-determined (step.ObservePow label bits) =
      unsent-determined _ (λ v w s f g. witness-one rules.residues law _ s v w) (λ v f. f)
  step-determined (step.PublicScalarsBounded label xs max) =
      unsent-determined _ (λ v w s f g c d. nothing-one v w f.0 g.0) (λ v f. f)
  step-determined (step.ObserveExtensionsBounded label xs max) =
      unsent-determined _ (λ v w s f g c d. nothing-one v w f.0 g.0) (λ v f. f)
  step-determined _ = unsent-determined _ (λ v w s f g c d. nothing-one v w f g) (λ v f. f)
