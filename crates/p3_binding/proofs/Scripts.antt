-- Each step of a script absorbs as its step of the pattern says, and feeds as what it absorbs says.
use Rattle.std.proofs.Common.{refl, []}
use Rattle.p3_runs.specs.{Absorbed.Nothing, Rules.Rules}
use Rattle.p3_script.specs.Scripts.{play_of}
use Rattle.p3_binding.proofs.{Lawful.Lawful, Runs.EachTold}
use Rattle.p3_binding.proofs.Told.{Told, Silent, silent, bytes, own, witness, many-told, one-told}
use Rattle.p3_runs.specs.Values as value
use Rattle.p3_script.specs.declared.steps.Step as script
use Rattle.p3_script.specs.declared.steps.Step.TheVariants as step

module _ {S Symbol I F EF O Ac : Type 0} (r : Rules S Symbol I F EF O Ac) (laws : Lawful r)
    {Su U C K D G It St Sy : Type 0} where
  pub step-told : EachTold r (λ (x : script.Step Su F EF U O C K Ac D G It St Sy). play_of r x)
  step-told (step.Salt label len) (value.Bytes text) h b f n = bytes h b f
  step-told (step.Bytes label len) (value.Bytes text) h b f n = bytes h b f
  step-told (step.Hint label len) (value.Bytes text) h b f n = silent
  step-told (step.BytesBounded label max) (value.Bytes text) h b f n = bytes (h, n) b f.1
  step-told (step.HintBounded label max) (value.Bytes text) h b f n = silent
  step-told (step.PublicScalar label x) v h b f n = one-told r laws.scalar x
  step-told (step.PublicScalars label xs) v h b f n = many-told r laws.scalar _ xs.items refl
  step-told (step.PublicScalarsBounded label xs max) v h b f n = many-told r laws.scalar _ xs.items (h.1, n)
  step-told (step.Scalar label) (value.Scalar x) h b f n = one-told r laws.scalar x
  step-told (step.Scalars label len) (value.Scalars xs) h b f n = many-told r laws.scalar _ xs h
  step-told (step.ScalarsBounded label max) (value.Scalars xs) h b f n = many-told r laws.scalar _ xs (h, n)
  step-told (step.Extension label) (value.Extension x) h b f n = one-told r laws.extension x
  step-told (step.ObserveExtension label x) v h b f n = one-told r laws.extension x
  step-told (step.ObserveExtensions label xs) v h b f n = many-told r laws.extension _ xs.items refl
  step-told (step.ObserveExtensionsBounded label xs max) v h b f n = many-told r laws.extension _ xs.items (h.1, n)
  step-told (step.Opaque label x) v h b f n = own b
  step-told (step.Pow label bits) (value.Witness x) h b f n = witness x h
  step-told (step.ObservePow label bits) (value.Witness x) h b f n = witness x h
  step-told _ _ h b f n = let nothing : Told r Silent Nothing [] = silent in search
