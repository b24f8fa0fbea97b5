-- Each kind of step, by the laws of what it does.
use Rattle.std.proofs.Common.{subst, ◌∷◌, [], Some, refl, inl, inr}
use Rattle.p3_fs_core.specs.{Steps.algebra_step, ScalarLaws.is_encoding, StepFits.FitsLength}
use Rattle.p3_driver_core.specs.Effects.{untouched}
use Rattle.p3_step_laws.specs.OneReason.{OnlyMemoryRefusesToRead}
use Rattle.p3_runs.specs.{Plays.no_challenge, Values.{IsNothing, bytes_in, scalar_in, scalars_in, extension_in}}
use Rattle.p3_runs.specs.Rules.{Rules}
use Rattle.p3_script.{proofs.{Canonical.step-canonical, Determined.step-determined}, specs.SuiteRules.rules_of}
use Rattle.p3_script.proofs.Possible.{IsRefusedForMemory, known_with-refused, known-refused, counted-refused}
use Rattle.p3_script.proofs.Possible.{sends-refused, within_refused, untouched-tells, witness-refused, carried-refused}
use Rattle.p3_script.{specs.{Scripts.play_of, ScriptRefusals.{sides_of, list_sent, counted_known}}}
use Rattle.p3_script.proofs.laws.script_steps_are_lawful.Given.{Over}
use Rattle.std.specs.Prelude as list
use Rattle.p3_fs_core.specs.declared.step.Kind.TheVariants as kind
use Rattle.p3_fs_core.specs.declared.step.Length.TheVariants as lengths
use Rattle.p3_driver_core.specs.Meanings as meaning
use Rattle.p3_driver_core.specs.Reads as reads
use Rattle.p3_runs.specs.Values as value
use Rattle.p3_script.specs.declared.steps.Step as script
use Rattle.p3_script.specs.declared.steps.Step.TheVariants as step
use Rattle.p3_script.proofs.laws.script_steps_are_lawful.Goals as goal

-- what the bounds of a suite say of its steps
abbrev rules : (g : Over) → Rules g.row.S-Challenger-State.Denot g.row.S-Challenger-Symbol.Denot g.row.S-Unit-Item.Denot
    g.row.S-Field.Denot g.row.S-Extension.Denot g.row.S-Opaque.Denot g.row.S-Accept.Denot
rules g =
    rules_of g.S.Codec.Codec g.S.Field.PrimeCharacteristicRing g.S.Field.Field
    g.S.Field.BasedVectorSpace.DIMENSION g.S.Field.AlgebraIdentity g.S.Field.Named
    g.S.Extension.BasedVectorSpace g.S.Extension.AlgebraIdentity g.S.Extension.Named g.S.Unit.Unit
    g.S.Challenger.CanObserve-1 g.S.Challenger.CanObserve-2 g.S.Suite.is_own g.S.Accept.AcceptRule-1
    g.S.Accept.AcceptRule-2 g.S.Group.StepGroup g.S.Digest.DigestHasher

pub returns : goal.returns
returns g c =
    record {
      canonical = step-canonical (rules g) g.met.S.Codec.Codec.is_codec.encodes.prefix_code c.values_are_a_code.ensures
          (is_encoding _ g.met.S.Field.PrimeCharacteristicRing.are_residues _
          g.met.S.Field.Field.bits_below).prefix_code;
      determined = step-determined (rules g) g.met.S.Field.PrimeCharacteristicRing.are_residues;
      taken = λ x fits may. (refused x fits may).taken;
      sent = λ x fits may. (refused x fits may).sent;
    }
  where
    refused : {Su U C K D G It St Sy : Type 0} (x : script.Step Su g.row.S-Field.Denot g.row.S-Extension.Denot U
        g.row.S-Opaque.Denot C K g.row.S-Accept.Denot D G It St Sy) →
        FitsLength (play_of (rules g) x).interaction.length → (play_of (rules g) x).admitted →
        IsRefusedForMemory (play_of (rules g) x) (sides_of (rules g) x)
    refused (step.Salt label len) fits may =
        sends-refused _ bytes_in _ _ _ _ _ _ (λ x is. cc) (λ x s. refl) c.bytes_tell_limits.ensures.fixed
        (λ x before after e is going h. h) (λ x is.
        subst (λ n. OnlyMemoryRefusesToRead (meaning.sent_bytes kind.Salt label.now (rules g).alphabet x)
        (reads.received_bytes kind.Salt label.now (rules g).alphabet n) x) is
        (c.only_memory_refuses_sent_bytes.ensures.fixed kind.Salt label.now x))
    refused (step.Bytes label len) fits may =
        sends-refused _ bytes_in _ _ _ _ _ _ (λ x is. cc) (λ x s. refl) c.bytes_tell_limits.ensures.fixed
        (λ x before after e is going h. h) (λ x is.
        subst (λ n. OnlyMemoryRefusesToRead (meaning.sent_bytes kind.Message label.now (rules g).alphabet x)
        (reads.received_bytes kind.Message label.now (rules g).alphabet n) x) is
        (c.only_memory_refuses_sent_bytes.ensures.fixed kind.Message label.now x))
    refused (step.Hint label len) fits may =
        sends-refused _ bytes_in _ _ _ _ _ _ (λ bytes is. cc) (λ bytes s. refl) untouched-tells
        (λ bytes before after e is going h. h) (λ bytes is.
        subst (λ n. OnlyMemoryRefusesToRead {S = g.row.S-Challenger-State.Denot}
        {Symbol = g.row.S-Challenger-Symbol.Denot} (meaning.hinted label.now bytes)
        (reads.hint_received label.now n) bytes) is (c.only_memory_refuses_hints.ensures.fixed label.now bytes))
    refused (step.BytesBounded label max) fits may =
        sends-refused _ bytes_in _ _ _ _ _ _ (λ bytes is. refl) (λ bytes s. refl)
        (c.bytes_tell_limits.ensures.counted max)
        (λ bytes before after e. within_refused _ _ max before after e)
        (λ bytes is. c.only_memory_refuses_sent_bytes.ensures.counted label.now max bytes is fits)
    refused (step.HintBounded label max) fits may =
        sends-refused _ bytes_in _ _ _ _ _ _ (λ bytes is. refl) (λ bytes s. refl) untouched-tells
        (λ bytes before after e. within_refused _ _ max before after e)
        (λ bytes is. c.only_memory_refuses_hints.ensures.counted label.now max bytes is fits)
    refused (step.PublicScalar label x) fits may = known-refused _ _ no_challenge _ _
        (c.values_tell_limits.ensures.value x)
    refused (step.PublicScalars label xs) fits may =
        known-refused _ _ no_challenge _ _ (c.values_tell_limits.ensures.list xs.items)
    refused (step.PublicScalarsBounded label xs max) fits may =
        counted-refused (counted_known (rules g) (rules g).scalar kind.Public label.now xs.items max) _ _ _
        (c.values_tell_limits.ensures.counted max xs.items)
    refused (step.Scalar label) fits may =
        sends-refused _ scalar_in _ _ _ _ _ _ (λ x is. refl) (λ x s. refl) c.values_tell_limits.ensures.value
        (λ x before after e is going h. h) (λ x is. c.only_memory_refuses_sent_values.ensures.value _ x)
    refused (step.Scalars label n) fits may =
        sends-refused _ scalars_in _ _ _ _ _ _ (λ xs is. cc) (λ xs s. refl) c.values_tell_limits.ensures.list
        (λ xs before after e is going h. h) (λ xs is.
        subst (λ m. OnlyMemoryRefusesToRead (list_sent (rules g) (rules g).scalar label.now xs)
        (reads.received_list (algebra_step kind.Message label.now (rules g).scalar.algebra (lengths.Fixed m))
        (rules g).scalar.observation (rules g).scalar.encoding m) xs) is
        (c.only_memory_refuses_sent_values.ensures.list _ xs))
    refused (step.ScalarsBounded label max) fits may =
        sends-refused _ scalars_in _ _ _ _ _ _ (λ xs is. refl) (λ xs s. refl) (c.values_tell_limits.ensures.counted max)
        (λ xs before after e. within_refused _ _ max before after e)
        (λ xs is. c.only_memory_refuses_sent_values.ensures.counted _ max xs is fits)
    refused (step.Extension label) fits may =
        sends-refused _ extension_in _ _ _ _ _ _ (λ x is. refl) (λ x s. refl) c.values_tell_limits-2.ensures.value
        (λ x before after e is going h. h) (λ x is. c.only_memory_refuses_sent_values-2.ensures.value _ x)
    refused (step.ObserveExtension label x) fits may =
        known-refused _ _ no_challenge _ _ (c.values_tell_limits-2.ensures.value x)
    refused (step.ObserveExtensions label xs) fits may =
        known_with-refused _ _ IsNothing no_challenge _ _ (c.values_tell_limits-2.ensures.list xs.items) _ _
        (λ v before after e is next refuses. refuses.0)
        (λ v before after e is next refuses. elim refuses.0 [
          | inl h ↦ absurd (c.carried_lists_are_let_through.ensures.recorded (list.length xs.items) _ before after e
              next refl h)
          | inr h ↦ h.1
        ])
    refused (step.ObserveExtensionsBounded label xs max) fits may =
        counted-refused (counted_known (rules g) (rules g).extension kind.Message label.now xs.items max) _ _ _
        (c.values_tell_limits-2.ensures.counted max xs.items)
    refused (step.Opaque label x) fits may = known-refused _ _ no_challenge _ _ (c.opaque_values_tell_limits.ensures x)
    refused (step.ChallengeScalar label) fits may =
        known-refused _ _ (λ x. Some (value.OfScalars (x ∷ []))) _ _ c.draws_tell_limits.ensures.value
    refused (step.ChallengeScalars label n) fits may =
        known-refused _ _ (λ xs. Some (value.OfScalars xs)) _ _ (c.draws_tell_limits.ensures.list n)
    refused (step.ChallengeExtension label) fits may =
        known-refused _ _ (λ x. Some (value.OfExtensions (x ∷ []))) _ _ c.draws_tell_limits-2.ensures.value
    refused (step.ChallengeExtensions label n) fits may =
        known-refused _ _ (λ xs. Some (value.OfExtensions xs)) _ _ (c.draws_tell_limits-2.ensures.list n)
    refused (step.ChallengeExtensionsRejecting label n accept limit) fits may =
        known-refused _ _ (λ xs. Some (value.OfExtensions xs)) _ _
        (c.draws_tell_limits-2.ensures.rejecting ((rules g).accepts_extension accept) limit n)
    refused (step.ChallengeBits label width n) fits may =
        known-refused _ _ (λ xs. Some (value.OfBits xs)) _ _ (c.steps_are_lawful.ensures.bits may.0 width n)
    refused (step.ChallengeUniformBits label width n) fits may =
        known-refused _ _ (λ xs. Some (value.OfBits xs)) _ _ (c.steps_are_lawful.ensures.uniform may.0 width n)
    refused (step.ChallengeUniformBitsRejecting label width n accept limit) fits may =
        known-refused _ _ (λ xs. Some (value.OfBits xs)) _ _
        (c.steps_are_lawful.ensures.rejecting may.0 width ((rules g).accepts_bits accept) limit n)
    refused (step.Pow label bits) fits may =
        witness-refused _ _ _ _ _ _ (rules g).witness_encoding g.met.S.Field.PrimeCharacteristicRing.are_residues
        (c.steps_are_lawful.ensures.read may.0 _ bits)
    refused (step.ObservePow label bits) fits may = carried-refused _ _ _ _ _ _
        g.met.S.Field.PrimeCharacteristicRing.are_residues (c.steps_are_lawful.ensures.carried may.0 _ bits)
    refused _ fits may = known-refused _ _ no_challenge (untouched (tt {0})) _ (untouched-tells (tt {0}))
