-- What each kind of step does to the challenger: it draws, feeds its symbols, and draws.
use Rattle.std.proofs.Common.{◌≡◌, ℕ, zero, suc, List, [], ◌∷◌, ◌++◌, Bool, Option, Some, None, IsSome, length}
use Rattle.std.{proofs.Common.{flat_map, refl, ap, ◌∙◌}, specs.Option.option_map}
use Rattle.p3_challenger.specs.{Reading.AreBytes, Sponge.IsNonEmpty, Sampling.{Sampling, IsSampling, after_draws}}
use Rattle.p3_challenger.specs.{Observation.{Observation, IsObservation, observed_all}, SamplingLaws.in_row-is_sampling}
use Rattle.p3_challenger.specs.{Steps.algebra_step, Alphabet.AreItems, BigEndian.count_bytes, Kind.TheVariants.Pow}
use Rattle.p3_challenger.specs.{Length.TheVariants.Fixed, FeedingLaws.drawing_rejecting-draws, WorkingLaws.work-feeds}
use Rattle.p3_challenger.specs.{Working.{work_of, checking, where_passed}, Binding.IsHeld, Plays.{giving, no_challenge}}
use Rattle.p3_challenger.specs.{Rules.Rules, Values.Value, Scripts.play_of}
use Rattle.transcript_read_back.specs.AmidLaws.{FedExactly, ObservesExactly, fed-exactly, amid-exactly}
use Rattle.transcript_read_back.specs.AmidLaws.{unchanged-exactly, drawn-exactly, row-exactly}
use Rattle.p3_challenger.specs.Values as value
use Rattle.p3_challenger.specs.Step as script
use Rattle.p3_challenger.specs.Step.TheVariants as step

-- each value is one
abbrev pub Any : {T : Type 0} → T → Type 0
Any x = Unit {0}

-- What a suite's types and its challenger promise of what they feed and draw.
pub record FeedsAndDraws {S Symbol I F EF O Ac : Type 0} (next : S → S) (fed : S → List Symbol → S)
    (rules : Rules S Symbol I F EF O Ac) : Type 0 where
  pub fed_nothing : (s : S) → fed s [] ≡ s
  pub fed_more : (s : S) (a b : List Symbol) → fed (fed s a) b ≡ fed s (a ++ b)
  pub bytes : (bytes : List ℕ) → AreBytes bytes → (s : S) →
      observed_all rules.alphabet.item.observed s (rules.alphabet.items bytes)
      ≡ fed s (flat_map rules.alphabet.item.symbols (rules.alphabet.items bytes))
  pub counts : (max count : ℕ) → AreBytes (count_bytes max count)
  pub scalar : ObservesExactly next fed Any rules.scalar.observation
  pub extension : ObservesExactly next fed Any rules.extension.observation
  pub opaque : ObservesExactly next fed rules.IsOwn rules.opaque
  pub witness : IsObservation fed rules.grinding.witness
  pub witness_some : rules.grinding.is_there → (x : F) → IsNonEmpty (rules.grinding.witness.symbols x)
  pub scalars : IsSampling next rules.scalar.sampling
  pub extensions : IsSampling next rules.extension.sampling
  pub bits : (width : ℕ) → IsSampling next (rules.bits.plain width)
  pub uniform : (width : ℕ) → IsSampling next (rules.bits.uniform width)
  pub before_witness : IsSampling next rules.grinding.before_witness

-- a check that lets a witness pass gives something
gives-some : {W : Type 0} (F EF : Type 0) (x : W) (o : Option Bool) →
    IsSome (option_map (no_challenge {F = F} {EF = EF}) (where_passed x o)) → IsSome o
gives-some F EF x None is = is
gives-some F EF x (Some passes) is = refl

pub each-any : {T : Type 0} (xs : List T) → AreItems Any xs
each-any [] = tt
each-any (x ∷ xs) = (tt, each-any xs)

module _ {S Symbol I F EF O Ac : Type 0} (next : S → S) (fed : S → List Symbol → S) (r : Rules S Symbol I F EF O Ac)
    (laws : FeedsAndDraws next fed r) where
  abbrev Exactly : List Symbol → S → S → Type 0
  Exactly symbols s t = FedExactly next fed symbols s t

  module _ {T : Type 0} (o : Observation S Symbol T) (exactly : ObservesExactly next fed Any o) where
    list-exactly : (xs : List T) (s : S) → observed_all o.observed s xs ≡ fed s (flat_map o.symbols xs)
    list-exactly xs s = row-exactly next fed laws.fed_nothing laws.fed_more Any o exactly xs (each-any xs) s

    -- a list after the bytes of its count
    counted-exactly : (max : ℕ) (xs : List T) (s : S) →
        let count = r.alphabet.items (count_bytes max (length xs)) in
        observed_all o.observed (observed_all r.alphabet.item.observed s count) xs
        ≡ fed s (flat_map r.alphabet.item.symbols count ++ flat_map o.symbols xs)
    counted-exactly max xs s =
        let count = r.alphabet.items (count_bytes max (length xs)) in
        list-exactly xs (observed_all r.alphabet.item.observed s count)
        ∙ ap (λ t. fed t (flat_map o.symbols xs))
        (laws.bytes (count_bytes max (length xs)) (laws.counts max (length xs)) s)
        ∙ laws.fed_more s (flat_map r.alphabet.item.symbols count) (flat_map o.symbols xs)

  -- bytes after those of their count
  counted_bytes-exactly : (max : ℕ) (bytes : List ℕ) (s : S) → AreBytes bytes →
      let count = r.alphabet.items (count_bytes max (length bytes)) in
      let items = r.alphabet.items bytes in
      observed_all r.alphabet.item.observed (observed_all r.alphabet.item.observed s count) items
      ≡ fed s (flat_map r.alphabet.item.symbols count ++ flat_map r.alphabet.item.symbols items)
  counted_bytes-exactly max bytes s are =
      let count = r.alphabet.items (count_bytes max (length bytes)) in
      let items = r.alphabet.items bytes in
      laws.bytes bytes are (observed_all r.alphabet.item.observed s count)
      ∙ ap (λ t. fed t (flat_map r.alphabet.item.symbols items))
      (laws.bytes (count_bytes max (length bytes)) (laws.counts max (length bytes)) s)
      ∙ laws.fed_more s (flat_map r.alphabet.item.symbols count) (flat_map r.alphabet.item.symbols items)

  draws-exactly : {T : Type 0} (d : Sampling S T) → IsSampling next d → (n : ℕ) (s : S) →
      Exactly [] s (after_draws d n s)
  draws-exactly d is n s = drawn-exactly next fed laws.fed_nothing s _ ((in_row-is_sampling next d is n).steps s)

  work-exactly : (label : List ℕ) (bits len : ℕ) (x : F) (s : S) → r.grinding.is_there →
      let effect = giving (no_challenge {F = F} {EF = EF}) (checking (work_of (algebra_step Pow label r.scalar.algebra
      (Fixed len)) r.residues r.grinding.before_witness r.grinding.witness r.bits.plain bits) x) in
      IsSome (effect.gives s) → Exactly effect.symbols s (effect.after s)
  work-exactly label zero len x s there gives = unchanged-exactly next fed laws.fed_nothing s
  work-exactly label (suc more) len x s there gives =
      amid-exactly next fed (r.grinding.witness.symbols x) s _ (laws.witness_some there x)
      ((work-feeds next fed laws.fed_nothing laws.fed_more r.grinding.before_witness laws.before_witness
      r.grinding.witness laws.witness r.bits.plain laws.bits (algebra_step Pow label r.scalar.algebra (Fixed len))
      r.residues (suc more) x).feeds s (gives-some F EF x _ gives))

  module _ {Su U C K D G It St Sy : Type 0} where
    pub step-exactly : (x : script.Step Su F EF U O C K Ac D G It St Sy) (v : Value F EF) (s : S) →
        (play_of r x).Fits v → IsHeld r.IsOwn ((play_of r x).absorbed v) → IsSome (((play_of r x).effect v).gives s) →
        Exactly ((play_of r x).effect v).symbols s (((play_of r x).effect v).after s)
    step-exactly (step.Begin label kind) v s h b g = unchanged-exactly next fed laws.fed_nothing s
    step-exactly (step.End label kind) v s h b g = unchanged-exactly next fed laws.fed_nothing s
    step-exactly (step.Salt label len) (value.Bytes text) s h b g = fed-exactly next fed _ s _ (laws.bytes text b s)
    step-exactly (step.Bytes label len) (value.Bytes text) s h b g = fed-exactly next fed _ s _ (laws.bytes text b s)
    step-exactly (step.Hint label len) (value.Bytes text) s h b g = unchanged-exactly next fed laws.fed_nothing s
    step-exactly (step.BytesBounded label max) (value.Bytes text) s h b g =
        fed-exactly next fed _ s _ (counted_bytes-exactly max text s b)
    step-exactly (step.HintBounded label max) (value.Bytes text) s h b g = unchanged-exactly next fed laws.fed_nothing s
    step-exactly (step.PublicScalar label x) v s h b g = fed-exactly next fed _ s _ (laws.scalar x tt s)
    step-exactly (step.PublicScalars label xs) v s h b g =
        fed-exactly next fed _ s _ (list-exactly r.scalar.observation laws.scalar xs.items s)
    step-exactly (step.PublicScalarsBounded label xs max) v s h b g =
        fed-exactly next fed _ s _ (counted-exactly r.scalar.observation laws.scalar max xs.items s)
    step-exactly (step.Scalar label) (value.Scalar x) s h b g = fed-exactly next fed _ s _ (laws.scalar x tt s)
    step-exactly (step.Scalars label len) (value.Scalars xs) s h b g =
        fed-exactly next fed _ s _ (list-exactly r.scalar.observation laws.scalar xs s)
    step-exactly (step.ScalarsBounded label max) (value.Scalars xs) s h b g =
        fed-exactly next fed _ s _ (counted-exactly r.scalar.observation laws.scalar max xs s)
    step-exactly (step.Extension label) (value.Extension x) s h b g = fed-exactly next fed _ s _ (laws.extension x tt s)
    step-exactly (step.ObserveExtension label x) v s h b g = fed-exactly next fed _ s _ (laws.extension x tt s)
    step-exactly (step.ObserveExtensions label xs) v s h b g =
        fed-exactly next fed _ s _ (list-exactly r.extension.observation laws.extension xs.items s)
    step-exactly (step.ObserveExtensionsBounded label xs max) v s h b g =
        fed-exactly next fed _ s _ (counted-exactly r.extension.observation laws.extension max xs.items s)
    step-exactly (step.Opaque label x) v s h b g = fed-exactly next fed _ s _ (laws.opaque x b s)
    step-exactly (step.ChallengeScalar label) v s h b g =
        drawn-exactly next fed laws.fed_nothing s _ (laws.scalars.steps s)
    step-exactly (step.ChallengeScalars label len) v s h b g = draws-exactly r.scalar.sampling laws.scalars len s
    step-exactly (step.ChallengeExtension label) v s h b g =
        drawn-exactly next fed laws.fed_nothing s _ (laws.extensions.steps s)
    step-exactly (step.ChallengeExtensions label len) v s h b g =
        draws-exactly r.extension.sampling laws.extensions len s
    step-exactly (step.ChallengeExtensionsRejecting label len accept limit) v s h b g =
        drawn-exactly next fed laws.fed_nothing s _ ((drawing_rejecting-draws next r.extension.sampling laws.extensions
        (r.accepts_extension accept) {Symbol = Symbol} limit len).steps s)
    step-exactly (step.ChallengeBits label width len) v s h b g =
        draws-exactly (r.bits.plain width) (laws.bits width) len s
    step-exactly (step.ChallengeUniformBits label width len) v s h b g =
        draws-exactly (r.bits.uniform width) (laws.uniform width) len s
    step-exactly (step.ChallengeUniformBitsRejecting label width len accept limit) v s h b g =
        drawn-exactly next fed laws.fed_nothing s _ ((drawing_rejecting-draws next (r.bits.uniform width)
        (laws.uniform width) (r.accepts_bits accept) {Symbol = Symbol} limit len).steps s)
    step-exactly (step.Pow label bits) (value.Witness x) s h b g = work-exactly label.now bits bits x s h g
    step-exactly (step.ObservePow label bits) (value.Witness x) s h b g = work-exactly label.now bits bits x s h g
    step-exactly _ _ s h b g = absurd h
