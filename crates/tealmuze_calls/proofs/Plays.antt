-- How a step is played, by its parts in a description.
use Rattle.std.proofs.Common.{ℕ, ◌≡◌, ◌<◌, ◌≤◌, ◌*◌, ◌/◌, List, [], ◌∷◌, cond, nat_eq, get_or, length, length-append, map, refl, ap, sym, subst, ◌∙◌, arith}
use Rattle.std.specs.List.{All, AllByRecursion, flat_map}
use Rattle.std.proofs.lemmas.{List.length-map, List.Elements.{All-head, All-tail}}
use Rattle.std.proofs.Math.Nat.{mul-div_cancel_left, mul-suc, mul-zero}
use Rattle.p3_challenger.specs.{Rules.Rules, Runs.{AreAdmitted, interactions, carried_among, carried_count, if_carried}, Scripts.play_of, Steps.{algebra_step, marker_of, Step}}
use Rattle.p3_challenger.specs.Transcripts.{bytes_step, opaque_step, bits_step, uniform_bits_step}
use Rattle.p3_challenger.specs.{Kind.Kind, Length.Length, Hierarchy.Hierarchy}
use Rattle.p3_challenger.specs.Plays.{Place}
use Rattle.tealmuze_calls.specs.{Descriptions.{kind_number, element_numbers, parts_of, HasForm}, Readings.Parts}
use Rattle.p3_challenger.specs.Hierarchy.TheVariants as hierarchy
use Rattle.p3_challenger.specs.Kind.TheVariants as kind
use Rattle.p3_challenger.specs.Length.TheVariants as lengths
use Rattle.p3_challenger.specs.Plays as place
use Rattle.p3_challenger.specs.Step as script
use Rattle.p3_challenger.specs.Step.TheVariants as step

abbrev pub if_is : {A : Type 0} → ℕ → ℕ → A → A → A
if_is m n x y = cond (nat_eq m n) x y

kind_of : ℕ → Kind
kind_of n = if_is n 0 kind.Protocol (if_is n 1 kind.Public (if_is n 2 kind.Message (if_is n 3 kind.Hint
    (if_is n 4 kind.Challenge (if_is n 5 kind.Pow kind.Salt)))))

kind-again : (k : Kind) → k ≡ kind_of (kind_number k)
unfolding kind_of
kind-again kind.Protocol = refl
kind-again kind.Public = refl
kind-again kind.Message = refl
kind-again kind.Hint = refl
kind-again kind.Challenge = refl
kind-again kind.Pow = refl
kind-again kind.Salt = refl

-- which steps may be played when
data Condition : Type 0 where
  Always : Condition
  IfSecure : Condition
  IfBits : Condition
  IfUniform : Condition
  IfWork : Condition

condition_of : ℕ → Condition
condition_of what =
    if_is what 2 IfSecure (if_is what 3 IfSecure (if_is what 13 IfSecure (if_is what 14 IfSecure
    (if_is what 15 IfWork (if_is what 16 IfWork (if_is what 17 IfBits (if_is what 18 IfUniform Always)))))))

module _ {S Symbol I F EF O Ac : Type 0} (rules : Rules S Symbol I F EF O Ac) (dimension : ℕ) where
  -- the interaction of a step with these parts
  interaction_by : Parts → Step
  interaction_by p =
      let first = get_or p.numbers 0 0 in
      let scalars = λ (kind : Kind) (n : Length). algebra_step kind p.label rules.scalar.algebra n in
      let elements = λ (kind : Kind) (n : Length). algebra_step kind p.label rules.extension.algebra n in
      let marker = λ (h : Hierarchy). marker_of h (kind_of first) p.label rules.marker_name in
      if_is p.what 0 (scalars kind.Message lengths.Scalar)
      (if_is p.what 1 (elements kind.Message lengths.Scalar)
      (if_is p.what 2 (scalars kind.Challenge lengths.Scalar)
      (if_is p.what 3 (elements kind.Challenge lengths.Scalar)
      (if_is p.what 4 (marker hierarchy.Begin)
      (if_is p.what 5 (marker hierarchy.End)
      (if_is p.what 6 (bytes_step kind.Salt p.label (lengths.Fixed first))
      (if_is p.what 7 (bytes_step kind.Message p.label (lengths.Fixed first))
      (if_is p.what 8 (bytes_step kind.Hint p.label (lengths.Fixed first))
      (if_is p.what 9 (bytes_step kind.Message p.label (lengths.Bounded first))
      (if_is p.what 10 (bytes_step kind.Hint p.label (lengths.Bounded first))
      (if_is p.what 11 (scalars kind.Message (lengths.Fixed first))
      (if_is p.what 12 (scalars kind.Message (lengths.Bounded first))
      (if_is p.what 13 (scalars kind.Challenge (lengths.Fixed first))
      (if_is p.what 14 (elements kind.Challenge (lengths.Fixed first))
      (if_is p.what 15 (scalars kind.Pow (lengths.Fixed first))
      (if_is p.what 16 (scalars kind.Pow (lengths.Fixed first))
      (if_is p.what 17 (bits_step p.label first (lengths.Fixed (get_or p.numbers 1 0)))
      (if_is p.what 18 (uniform_bits_step p.label first (lengths.Fixed (get_or p.numbers 1 0)))
      (if_is p.what 19 (scalars kind.Public lengths.Scalar)
      (if_is p.what 20 (scalars kind.Public (lengths.Fixed (length p.numbers)))
      (if_is p.what 21 (elements kind.Message lengths.Scalar)
      (if_is p.what 22 (elements kind.Message (lengths.Fixed (length p.numbers / dimension)))
      (if_is p.what 23 (opaque_step kind.Message p.label lengths.Scalar)
      (if_is p.what 24 (scalars kind.Public (lengths.Bounded first))
      (elements kind.Message (lengths.Bounded first))))))))))))))))))))))))))

  -- the condition of a step with these parts
  admitted_if : Condition → ℕ → Type 0
  admitted_if Always bits = Unit {0}
  admitted_if IfSecure bits = rules.is_secure
  admitted_if IfBits bits = rules.bits.are_there × (bits ≤ rules.bits.most)
  admitted_if IfUniform bits = rules.bits.are_uniform × (bits ≤ rules.bits.most)
  admitted_if IfWork bits = rules.grinding.is_there × (bits ≤ rules.bits.most)

  admitted_by : Parts → Type 0
  admitted_by p = admitted_if (condition_of p.what) (get_or p.numbers 0 0)

-- where the value of a step with these parts stands
pub place_by : Parts → Place
place_by p =
    let what = p.what in
    if_is what 0 place.Sent (if_is what 1 place.Sent (if_is what 6 place.Sent (if_is what 7 place.Sent
    (if_is what 8 place.Sent (if_is what 9 place.Sent (if_is what 10 place.Sent (if_is what 11 place.Sent
    (if_is what 12 place.Sent (if_is what 15 place.Found (if_is what 16 place.Carried place.Nowhere))))))))))

-- elements have as many numbers together as their count times the dimension
length-elements : {F EF : Type 0} (number : F → ℕ) (coefficients : EF → List F) (dimension : ℕ) →
    ((x : EF) → length (coefficients x) ≡ dimension) → (xs : List EF) →
    length (flat_map (element_numbers number coefficients) xs) ≡ dimension * length xs
length-elements number coefficients dimension long [] = omega (arith, mul-zero dimension)
length-elements number coefficients dimension long (x ∷ xs) =
    omega (
      arith,
      length-append (map number (coefficients x)) (flat_map (element_numbers number coefficients) xs),
      length-map (coefficients x) number,
      long x,
      mul-suc dimension (length xs),
      length-elements number coefficients dimension long xs,
    )

module _ {S Symbol I F EF O Ac Su U C K D G : Type 0} (rules : Rules S Symbol I F EF O Ac) (dimension : ℕ)
    (number : F → ℕ) (coefficients : EF → List F) (opaque_numbers : O → List ℕ) (AreOpaque : List ℕ → Type 0)
    (some : 0 < dimension) (long : (x : EF) → length (coefficients x) ≡ dimension) where
  interaction-by_parts : (s : script.Step Su F EF U O C K Ac D G I S Symbol) →
      HasForm number coefficients opaque_numbers AreOpaque s →
      (play_of rules s).interaction ≡ interaction_by rules dimension (parts_of number coefficients opaque_numbers s)
  unfolding interaction_by
  interaction-by_parts (step.Begin label k) formed =
      ap (λ k. marker_of hierarchy.Begin k label.now rules.marker_name) (kind-again k)
  interaction-by_parts (step.End label k) formed =
      ap (λ k. marker_of hierarchy.End k label.now rules.marker_name) (kind-again k)
  interaction-by_parts (step.PublicScalars label xs) formed =
      ap (λ n. algebra_step kind.Public label.now rules.scalar.algebra (lengths.Fixed n)) (sym (length-map xs.items number))
  interaction-by_parts (step.ObserveExtensions label xs) formed =
      ap (λ n. algebra_step kind.Message label.now rules.extension.algebra (lengths.Fixed n))
      (sym (mul-div_cancel_left (length xs.items) some)
      ∙ ap (λ n. n / dimension) (sym (length-elements number coefficients dimension long xs.items)))
  interaction-by_parts (step.ChallengeExtensionsRejecting label n accept limit) formed = absurd formed
  interaction-by_parts (step.ChallengeUniformBitsRejecting label width n accept limit) formed = absurd formed
  interaction-by_parts _ formed = refl

  admitted-by_parts : (s : script.Step Su F EF U O C K Ac D G I S Symbol) →
      HasForm number coefficients opaque_numbers AreOpaque s → (play_of rules s).admitted →
      admitted_by rules dimension (parts_of number coefficients opaque_numbers s)
  unfolding admitted_by admitted_if condition_of
  admitted-by_parts (step.ChallengeExtensionsRejecting label n accept limit) formed = absurd formed
  admitted-by_parts (step.ChallengeUniformBitsRejecting label width n accept limit) formed = absurd formed
  admitted-by_parts _ formed = λ a. a

  admitted-from_parts : (s : script.Step Su F EF U O C K Ac D G I S Symbol) →
      HasForm number coefficients opaque_numbers AreOpaque s →
      admitted_by rules dimension (parts_of number coefficients opaque_numbers s) → (play_of rules s).admitted
  unfolding admitted_by admitted_if condition_of
  admitted-from_parts (step.ChallengeExtensionsRejecting label n accept limit) formed = absurd formed
  admitted-from_parts (step.ChallengeUniformBitsRejecting label width n accept limit) formed = absurd formed
  admitted-from_parts _ formed = λ a. a

  pub place-by_parts : (s : script.Step Su F EF U O C K Ac D G I S Symbol) →
      HasForm number coefficients opaque_numbers AreOpaque s →
      (play_of rules s).place ≡ place_by (parts_of number coefficients opaque_numbers s)
  unfolding place_by
  place-by_parts (step.ChallengeExtensionsRejecting label n accept limit) formed = absurd formed
  place-by_parts (step.ChallengeUniformBitsRejecting label width n accept limit) formed = absurd formed
  place-by_parts _ formed = refl

  -- ---- lists of steps

  interactions-by_parts : (steps : List (script.Step Su F EF U O C K Ac D G I S Symbol)) →
      All (HasForm number coefficients opaque_numbers AreOpaque) steps → interactions (play_of rules) steps
      ≡ map (interaction_by rules dimension) (map (parts_of number coefficients opaque_numbers) steps)
  interactions-by_parts [] formed = refl
  interactions-by_parts (s ∷ steps) formed =
      let Form = HasForm number coefficients opaque_numbers AreOpaque in
      let first = interaction-by_parts s (All-head Form s steps formed) in
      let rest = interactions-by_parts steps (All-tail Form s steps formed) in cc (first, rest)

  admitted-all_by_parts : (steps : List (script.Step Su F EF U O C K Ac D G I S Symbol)) →
      All (HasForm number coefficients opaque_numbers AreOpaque) steps → AreAdmitted (play_of rules) steps →
      AllByRecursion (admitted_by rules dimension) (map (parts_of number coefficients opaque_numbers) steps)
  admitted-all_by_parts [] formed all = all
  admitted-all_by_parts (s ∷ steps) formed all =
      let Form = HasForm number coefficients opaque_numbers AreOpaque in (
        admitted-by_parts s (All-head Form s steps formed) all.0,
        admitted-all_by_parts steps (All-tail Form s steps formed) all.1,
      )

  admitted-all_from_parts : (steps : List (script.Step Su F EF U O C K Ac D G I S Symbol)) →
      All (HasForm number coefficients opaque_numbers AreOpaque) steps →
      AllByRecursion (admitted_by rules dimension) (map (parts_of number coefficients opaque_numbers) steps) →
      AreAdmitted (play_of rules) steps
  admitted-all_from_parts [] formed all = all
  admitted-all_from_parts (s ∷ steps) formed all =
      let Form = HasForm number coefficients opaque_numbers AreOpaque in (
        admitted-from_parts s (All-head Form s steps formed) all.0,
        admitted-all_from_parts steps (All-tail Form s steps formed) all.1,
      )

  count-by_parts : (steps : List (script.Step Su F EF U O C K Ac D G I S Symbol)) →
      All (HasForm number coefficients opaque_numbers AreOpaque) steps → carried_count (play_of rules) steps
      ≡ carried_among place_by (map (parts_of number coefficients opaque_numbers) steps)
  count-by_parts [] formed = refl
  count-by_parts (s ∷ steps) formed =
      let Form = HasForm number coefficients opaque_numbers AreOpaque in
      let first = ap (λ p. length (if_carried p (tt {0}))) (place-by_parts s (All-head Form s steps formed)) in
      let rest = count-by_parts steps (All-tail Form s steps formed) in omega (arith, first, rest)

  -- Steps of equal parts have the same interactions, may be played alike, and carry as many witnesses.
  module _ (steps others : List (script.Step Su F EF U O C K Ac D G I S Symbol))
      (formed : All (HasForm number coefficients opaque_numbers AreOpaque) steps)
      (others_formed : All (HasForm number coefficients opaque_numbers AreOpaque) others)
      (same : map (parts_of number coefficients opaque_numbers) steps
      ≡ map (parts_of number coefficients opaque_numbers) others) where
    pub same-interactions : interactions (play_of rules) steps ≡ interactions (play_of rules) others
    same-interactions = interactions-by_parts steps formed ∙ ap (map (interaction_by rules dimension)) same
        ∙ sym (interactions-by_parts others others_formed)

    pub same-admitted : AreAdmitted (play_of rules) steps → AreAdmitted (play_of rules) others
    same-admitted all = admitted-all_from_parts others others_formed
        (subst (AllByRecursion (admitted_by rules dimension)) same (admitted-all_by_parts steps formed all))

    pub same-count : carried_count (play_of rules) steps ≡ carried_count (play_of rules) others
    same-count = count-by_parts steps formed ∙ ap (carried_among place_by) same ∙ sym (count-by_parts others others_formed)
