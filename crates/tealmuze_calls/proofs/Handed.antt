-- What a prover may be handed for a step, by the step's parts in a description.
use Rattle.std.proofs.Common.{ℕ, ◌≡◌, ◌<◌, List, [], ◌∷◌, get_or, length, map, sym, subst}
use Rattle.std.specs.List.{All}
use Rattle.std.proofs.lemmas.List.Elements.{All-head, All-tail}
use Rattle.p3_challenger.specs.{Rules.Rules, Scripts.play_of, Provings.{AreAmong, AreHanded, FirstIs}}
use Rattle.p3_challenger.specs.Plays.{Place, HasLength, Any, holds_some}
use Rattle.p3_challenger.specs.Values.{Value, IsNothing, bytes_in, scalar_in, scalars_in, extension_in}
use Rattle.tealmuze_calls.specs.{Descriptions.{parts_of, HasForm}, Readings.Parts}
use Rattle.tealmuze_calls.proofs.Plays.{if_is, place_by, place-by_parts}
use Rattle.p3_challenger.specs.Plays as place
use Rattle.p3_challenger.specs.Step as script
use Rattle.p3_challenger.specs.Step.TheVariants as step

-- what kind of value a step is handed
data Sort : Type 0 where
  OfBytes : Sort
  AnyBytes : Sort
  OneScalar : Sort
  OfScalars : Sort
  AnyScalars : Sort
  OneExtension : Sort
  NoValue : Sort

sort_of : ℕ → Sort
sort_of what =
    if_is what 0 OneScalar (if_is what 1 OneExtension (if_is what 6 OfBytes (if_is what 7 OfBytes (if_is what 8 OfBytes
    (if_is what 9 AnyBytes (if_is what 10 AnyBytes (if_is what 11 OfScalars (if_is what 12 AnyScalars NoValue))))))))

handed_if : {F EF : Type 0} → Sort → ℕ → Value F EF → Type 0
handed_if OfBytes n v = holds_some (HasLength n) (bytes_in v)
handed_if AnyBytes n v = holds_some Any (bytes_in v)
handed_if OneScalar n v = holds_some Any (scalar_in v)
handed_if OfScalars n v = holds_some (HasLength n) (scalars_in v)
handed_if AnyScalars n v = holds_some Any (scalars_in v)
handed_if OneExtension n v = holds_some Any (extension_in v)
handed_if NoValue n v = IsNothing v

handed_by : {F EF : Type 0} → Parts → Value F EF → Type 0
handed_by p v = handed_if (sort_of p.what) (get_or p.numbers 0 0) v

-- the first value, and the others, by weaker conditions
first_weaker : {V : Type 0} (p : Place) (Is Other : V → Type 0) (Rest Others : List V → Type 0) →
    ((v : V) → Is v → Other v) → ((vs : List V) → Rest vs → Others vs) → (vs : List V) → FirstIs p Is Rest vs →
    FirstIs p Other Others vs
first_weaker place.Sent Is Other Rest Others f g [] h = absurd h
first_weaker place.Sent Is Other Rest Others f g (v ∷ vs) h = (f v h.0, g vs h.1)
first_weaker place.Nowhere Is Other Rest Others f g vs h = g vs h
first_weaker place.Found Is Other Rest Others f g vs h = g vs h
first_weaker place.Carried Is Other Rest Others f g vs h = g vs h

module _ {S Symbol I F EF O Ac Su U C K D G : Type 0} (rules : Rules S Symbol I F EF O Ac) (number : F → ℕ)
    (coefficients : EF → List F) (opaque_numbers : O → List ℕ) (AreOpaque : List ℕ → Type 0) (dimension : ℕ)
    (some : 0 < dimension) (long : (x : EF) → length (coefficients x) ≡ dimension) where
  handed-by_parts : (s : script.Step Su F EF U O C K Ac D G I S Symbol) →
      HasForm number coefficients opaque_numbers AreOpaque s → (v : Value F EF) → (play_of rules s).IsHanded v →
      handed_by (parts_of number coefficients opaque_numbers s) v
  unfolding handed_by handed_if sort_of
  handed-by_parts (step.ChallengeExtensionsRejecting label n accept limit) formed = absurd formed
  handed-by_parts (step.ChallengeUniformBitsRejecting label width n accept limit) formed = absurd formed
  handed-by_parts _ formed = λ v h. h

  handed-from_parts : (s : script.Step Su F EF U O C K Ac D G I S Symbol) →
      HasForm number coefficients opaque_numbers AreOpaque s → (v : Value F EF) →
      handed_by (parts_of number coefficients opaque_numbers s) v → (play_of rules s).IsHanded v
  unfolding handed_by handed_if sort_of
  handed-from_parts (step.ChallengeExtensionsRejecting label n accept limit) formed = absurd formed
  handed-from_parts (step.ChallengeUniformBitsRejecting label width n accept limit) formed = absurd formed
  handed-from_parts _ formed = λ v h. h

  all_by_parts : (steps : List (script.Step Su F EF U O C K Ac D G I S Symbol)) →
      All (HasForm number coefficients opaque_numbers AreOpaque) steps → (values : List (Value F EF)) →
      AreHanded (play_of rules) steps values →
      AreAmong place_by handed_by (map (parts_of number coefficients opaque_numbers) steps) values
  all_by_parts [] formed values h = h
  all_by_parts (s ∷ steps) formed values h =
      let Form = HasForm number coefficients opaque_numbers AreOpaque in
      let s_formed = All-head Form s steps formed in
      let parts = parts_of number coefficients opaque_numbers in
      let Rest : List (Value F EF) → Type 0 = AreAmong place_by handed_by (map parts steps) in
      let First : Place → Type 0 = λ p. FirstIs p (handed_by (parts s)) Rest values in
      subst First (place-by_parts rules dimension number coefficients opaque_numbers AreOpaque some long s s_formed)
      (first_weaker (play_of rules s).place (play_of rules s).IsHanded (handed_by (parts s))
      (AreHanded (play_of rules) steps) Rest (handed-by_parts s s_formed)
      (all_by_parts steps (All-tail Form s steps formed)) values h)

  all_from_parts : (steps : List (script.Step Su F EF U O C K Ac D G I S Symbol)) →
      All (HasForm number coefficients opaque_numbers AreOpaque) steps → (values : List (Value F EF)) →
      AreAmong place_by handed_by (map (parts_of number coefficients opaque_numbers) steps) values →
      AreHanded (play_of rules) steps values
  all_from_parts [] formed values h = h
  all_from_parts (s ∷ steps) formed values h =
      let Form = HasForm number coefficients opaque_numbers AreOpaque in
      let s_formed = All-head Form s steps formed in
      let parts = parts_of number coefficients opaque_numbers in
      let Rest : List (Value F EF) → Type 0 = AreAmong place_by handed_by (map parts steps) in
      let First : Place → Type 0 = λ p. FirstIs p (handed_by (parts s)) Rest values in
      first_weaker (play_of rules s).place (handed_by (parts s)) (play_of rules s).IsHanded Rest
      (AreHanded (play_of rules) steps) (handed-from_parts s s_formed)
      (all_from_parts steps (All-tail Form s steps formed)) values
      (subst First (sym (place-by_parts rules dimension number coefficients opaque_numbers AreOpaque some long s s_formed)) h)

  -- steps of equal parts may be handed the same values
  pub same-handed : (steps others : List (script.Step Su F EF U O C K Ac D G I S Symbol)) →
      All (HasForm number coefficients opaque_numbers AreOpaque) steps →
      All (HasForm number coefficients opaque_numbers AreOpaque) others →
      map (parts_of number coefficients opaque_numbers) steps ≡ map (parts_of number coefficients opaque_numbers) others →
      (values : List (Value F EF)) → AreHanded (play_of rules) steps values → AreHanded (play_of rules) others values
  same-handed steps others formed others_formed same values h =
      let Handed : List Parts → Type 0 = λ ps. AreAmong place_by handed_by ps values in
      all_from_parts others others_formed values (subst Handed same (all_by_parts steps formed values h))
