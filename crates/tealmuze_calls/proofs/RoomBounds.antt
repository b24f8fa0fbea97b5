-- An answer has at most as many bytes as are wanted.
use Rattle.std.proofs.Common.{◌≡◌, inl, inr, ℕ, zero, suc, ◌+◌, ◌*◌, ◌-◌, ◌^◌, ◌<◌, ◌≤◌, List, [], ◌∷◌, ◌++◌, length, min, ap, sym}
use Rattle.std.proofs.Common.{◌∙◌, refl, arith, subst}
use Rattle.std.proofs.lemmas.List.{length-append, length-map, Concat.length-flat_map}
use Rattle.std.specs.List.{All, flat_map, sum_by}
use Rattle.p3_challenger.specs.{Rules.Rules, Scripts.play_of, Verdicts.script_under, Separators.HeldSeparator}
use Rattle.p3_challenger.specs.{Fronts.Run, Values.{Value}}
use Rattle.p3_challenger.specs.Step as script
use Rattle.p3_challenger.specs.Values as value
use Rattle.tealmuze_calls.specs.Descriptions.{Describes, HasForm}
use Rattle.tealmuze_calls.specs.Forms.{number_bytes, counted_bytes, listed_bytes, scalar_bytes, value_bytes, challenge_bytes}
use Rattle.tealmuze_calls.specs.{Readings.FitsWord, Rooms.drawn_room, Sufficing.RoomSuffices}
use Rattle.tealmuze_calls.specs.Told.{TellsAccepted, TellsOfProof, TellsProved, TellsOfValues}
use Rattle.tealmuze_calls.specs.Told.{TellsOfDescribed, WantsForDescribed, EncodesValues}
use Rattle.tealmuze_calls.specs.Written.{IsNoVerdict}
use Rattle.tealmuze_calls.proofs.Sizes.{run-received, run-sent}
use Rattle.tealmuze_calls.proofs.StepSizes.{step-drawn, step-received, step-sent}
use Rattle.tealmuze_calls.proofs.{Alike.described-plain, Plain.rooms-same}

listed-size : {A : Type 0} (f : A → List ℕ) (xs : List A) → length (listed_bytes f xs) ≡ 8 + sum_by (λ x. length (f x)) xs
listed-size f xs = omega (arith, length-append (number_bytes (length xs)) (flat_map f xs), length-flat_map f xs)

eights : {A : Type 0} (f : A → List ℕ) → ((x : A) → length (f x) ≡ 8) → (xs : List A) →
    length (listed_bytes f xs) ≡ 8 + 8 * length xs
eights f long [] = omega (arith, listed-size f [])
eights f long (x ∷ xs) = omega (
  arith,
  length-append (number_bytes (length (x ∷ xs))) (flat_map f (x ∷ xs)),
  length-append (number_bytes (length xs)) (flat_map f xs),
  length-append (f x) (flat_map f xs),
  long x,
  eights f long xs,
)

-- ---- what a run tells

module _ {F EF O Ac I S Symbol : Type 0} (rules : Rules S Symbol I F EF O Ac) (number : F → ℕ)
    (coefficients : EF → List F) (opaque_numbers : O → List ℕ) (AreOpaque : List ℕ → Type 0) (dimension : ℕ)
    (long : (x : EF) → length (coefficients x) ≡ dimension)
    (coded : (x : EF) → rules.extension.encoding.wire x ≡ flat_map rules.scalar.encoding.wire (coefficients x))
    (some : (x : F) → 1 ≤ length (rules.scalar.encoding.wire x))
    (short : (x : F) → length (rules.scalar.encoding.wire x) ≤ 64)
    (witness_short : (x : F) → length (rules.witness_encoding.wire x) ≤ 23) where
  abbrev whole : {Su U C K D G : Type 0} → List (script.Step Su F EF U O C K Ac D G I S Symbol) → ℕ → ℕ
  whole steps len = 1024 + len * 8 + sum_by (λ s. 40 + drawn_room dimension s) steps

  accepted-short : {Su U C K D G : Type 0} (run : Run (script.Step Su F EF U O C K Ac D G I S Symbol) F EF S)
      (proof carried told : List ℕ) → All (HasForm number coefficients opaque_numbers AreOpaque) run.steps →
      TellsAccepted rules number coefficients run proof carried told → 1 + length told ≤ whole run.steps (length proof)
  accepted-short run proof carried told formed h =
      let vs = h.accepts.values in
      let is = h.accepts.proof in
      let outcome = h.accepts.outcome in
      let room = run-received number coefficients (play_of rules) (HasForm number coefficients opaque_numbers AreOpaque)
      (drawn_room dimension)
      (step-drawn rules number coefficients opaque_numbers AreOpaque dimension long)
      (step-received rules number coefficients opaque_numbers AreOpaque dimension long some coded) run.steps vs _ formed is.finished.finishes in
      let values = listed-size (value_bytes number coefficients) h.received in
      let drawn = listed-size (challenge_bytes number coefficients) h.drawn in
      omega (
        arith,
        rw (← outcome.received_is, ← outcome.drawn_is, ← is.wire_is) at room,
        values,
        drawn,
        ap (λ bytes. length bytes) h.told_is,
        length-append (listed_bytes (value_bytes number coefficients) h.received)
            (listed_bytes (challenge_bytes number coefficients) h.drawn),
      )

  told-short : {Su U C K D G : Type 0} (run : Run (script.Step Su F EF U O C K Ac D G I S Symbol) F EF S)
      (proof carried told : List ℕ) → All (HasForm number coefficients opaque_numbers AreOpaque) run.steps →
      TellsOfProof rules number coefficients run proof carried told → length told ≤ whole run.steps (length proof)
  told-short run proof carried [] formed h = absurd h
  told-short run proof carried (zero ∷ told) formed h =
      omega (arith, accepted-short run proof carried told formed h)
  told-short run proof carried (suc zero ∷ told) formed h = omega (
    arith,
    h.short,
    ap (λ bytes. length bytes) h.told_is,
    length-append (number_bytes h.position) h.reason,
  )
  told-short run proof carried (suc (suc n) ∷ told) formed h = absurd h

  proved-short : {Su U C K D G : Type 0} (run : Run (script.Step Su F EF U O C K Ac D G I S Symbol) F EF S)
      (sent : List (Value F EF)) (told : List ℕ) → All (HasForm number coefficients opaque_numbers AreOpaque) run.steps →
      TellsProved rules number coefficients run sent told →
      1 + length told ≤ whole run.steps (length (listed_bytes (value_bytes number coefficients) sent))
  proved-short run sent told formed h =
      let vs = h.proved.values in
      let outcome = h.proved.outcome in
      let room = run-sent number coefficients (play_of rules) (HasForm number coefficients opaque_numbers AreOpaque)
      (drawn_room dimension)
      (step-drawn rules number coefficients opaque_numbers AreOpaque dimension long)
      (step-sent rules number coefficients opaque_numbers AreOpaque dimension long short witness_short coded) run.steps vs _ formed
      outcome.is_run.finished.finishes in
      let scalar = scalar_bytes number coefficients in
      let rest = listed_bytes scalar h.carried ++ listed_bytes (challenge_bytes number coefficients) h.drawn in
      omega (
        arith,
        rw (← outcome.is_run.handed, ← outcome.drawn_is, ← outcome.narg_is, ← outcome.witnesses_is, ← outcome.carried_is)
            at room,
        length-map {B = Value F EF} h.witnesses value.Witness,
        length-map {B = Value F EF} h.carried value.Witness,
        listed-size (value_bytes number coefficients) sent,
        listed-size (challenge_bytes number coefficients) h.drawn,
        eights scalar (λ x. refl) h.witnesses,
        eights scalar (λ x. refl) h.carried,
        ap (λ bytes. length bytes) h.told_is,
        length-append (counted_bytes h.narg) (listed_bytes scalar h.witnesses ++ rest),
        length-append (number_bytes (length h.narg)) h.narg,
        length-append (listed_bytes scalar h.witnesses) rest,
        length-append (listed_bytes scalar h.carried) (listed_bytes (challenge_bytes number coefficients) h.drawn),
      )

  values-short : {Su U C K D G : Type 0} (run : Run (script.Step Su F EF U O C K Ac D G I S Symbol) F EF S)
      (sent : List (Value F EF)) (told : List ℕ) → All (HasForm number coefficients opaque_numbers AreOpaque) run.steps →
      TellsOfValues rules number coefficients run sent told →
      length told ≤ whole run.steps (length (listed_bytes (value_bytes number coefficients) sent))
  values-short run sent [] formed h = absurd h
  values-short run sent (zero ∷ told) formed h = omega (arith, proved-short run sent told formed h)
  values-short run sent (suc zero ∷ told) formed h = omega (
    arith,
    h.short,
    ap (λ bytes. length bytes) h.told_is,
    length-append (number_bytes h.position) h.reason,
  )
  values-short run sent (suc (suc n) ∷ told) formed h = absurd h

-- ---- who gives as many bytes as are wanted

unasked-short : (IsAsked : Type 0) (told : List ℕ) → IsNoVerdict IsAsked told → length told ≤ 1024
unasked-short IsAsked told (inl h) = omega (arith, h.0.short, ap (λ bytes. length bytes) h.0.told_is)
unasked-short IsAsked told (inr e) = omega (arith, ap (λ bytes. length bytes) e)

-- where a verdict is at most as long as what is wanted, and one number is wanted
suffices : (IsVerdict : List ℕ → Type 0) (IsAsked : Type 0) (Wants : ℕ → Type 0) →
    ((told : List ℕ) (wanted : ℕ) → FitsWord (length told) → IsVerdict told → Wants wanted → length told ≤ wanted) →
    ((wanted : ℕ) → Wants wanted → 1024 ≤ wanted) →
    ((wanted other : ℕ) → Wants wanted → Wants other → wanted ≡ other) → RoomSuffices IsVerdict IsAsked Wants
suffices IsVerdict IsAsked Wants short least one before after returned wanted fits (inl told) wants room =
    let within : length told.told ≤ wanted = elim told.says [
      | inl says ↦ short told.told wanted (subst FitsWord told.written.wanted fits) says wants
      | inr none ↦ omega (arith, unasked-short IsAsked told.told none, least wanted wants)
    ] in
    (told, omega (arith, told.written.wanted, within, room))
suffices IsVerdict IsAsked Wants short least one before after returned wanted fits (inr more) wants room =
    absurd (omega (arith, one returned wanted more.wants wants, more.more, room))

module _ (Su U C K D G : Type 0) {F EF O Ac I S Symbol : Type 0} (rules : Rules S Symbol I F EF O Ac) (number : F → ℕ)
    (coefficients : EF → List F) (opaque_numbers : O → List ℕ) (AreOpaque : List ℕ → Type 0) (dimension : ℕ) (positive : 0 < dimension)
    (scalar_one : (x y : F) → number x ≡ number y → x ≡ y) (long : (x : EF) → length (coefficients x) ≡ dimension)
    (element_one : (x y : EF) → coefficients x ≡ coefficients y → x ≡ y)
    (opaque_one : (x y : O) → opaque_numbers x ≡ opaque_numbers y → x ≡ y)
    (coded : (x : EF) → rules.extension.encoding.wire x ≡ flat_map rules.scalar.encoding.wire (coefficients x))
    (some : (x : F) → 1 ≤ length (rules.scalar.encoding.wire x))
    (short : (x : F) → length (rules.scalar.encoding.wire x) ≤ 64)
    (witness_short : (x : F) → length (rules.witness_encoding.wire x) ≤ 23)
    (room : List (script.Step Su F EF U O C K Ac D G I S Symbol) → ℕ → ℕ)
    (room_is : (steps : List (script.Step Su F EF U O C K Ac D G I S Symbol)) (len : ℕ) → room steps len
    ≡ min (1024 + len * 8 + sum_by (λ s. 40 + drawn_room dimension s) steps) (2 ^ 64 - 1)) where
  abbrev Wanted : List ℕ → ℕ → ℕ → Type 0
  Wanted description len wanted = WantsForDescribed Su U C K D G rules number coefficients opaque_numbers AreOpaque description
      (λ steps. room steps len) wanted

  -- two readings have as many steps, and these draw as much
  same_room : (description : List ℕ) (one other : HeldSeparator)
      (steps others : List (script.Step Su F EF U O C K Ac D G I S Symbol)) →
      Describes number coefficients opaque_numbers AreOpaque rules description one steps →
      Describes number coefficients opaque_numbers AreOpaque rules description other others →
      sum_by (λ s. 40 + drawn_room dimension s) steps ≡ sum_by (λ s. 40 + drawn_room dimension s) others
  same_room description one other steps others d e = rooms-same dimension steps others
      (described-plain number coefficients opaque_numbers AreOpaque dimension positive scalar_one long element_one opaque_one rules
      description one other steps others d e)

  one_wanted : (description : List ℕ) (len wanted other : ℕ) → Wanted description len wanted →
      Wanted description len other → wanted ≡ other
  one_wanted description len wanted other h k =
      h.wanted_is ∙ room_is h.steps len ∙ ap (λ n. min (1024 + len * 8 + n) (2 ^ 64 - 1))
      (same_room description h.separator k.separator h.steps k.steps h.describes k.describes)
      ∙ sym (room_is k.steps len) ∙ sym k.wanted_is

  least_wanted : (description : List ℕ) (len wanted : ℕ) → Wanted description len wanted → 1024 ≤ wanted
  least_wanted description len wanted h = omega (arith, h.wanted_is, room_is h.steps len)

  pub room_for_proofs : (IsFresh : S → Type 0) (description proof carried : List ℕ) (IsAsked : Type 0) → RoomSuffices
      (λ told. TellsOfDescribed Su U C K D G rules number coefficients opaque_numbers AreOpaque IsFresh description
      (λ run. TellsOfProof rules number coefficients run proof carried told)) IsAsked (Wanted description (length proof))
  room_for_proofs IsFresh description proof carried IsAsked = suffices _ _ _
      (λ told wanted fits says wants. omega (
        arith,
        fits,
        wants.wanted_is,
        room_is wants.steps (length proof),
        same_room description says.separator wants.separator says.steps wants.steps says.describes wants.describes,
        told-short rules number coefficients opaque_numbers AreOpaque dimension long coded some short witness_short
            (script_under says.start says.separator says.steps) proof carried told says.describes.formed says.tells,
      )) (least_wanted description (length proof)) (one_wanted description (length proof))

  pub room_for_values : (IsFresh : S → Type 0) (description values : List ℕ) (IsAsked : Type 0) → RoomSuffices
      (λ told. TellsOfDescribed Su U C K D G rules number coefficients opaque_numbers AreOpaque IsFresh description
      (λ run. EncodesValues number coefficients values (λ sent. TellsOfValues rules number coefficients run sent told)))
      IsAsked (Wanted description (length values))
  room_for_values IsFresh description values IsAsked = suffices _ _ _
      (λ told wanted fits says wants. omega (
        arith,
        fits,
        wants.wanted_is,
        room_is wants.steps (length values),
        same_room description says.separator wants.separator says.steps wants.steps says.describes wants.describes,
        ap (λ bytes. length bytes) says.tells.encoded,
        values-short rules number coefficients opaque_numbers AreOpaque dimension long coded some short witness_short
            (script_under says.start says.separator says.steps) says.tells.values told says.describes.formed says.tells.tells,
      )) (least_wanted description (length values)) (one_wanted description (length values))
