-- How many bytes an answer takes for the values and the challenges of a run.
use Rattle.std.proofs.Common.{◌≡◌, ℕ, zero, suc, ◌+◌, ◌*◌, ◌≤◌, List, [], ◌∷◌, length, Option, Some, None}
use Rattle.std.proofs.Common.{option_and_then, refl, ap, ◌∙◌, arith}
use Rattle.std.specs.{List.{flat_map, sum_by, All}, Option.option_map}
use Rattle.std.proofs.lemmas.{List.length-append, List.Sums.{sum_by-append, sum_by-cons}, List.Elements.{All-head, All-tail}}
use Rattle.p3_challenger.specs.{Effects.Effect, Plays.{Play, effect_some, giving, holds_some, no_challenge}}
use Rattle.p3_challenger.specs.{Sampling.{Sampling, draws}, Values.{Value, Challenge, bytes_in, scalar_in, scalars_in}}
use Rattle.p3_challenger.specs.Values.{extension_in, witness_in}
use Rattle.p3_challenger.specs.Runs.{Finishes, in_proof, handed, carried, witnesses, challenges, wires, if_drawn, if_in_proof}
use Rattle.p3_challenger.specs.Runs.{if_sent, if_carried, if_witness}
use Rattle.p3_challenger.specs.Values as value
use Rattle.tealmuze_calls.specs.Forms.{number_bytes, scalar_bytes, element_bytes, value_bytes, challenge_bytes}

-- ---- lists of bytes of each

rows-long : {A : Type 0} (f : A → List ℕ) (n : ℕ) → ((x : A) → length (f x) ≡ n) → (xs : List A) →
    length (flat_map f xs) ≡ length xs * n
rows-long f n long [] = omega arith
rows-long f n long (x ∷ xs) =
    omega (arith, length-append (f x) (flat_map f xs), long x, rows-long f n long xs)

pub rows-least : {A : Type 0} (f : A → List ℕ) → ((x : A) → 1 ≤ length (f x)) → (xs : List A) →
    length xs ≤ length (flat_map f xs)
rows-least f some [] = omega arith
rows-least f some (x ∷ xs) = omega (arith, length-append (f x) (flat_map f xs), some x, rows-least f some xs)

pub rows-most : {A : Type 0} (f : A → List ℕ) (n : ℕ) → ((x : A) → length (f x) ≤ n) → (xs : List A) →
    length (flat_map f xs) ≤ length xs * n
rows-most f n short [] = omega arith
rows-most f n short (x ∷ xs) =
    omega (arith, length-append (f x) (flat_map f xs), short x, rows-most f n short xs)

-- ---- values and challenges

module _ {F EF : Type 0} (number : F → ℕ) (coefficients : EF → List F) where
  abbrev pub value_size : Value F EF → ℕ
  value_size v = length (value_bytes number coefficients v)

  abbrev pub challenge_size : Challenge F EF → ℕ
  challenge_size c = length (challenge_bytes number coefficients c)

  scalars-long : (xs : List F) → length (flat_map (scalar_bytes number coefficients) xs) ≡ length xs * 8
  scalars-long xs = rows-long (scalar_bytes number coefficients) 8 (λ x. refl) xs

  pub bytes-size : (bytes : List ℕ) → value_size (value.Bytes bytes) ≡ 9 + length bytes
  bytes-size bytes = omega (arith, length-append (number_bytes (length bytes)) bytes)

  pub scalars-size : (xs : List F) → value_size (value.Scalars xs) ≡ 9 + length xs * 8
  scalars-size xs = omega (
    arith,
    length-append (number_bytes (length xs)) (flat_map (scalar_bytes number coefficients) xs),
    scalars-long xs,
  )

  pub extension-size : (x : EF) → value_size (value.Extension x) ≡ 1 + length (coefficients x) * 8
  extension-size x = omega (arith, scalars-long (coefficients x))

  -- in a list of one
  pub alone-size : (v : Value F EF) → sum_by value_size (v ∷ []) ≡ value_size v
  alone-size v = omega (arith, sum_by-cons value_size v [])

  pub bytes-alone : (bytes : List ℕ) → sum_by value_size (value.Bytes bytes ∷ []) ≡ 9 + length bytes
  bytes-alone bytes = alone-size (value.Bytes bytes) ∙ bytes-size bytes

  pub scalars-alone : (xs : List F) → sum_by value_size (value.Scalars xs ∷ []) ≡ 9 + length xs * 8
  scalars-alone xs = alone-size (value.Scalars xs) ∙ scalars-size xs

  pub extension-alone : (x : EF) → sum_by value_size (value.Extension x ∷ []) ≡ 1 + length (coefficients x) * 8
  extension-alone x = alone-size (value.Extension x) ∙ extension-size x

  pub drawn_scalars-size : (xs : List F) → challenge_size (value.OfScalars xs) ≡ 9 + length xs * 8
  drawn_scalars-size xs = scalars-size xs

  pub drawn_extensions-size : (dimension : ℕ) → ((x : EF) → length (coefficients x) ≡ dimension) → (xs : List EF) →
      challenge_size (value.OfExtensions xs) ≡ 9 + length xs * (dimension * 8)
  drawn_extensions-size dimension long xs = omega (
    arith,
    length-append (number_bytes (length xs)) (flat_map (element_bytes number coefficients) xs),
    rows-long (element_bytes number coefficients) (dimension * 8)
        (λ x. scalars-long (coefficients x) ∙ ap (λ n. n * 8) (long x)) xs,
  )

  pub drawn_bits-size : (xs : List ℕ) → challenge_size (value.OfBits xs) ≡ 9 + length xs * 8
  drawn_bits-size xs = omega (
    arith,
    length-append (number_bytes (length xs)) (flat_map number_bytes xs),
    rows-long number_bytes 8 (λ x. refl) xs,
  )

-- ---- what steps draw

module _ {F EF : Type 0} (size : Challenge F EF → ℕ) where
  pub known-quiet : {A : Type 0} (o : Option A) →
      sum_by size (if_drawn (option_map (no_challenge {F = F} {EF = EF}) o)) ≡ 0
  known-quiet None = refl
  known-quiet (Some x) = refl

  pub effect-quiet : {S Symbol A B : Type 0} (f : A → Effect S Symbol B) (o : Option A) (s : S) →
      sum_by size (if_drawn ((effect_some None (λ x. giving no_challenge (f x)) o).gives s)) ≡ 0
  effect-quiet f None s = refl
  effect-quiet f (Some x) s = known-quiet ((f x).gives s)

  pub one-drawn : {A : Type 0} (make : A → Challenge F EF) (room : ℕ) → ((x : A) → size (make x) ≤ room) →
      (o : Option A) → sum_by size (if_drawn (option_map (λ x. Some (make x)) o)) ≤ room
  one-drawn make room within None = omega arith
  one-drawn make room within (Some x) = omega (arith, within x)

and_then-long : {A : Type 0} (o : Option A) (rest : Option (List A)) (n : ℕ) (xs : List A) →
    ((ys : List A) → rest ≡ Some ys → length ys ≡ n) →
    option_and_then (λ x. option_map (λ ys. x ∷ ys) rest) o ≡ Some xs → length xs ≡ suc n
and_then-long None rest n xs long e = absurd (cc)
and_then-long (Some x) None n xs long e = absurd (cc)
and_then-long (Some x) (Some ys) n xs long e =
    let same : x ∷ ys ≡ xs = cc in omega (arith, long ys refl, ap (λ l. length l) same)

draws-long : {S A : Type 0} (d : Sampling S A) (n : ℕ) (s : S) (xs : List A) → draws d n s ≡ Some xs → length xs ≡ n
unfolding draws
draws-long d zero s xs e = let same : [] ≡ xs = cc in omega (arith, ap (λ l. length l) same)
draws-long d (suc n) s xs e =
    and_then-long (d.sampled s) (draws d n (d.after s)) n xs (λ ys. draws-long d n (d.after s) ys) e

list-chosen : {F EF A : Type 0} (size : Challenge F EF → ℕ) (make : List A → Challenge F EF) (n room : ℕ) →
    ((xs : List A) → length xs ≡ n → size (make xs) ≤ room) → (o : Option (List A)) →
    ((xs : List A) → o ≡ Some xs → length xs ≡ n) →
    sum_by size (if_drawn (option_map (λ xs. Some (make xs)) o)) ≤ room
list-chosen size make n room within None long = omega arith
list-chosen size make n room within (Some xs) long = omega (arith, within xs (long xs refl))

pub list-drawn : {F EF S A : Type 0} (size : Challenge F EF → ℕ) (d : Sampling S A) (make : List A → Challenge F EF)
    (n room : ℕ) → ((xs : List A) → length xs ≡ n → size (make xs) ≤ room) → (s : S) →
    sum_by size (if_drawn (option_map (λ xs. Some (make xs)) (draws d n s))) ≤ room
list-drawn size d make n room within s =
    list-chosen size make n room within (draws d n s) (λ xs. draws-long d n s xs)

-- ---- what steps send

module _ {F EF : Type 0} (P : Value F EF → Type 0) where
  pub by_bytes : (IsFit : List ℕ → Type 0) → ((x : List ℕ) → IsFit x → P (value.Bytes x)) → (v : Value F EF) →
      holds_some IsFit (bytes_in v) → P v
  by_bytes IsFit each (value.Bytes x) fit = each x fit
  by_bytes IsFit each _ fit = absurd fit

  pub by_scalar : (IsFit : F → Type 0) → ((x : F) → IsFit x → P (value.Scalar x)) → (v : Value F EF) →
      holds_some IsFit (scalar_in v) → P v
  by_scalar IsFit each (value.Scalar x) fit = each x fit
  by_scalar IsFit each _ fit = absurd fit

  pub by_scalars : (IsFit : List F → Type 0) → ((x : List F) → IsFit x → P (value.Scalars x)) → (v : Value F EF) →
      holds_some IsFit (scalars_in v) → P v
  by_scalars IsFit each (value.Scalars x) fit = each x fit
  by_scalars IsFit each _ fit = absurd fit

  pub by_extension : (IsFit : EF → Type 0) → ((x : EF) → IsFit x → P (value.Extension x)) → (v : Value F EF) →
      holds_some IsFit (extension_in v) → P v
  by_extension IsFit each (value.Extension x) fit = each x fit
  by_extension IsFit each _ fit = absurd fit

  pub by_witness : (IsFit : F → Type 0) → ((x : F) → IsFit x → P (value.Witness x)) → (v : Value F EF) →
      holds_some IsFit (witness_in v) → P v
  by_witness IsFit each (value.Witness x) fit = each x fit
  by_witness IsFit each _ fit = absurd fit

-- ---- runs

module _ {X S Symbol F EF O : Type 0} (number : F → ℕ) (coefficients : EF → List F) (play : X → Play S Symbol F EF O)
    (IsOk : X → Type 0) (room : X → ℕ) where
  -- what a step draws takes at most 9 bytes beside its room
  abbrev pub DrawsWithin : X → Type 0
  DrawsWithin x = (v : Value F EF) (s : S) →
      sum_by (challenge_size number coefficients) (if_drawn (((play x).effect v).gives s)) ≤ 9 + room x

  -- what a proof has of a step takes at most 31 bytes, and 8 for each byte of the proof
  abbrev pub ReceivedWithin : X → Type 0
  ReceivedWithin x = (v : Value F EF) → (play x).Fits v →
      sum_by (value_size number coefficients) (if_in_proof (play x).place v) ≤ 31 + 8 * length ((play x).wire v)

  -- a proof's bytes of a step and its witnesses take at most 31 bytes, and 8 for each byte of the values
  abbrev pub SentWithin : X → Type 0
  SentWithin x = (v : Value F EF) → (play x).Fits v →
      length ((play x).wire v) + 8 * length (if_witness (play x).place v) + 8 * length (if_carried (play x).place v)
      ≤ 31 + 8 * sum_by (value_size number coefficients) (if_sent (play x).place v)

  challenges-size : (x : X) (v : Value F EF) (xs : List X) (vs : List (Value F EF)) (s : S) →
      sum_by (challenge_size number coefficients) (challenges play (x ∷ xs) (v ∷ vs) s)
      ≡ sum_by (challenge_size number coefficients) (if_drawn (((play x).effect v).gives s))
      + sum_by (challenge_size number coefficients) (challenges play xs vs (((play x).effect v).after s))
  challenges-size x v xs vs s = sum_by-append (challenge_size number coefficients) (if_drawn (((play x).effect v).gives s))
      (challenges play xs vs (((play x).effect v).after s))

  wires-size : (x : X) (v : Value F EF) (xs : List X) (vs : List (Value F EF)) →
      length (wires play (x ∷ xs) (v ∷ vs)) ≡ length ((play x).wire v) + length (wires play xs vs)
  wires-size x v xs vs = length-append ((play x).wire v) (wires play xs vs)

  module _ (drawn : (x : X) → IsOk x → DrawsWithin x) where
    pub run-received : ((x : X) → IsOk x → ReceivedWithin x) → (xs : List X) (vs : List (Value F EF)) (s : S) →
        All IsOk xs → Finishes play xs vs s →
        sum_by (value_size number coefficients) (in_proof play xs vs)
        + sum_by (challenge_size number coefficients) (challenges play xs vs s)
        ≤ sum_by (λ x. 40 + room x) xs + 8 * length (wires play xs vs)
    run-received each [] [] s ok h = omega arith
    run-received each (x ∷ xs) (v ∷ vs) s ok h =
        let effect = (play x).effect v in
        let here = each x (All-head IsOk x xs ok) v h.0 in
        let draw = drawn x (All-head IsOk x xs ok) v s in
        let rest = run-received each xs vs (effect.after s) (All-tail IsOk x xs ok) h.3 in
        let values : sum_by (value_size number coefficients) (in_proof play (x ∷ xs) (v ∷ vs))
        ≡ sum_by (value_size number coefficients) (if_in_proof (play x).place v)
        + sum_by (value_size number coefficients) (in_proof play xs vs) =
        sum_by-append (value_size number coefficients) (if_in_proof (play x).place v) (in_proof play xs vs) in
        let drawn_all = challenges-size x v xs vs s in
        let bytes = wires-size x v xs vs in
        omega (arith, here, draw, rest, values, drawn_all, bytes, sum_by-cons (λ y. 40 + room y) x xs)
    run-received each _ _ s ok h = absurd h

    pub run-sent : ((x : X) → IsOk x → SentWithin x) → (xs : List X) (vs : List (Value F EF)) (s : S) →
        All IsOk xs → Finishes play xs vs s →
        length (wires play xs vs) + 8 * length (witnesses play xs vs) + 8 * length (carried play xs vs)
        + sum_by (challenge_size number coefficients) (challenges play xs vs s)
        ≤ sum_by (λ x. 40 + room x) xs + 8 * sum_by (value_size number coefficients) (handed play xs vs)
    run-sent each [] [] s ok h = omega arith
    run-sent each (x ∷ xs) (v ∷ vs) s ok h =
        let effect = (play x).effect v in
        let here = each x (All-head IsOk x xs ok) v h.0 in
        let draw = drawn x (All-head IsOk x xs ok) v s in
        let rest = run-sent each xs vs (effect.after s) (All-tail IsOk x xs ok) h.3 in
        let values : sum_by (value_size number coefficients) (handed play (x ∷ xs) (v ∷ vs))
        ≡ sum_by (value_size number coefficients) (if_sent (play x).place v)
        + sum_by (value_size number coefficients) (handed play xs vs) =
        sum_by-append (value_size number coefficients) (if_sent (play x).place v) (handed play xs vs) in
        let found : length (witnesses play (x ∷ xs) (v ∷ vs))
        ≡ length (if_witness (play x).place v) + length (witnesses play xs vs) =
        length-append (if_witness (play x).place v) (witnesses play xs vs) in
        let brought : length (carried play (x ∷ xs) (v ∷ vs))
        ≡ length (if_carried (play x).place v) + length (carried play xs vs) =
        length-append (if_carried (play x).place v) (carried play xs vs) in
        let drawn_all = challenges-size x v xs vs s in
        let bytes = wires-size x v xs vs in
        omega (arith, here, draw, rest, values, found, brought, drawn_all, bytes, sum_by-cons (λ y. 40 + room y) x xs)
    run-sent each _ _ s ok h = absurd h
