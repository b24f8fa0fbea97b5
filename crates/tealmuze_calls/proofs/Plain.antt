-- What the parts of a step say: they fix its play, wherever its values lie in memory.
use Rattle.std.proofs.Common.{◌≡◌, ℕ, zero, suc, ◌+◌, ◌*◌, ◌<◌, Bool, true, false, List, [], ◌∷◌, ◌++◌, length, map, ◌||◌, nat_eq, nat_lt}
use Rattle.std.proofs.Common.{if◌then◌else◌, refl, sym, ap, ◌∙◌, append-nil, arith}
use Rattle.std.{specs.List.{All, flat_map, sum_by}, proofs.lemmas.{List.{length-append, length-map}, List.Sums.sum_by-cons, List.Elements.{All-head, All-tail}}}
use Rattle.p3_challenger.specs.{Kind.Kind, Plays.Play, Rules.Rules, Values.{scalar_in, scalars_in, extension_in}}
use Rattle.p3_challenger.specs.Scripts.{play_of, marks, knows_opaque, sends_bytes, sends_counted_bytes, hints, hints_counted, knows_one}
use Rattle.p3_challenger.specs.Scripts.{knows_list, knows_counted, sends_one, sends_list, sends_counted, draws_one, draws_list}
use Rattle.p3_challenger.specs.{Scripts.{draws_bits, sends_work, carries_work, work_in}, ScriptRefusals.sides_of}
use Rattle.p3_challenger.specs.ScriptRefusals.{bytes_sides, counted_bytes_sides, hint_sides, counted_hint_sides, one_sides}
use Rattle.p3_challenger.specs.ScriptRefusals.{list_sides, counted_sides, recorded_sides, counted_known_sides}
use Rattle.p3_challenger.specs.Sides.{Sides, sides_alike, sides_ground, sides_carried}
use Rattle.p3_challenger.specs.{Transcripts.{bits_step, uniform_bits_step}, Hierarchy.TheVariants.{Begin, End}}
use Rattle.p3_challenger.specs.Length.TheVariants as lengths
use Rattle.p3_challenger.specs.Values as value
use Rattle.tealmuze_calls.specs.{Readings.Parts, Rooms.drawn_room}
use Rattle.tealmuze_calls.specs.Descriptions.{kind_number, element_numbers, parts_of, HasForm}
use Rattle.tealmuze_calls.proofs.{Codes.same_length-code, SameRuns.{AreSame, none, more}}
use Rattle.p3_challenger.specs.Kind.TheVariants as kind
use Rattle.p3_challenger.specs.Step as script
use Rattle.p3_challenger.specs.Step.TheVariants as step

-- ---- steps, wherever their values lie

-- values that both sides know
pub data Known (F EF O : Type 0) : Type 0 where
  Nothing : Known F EF O
  Scalars : List F → Known F EF O
  Elements : List EF → Known F EF O
  Opaque : O → Known F EF O

-- what a step is, its label, the numbers before its values, and its values
pub record Plain (F EF O : Type 0) : Type 0 where
  pub what : ℕ
  pub label : List ℕ
  pub heads : List ℕ
  pub known : Known F EF O

abbrev plain : {F EF O : Type 0} → ℕ → List ℕ → List ℕ → Known F EF O → Plain F EF O
plain what label heads known = record { what = what; label = label; heads = heads; known = known }

abbrev pub plain_of : {Su F EF U O C K Ac D G It St Sy : Type 0} → script.Step Su F EF U O C K Ac D G It St Sy → Plain F EF O
plain_of (step.Scalar label) = plain 0 label.now [] Nothing
plain_of (step.Extension label) = plain 1 label.now [] Nothing
plain_of (step.ChallengeScalar label) = plain 2 label.now [] Nothing
plain_of (step.ChallengeExtension label) = plain 3 label.now [] Nothing
plain_of (step.Begin label kind) = plain 4 label.now (kind_number kind ∷ []) Nothing
plain_of (step.End label kind) = plain 5 label.now (kind_number kind ∷ []) Nothing
plain_of (step.Salt label len) = plain 6 label.now (len ∷ []) Nothing
plain_of (step.Bytes label len) = plain 7 label.now (len ∷ []) Nothing
plain_of (step.Hint label len) = plain 8 label.now (len ∷ []) Nothing
plain_of (step.BytesBounded label max) = plain 9 label.now (max ∷ []) Nothing
plain_of (step.HintBounded label max) = plain 10 label.now (max ∷ []) Nothing
plain_of (step.Scalars label n) = plain 11 label.now (n ∷ []) Nothing
plain_of (step.ScalarsBounded label max) = plain 12 label.now (max ∷ []) Nothing
plain_of (step.ChallengeScalars label n) = plain 13 label.now (n ∷ []) Nothing
plain_of (step.ChallengeExtensions label n) = plain 14 label.now (n ∷ []) Nothing
plain_of (step.Pow label bits) = plain 15 label.now (bits ∷ []) Nothing
plain_of (step.ObservePow label bits) = plain 16 label.now (bits ∷ []) Nothing
plain_of (step.ChallengeBits label width n) = plain 17 label.now (width ∷ n ∷ []) Nothing
plain_of (step.ChallengeUniformBits label width n) = plain 18 label.now (width ∷ n ∷ []) Nothing
plain_of (step.PublicScalar label x) = plain 19 label.now [] (Scalars (x ∷ []))
plain_of (step.PublicScalars label xs) = plain 20 label.now [] (Scalars xs.items)
plain_of (step.ObserveExtension label x) = plain 21 label.now [] (Elements (x ∷ []))
plain_of (step.ObserveExtensions label xs) = plain 22 label.now [] (Elements xs.items)
plain_of (step.Opaque label x) = plain 23 label.now [] (Opaque x)
plain_of (step.PublicScalarsBounded label xs max) = plain 24 label.now (max ∷ []) (Scalars xs.items)
plain_of (step.ObserveExtensionsBounded label xs max) = plain 25 label.now (max ∷ []) (Elements xs.items)
plain_of (step.ChallengeExtensionsRejecting label n accept limit) = plain 26 [] [] Nothing
plain_of (step.ChallengeUniformBitsRejecting label width n accept limit) = plain 26 [] [] Nothing

-- ---- the play of a step

abbrev pub kind_at : ℕ → Kind
kind_at zero = kind.Protocol
kind_at (suc zero) = kind.Public
kind_at (suc (suc zero)) = kind.Message
kind_at (suc (suc (suc zero))) = kind.Hint
kind_at (suc (suc (suc (suc zero)))) = kind.Challenge
kind_at (suc (suc (suc (suc (suc zero))))) = kind.Pow
kind_at _ = kind.Salt

abbrev choose : {A : Type 1} → Bool → A → A → A
choose true x y = x
choose false x y = y

abbrev first : List ℕ → ℕ
first [] = 0
first (n ∷ ns) = n

abbrev second : List ℕ → ℕ
second [] = 0
second (n ∷ ns) = first ns

abbrev scalars_of : {F EF O : Type 0} → Known F EF O → List F
scalars_of (Scalars xs) = xs
scalars_of _ = []

abbrev elements_of : {F EF O : Type 0} → Known F EF O → List EF
elements_of (Elements xs) = xs
elements_of _ = []

abbrev opaques_of : {F EF O : Type 0} → Known F EF O → List O
opaques_of (Opaque x) = x ∷ []
opaques_of _ = []

-- what comes of the first, if there is one
abbrev of_first : {A : Type 0} {B : Type 1} → B → (A → B) → List A → B
of_first other f [] = other
of_first other f (x ∷ xs) = f x

module _ {S Symbol I F EF O Ac : Type 0} (rules : Rules S Symbol I F EF O Ac) where
  abbrev idle : Play S Symbol F EF O
  idle = marks rules Begin [] kind.Protocol

  abbrev play_of_plain : Plain F EF O → Play S Symbol F EF O
  play_of_plain p =
      let what = p.what in
      let label = p.label in
      let n = first p.heads in
      let m = second p.heads in
      let xs = scalars_of p.known in
      let ys = elements_of p.known in
      choose (nat_eq what 0) (sends_one rules rules.scalar scalar_in label)
      (choose (nat_eq what 1) (sends_one rules rules.extension extension_in label)
      (choose (nat_eq what 2) (draws_one rules rules.scalar value.OfScalars label)
      (choose (nat_eq what 3) (draws_one rules rules.extension value.OfExtensions label)
      (choose (nat_eq what 4) (marks rules Begin label (kind_at n))
      (choose (nat_eq what 5) (marks rules End label (kind_at n))
      (choose (nat_eq what 6) (sends_bytes rules kind.Salt label n)
      (choose (nat_eq what 7) (sends_bytes rules kind.Message label n)
      (choose (nat_eq what 8) (hints rules label n)
      (choose (nat_eq what 9) (sends_counted_bytes rules label n)
      (choose (nat_eq what 10) (hints_counted rules label n)
      (choose (nat_eq what 11) (sends_list rules rules.scalar scalars_in label n)
      (choose (nat_eq what 12) (sends_counted rules rules.scalar scalars_in label n)
      (choose (nat_eq what 13) (draws_list rules rules.scalar value.OfScalars label n)
      (choose (nat_eq what 14) (draws_list rules rules.extension value.OfExtensions label n)
      (choose (nat_eq what 15) (sends_work rules label n)
      (choose (nat_eq what 16) (carries_work rules label n)
      (choose (nat_eq what 17) (draws_bits rules (bits_step label n (lengths.Fixed m)) rules.bits.are_there
      rules.bits.plain n m)
      (choose (nat_eq what 18) (draws_bits rules (uniform_bits_step label n (lengths.Fixed m)) rules.bits.are_uniform
      rules.bits.uniform n m)
      (choose (nat_eq what 19) (of_first idle (λ x. knows_one rules rules.scalar kind.Public label x) xs)
      (choose (nat_eq what 20) (knows_list rules rules.scalar kind.Public label xs)
      (choose (nat_eq what 21) (of_first idle (λ x. knows_one rules rules.extension kind.Message label x) ys)
      (choose (nat_eq what 22) (knows_list rules rules.extension kind.Message label ys)
      (choose (nat_eq what 23) (of_first idle (λ x. knows_opaque rules label x) (opaques_of p.known))
      (choose (nat_eq what 24) (knows_counted rules rules.scalar kind.Public label xs n)
      (knows_counted rules rules.extension kind.Message label ys n)
      ))))))))))))))))))))))))

  play-plain : (kinds : (k : Kind) → k ≡ kind_at (kind_number k)) (number : F → ℕ) (coefficients : EF → List F)
      (opaque_numbers : O → List ℕ) (AreOpaque : List ℕ → Type 0) {Su U C K D G : Type 0}
      (s : script.Step Su F EF U O C K Ac D G I S Symbol) → HasForm number coefficients opaque_numbers AreOpaque s →
      play_of rules s ≡ play_of_plain (plain_of s)
  play-plain kinds number coefficients opaque_numbers AreOpaque (step.ChallengeExtensionsRejecting label n accept limit) f = absurd f
  play-plain kinds number coefficients opaque_numbers AreOpaque (step.ChallengeUniformBitsRejecting label width n accept limit) f = absurd f
  play-plain kinds number coefficients opaque_numbers AreOpaque (step.Begin label kind) f =
      ap (λ k. marks rules Begin label.now k) (kinds kind)
  play-plain kinds number coefficients opaque_numbers AreOpaque (step.End label kind) f =
      ap (λ k. marks rules End label.now k) (kinds kind)
  play-plain kinds number coefficients opaque_numbers AreOpaque _ f = refl

-- ---- the refusals of a step

module _ {S Symbol I F EF O Ac : Type 0} (rules : Rules S Symbol I F EF O Ac) where
  abbrev sides_of_plain : Plain F EF O → Sides S F EF
  sides_of_plain p =
      let what = p.what in
      let label = p.label in
      let n = first p.heads in
      let xs = scalars_of p.known in
      let ys = elements_of p.known in
      choose (nat_eq what 0) (one_sides rules rules.scalar scalar_in label)
      (choose (nat_eq what 1) (one_sides rules rules.extension extension_in label)
      (choose (nat_eq what 6) (bytes_sides rules kind.Salt label n)
      (choose (nat_eq what 7) (bytes_sides rules kind.Message label n)
      (choose (nat_eq what 8) (hint_sides rules label n)
      (choose (nat_eq what 9) (counted_bytes_sides rules label n)
      (choose (nat_eq what 10) (counted_hint_sides rules label n)
      (choose (nat_eq what 11) (list_sides rules rules.scalar scalars_in label n)
      (choose (nat_eq what 12) (counted_sides rules rules.scalar scalars_in label n)
      (choose (nat_eq what 15) (sides_ground (work_in rules label n) rules.witness_encoding rules.grinding.may_run_out)
      (choose (nat_eq what 16) (sides_carried (work_in rules label n) rules.grinding.may_run_out)
      (choose (nat_eq what 22) (recorded_sides rules rules.extension kind.Message label ys)
      (choose (nat_eq what 24) (counted_known_sides rules rules.scalar kind.Public label xs n)
      (choose (nat_eq what 25) (counted_known_sides rules rules.extension kind.Message label ys n)
      (sides_alike (play_of_plain rules p))
      )))))))))))))

  sides-plain : (kinds : (k : Kind) → k ≡ kind_at (kind_number k)) (number : F → ℕ) (coefficients : EF → List F)
      (opaque_numbers : O → List ℕ) (AreOpaque : List ℕ → Type 0) {Su U C K D G : Type 0}
      (s : script.Step Su F EF U O C K Ac D G I S Symbol) → HasForm number coefficients opaque_numbers AreOpaque s →
      sides_of rules s ≡ sides_of_plain (plain_of s)
  sides-plain kinds number coefficients opaque_numbers AreOpaque (step.ChallengeExtensionsRejecting label n accept limit) f = absurd f
  sides-plain kinds number coefficients opaque_numbers AreOpaque (step.ChallengeUniformBitsRejecting label width n accept limit) f = absurd f
  sides-plain kinds number coefficients opaque_numbers AreOpaque (step.Begin label kind) f =
      ap (λ k. sides_alike (marks rules Begin label.now k)) (kinds kind)
  sides-plain kinds number coefficients opaque_numbers AreOpaque (step.End label kind) f =
      ap (λ k. sides_alike (marks rules End label.now k)) (kinds kind)
  sides-plain kinds number coefficients opaque_numbers AreOpaque _ f = refl

-- ---- the parts of a step

-- how many numbers stand before the values, and of which sort these are
abbrev head_count : ℕ → ℕ
head_count what =
    if nat_lt what 4 then 0
    else (if nat_lt what 17 then 1 else (if nat_lt what 19 then 2 else (if nat_lt what 24 || nat_eq what 26 then 0 else 1)))

abbrev sort_at : ℕ → ℕ
sort_at what =
    if nat_lt what 19 then 0
    else (if nat_eq what 23 then 3 else (if nat_lt what 21 || nat_eq what 24 then 1 else (if nat_eq what 26 then 0 else 2)))

abbrev sort : {F EF O : Type 0} → Known F EF O → ℕ
sort Nothing = 0
sort (Scalars xs) = 1
sort (Elements xs) = 2
sort (Opaque x) = 3

-- it has as many numbers before its values, and values of such a sort, as a step of its kind
record IsShaped {F EF O : Type 0} (p : Plain F EF O) : Type 0 where
  heads : length p.heads ≡ head_count p.what
  sort_is : sort p.known ≡ sort_at p.what

plain-shaped : {Su F EF U O C K Ac D G It St Sy : Type 0} (s : script.Step Su F EF U O C K Ac D G It St Sy) →
    IsShaped (plain_of s)
plain-shaped (step.Scalar label) = record { heads = refl; sort_is = refl }
plain-shaped _ = record { heads = refl; sort_is = refl }

-- ---- lists of numbers that determine what they stand for

each-one : {A B : Type 0} (f : A → B) → ((x y : A) → f x ≡ f y → x ≡ y) → (xs ys : List A) → map f xs ≡ map f ys → xs ≡ ys
each-one f one [] [] e = refl
each-one f one [] (y ∷ ys) e = cc
each-one f one (x ∷ xs) [] e = cc
each-one f one (x ∷ xs) (y ∷ ys) e =
    let here : f x ≡ f y = cc in
    let there : map f xs ≡ map f ys = cc in
    ap (λ z. z ∷ xs) (one x y here) ∙ ap (λ zs. y ∷ zs) (each-one f one xs ys there)

rows-one : {A : Type 0} (f : A → List ℕ) (n : ℕ) → 0 < n → ((x : A) → length (f x) ≡ n) →
    ((x y : A) → f x ≡ f y → x ≡ y) → (xs ys : List A) → flat_map f xs ≡ flat_map f ys → xs ≡ ys
rows-one f n some long one [] [] e = refl
rows-one f n some long one [] (y ∷ ys) e =
    absurd (omega (arith, ap length e, length-append (f y) (flat_map f ys), long y))
rows-one f n some long one (x ∷ xs) [] e =
    absurd (omega (arith, ap length e, length-append (f x) (flat_map f xs), long x))
rows-one f n some long one (x ∷ xs) (y ∷ ys) e =
    let both = same_length-code (f x) (f y) (flat_map f xs) (flat_map f ys) (long x ∙ sym (long y)) e in
    ap (λ z. z ∷ xs) (one x y both.0) ∙ ap (λ zs. y ∷ zs) (rows-one f n some long one xs ys both.1)

module _ {F EF O : Type 0} (number : F → ℕ) (coefficients : EF → List F) (opaque_numbers : O → List ℕ) where
  abbrev known_numbers : Known F EF O → List ℕ
  known_numbers Nothing = []
  known_numbers (Scalars xs) = map number xs
  known_numbers (Elements xs) = flat_map (element_numbers number coefficients) xs
  known_numbers (Opaque x) = opaque_numbers x

  abbrev parts_of_plain : Plain F EF O → Parts
  parts_of_plain p = record { what = p.what; label = p.label; numbers = p.heads ++ known_numbers p.known }

  parts-plain : {Su U C K Ac D G It St Sy : Type 0} (s : script.Step Su F EF U O C K Ac D G It St Sy) →
      parts_of number coefficients opaque_numbers s ≡ parts_of_plain (plain_of s)
  parts-plain (step.ObserveExtension label x) = ap (λ ns. record { what = 21; label = label.now; numbers = ns })
      (sym (append-nil (element_numbers number coefficients x)))
  parts-plain _ = refl

  module _ (dimension : ℕ) (some : 0 < dimension) (scalar_one : (x y : F) → number x ≡ number y → x ≡ y)
      (long : (x : EF) → length (coefficients x) ≡ dimension)
      (element_one : (x y : EF) → coefficients x ≡ coefficients y → x ≡ y)
      (opaque_one : (x y : O) → opaque_numbers x ≡ opaque_numbers y → x ≡ y) where
    known-one : (v w : Known F EF O) → sort v ≡ sort w → known_numbers v ≡ known_numbers w → v ≡ w
    known-one Nothing Nothing same e = refl
    known-one (Scalars xs) (Scalars ys) same e = ap Scalars (each-one number scalar_one xs ys e)
    known-one (Elements xs) (Elements ys) same e = ap Elements (rows-one (element_numbers number coefficients) dimension some
        (λ x. length-map (coefficients x) number ∙ long x)
        (λ x y is. element_one x y (each-one number scalar_one (coefficients x) (coefficients y) is)) xs ys e)
    known-one (Opaque x) (Opaque y) same e = ap Opaque (opaque_one x y e)
    known-one _ _ same e = absurd (omega (arith, same))

    plain-one : (p q : Plain F EF O) → IsShaped p → IsShaped q → parts_of_plain p ≡ parts_of_plain q → p ≡ q
    plain-one p q p_is q_is e =
        let what : p.what ≡ q.what = ap (λ parts. parts.what) e in
        let label : p.label ≡ q.label = ap (λ parts. parts.label) e in
        let numbers : p.heads ++ known_numbers p.known ≡ q.heads ++ known_numbers q.known = ap (λ parts. parts.numbers) e in
        let both = same_length-code p.heads q.heads (known_numbers p.known) (known_numbers q.known)
        (p_is.heads ∙ ap head_count what ∙ sym q_is.heads) numbers in
        let known = known-one p.known q.known (p_is.sort_is ∙ ap sort_at what ∙ sym q_is.sort_is) both.1 in
        ap (λ n. plain n p.label p.heads p.known) what ∙ ap (λ l. plain q.what l p.heads p.known) label
        ∙ ap (λ ns. plain q.what q.label ns p.known) both.0 ∙ ap (λ v. plain q.what q.label q.heads v) known

    -- ---- lists of steps

    pub plains-one : {Su U C K Ac D G It St Sy : Type 0} (ss ts : List (script.Step Su F EF U O C K Ac D G It St Sy)) →
        map (parts_of number coefficients opaque_numbers) ss ≡ map (parts_of number coefficients opaque_numbers) ts →
        map plain_of ss ≡ map plain_of ts
    plains-one [] [] e = refl
    plains-one [] (t ∷ ts) e = cc
    plains-one (s ∷ ss) [] e = cc
    plains-one (s ∷ ss) (t ∷ ts) e =
        let here : parts_of number coefficients opaque_numbers s ≡ parts_of number coefficients opaque_numbers t = cc in
        let there : map (parts_of number coefficients opaque_numbers) ss
        ≡ map (parts_of number coefficients opaque_numbers) ts = cc in
        let one = plain-one (plain_of s) (plain_of t) (plain-shaped s) (plain-shaped t)
        (sym (parts-plain s) ∙ here ∙ parts-plain t) in
        ap (λ p. p ∷ map plain_of ss) one ∙ ap (λ ps. plain_of t ∷ ps) (plains-one ss ts there)

-- what has the same plain steps has the same plays and refusals, and the same room
module _ {S Symbol I F EF O Ac : Type 0} (rules : Rules S Symbol I F EF O Ac)
    (kinds : (k : Kind) → k ≡ kind_at (kind_number k)) (number : F → ℕ) (coefficients : EF → List F)
    (opaque_numbers : O → List ℕ) (AreOpaque : List ℕ → Type 0) where
  pub steps-same : {Su U C K D G : Type 0} (ss ts : List (script.Step Su F EF U O C K Ac D G I S Symbol)) →
      All (HasForm number coefficients opaque_numbers AreOpaque) ss → All (HasForm number coefficients opaque_numbers AreOpaque) ts →
      map plain_of ss ≡ map plain_of ts → AreSame (play_of rules) (sides_of rules) ss ts
  steps-same [] [] f g e = none
  steps-same [] (t ∷ ts) f g e = absurd (cc)
  steps-same (s ∷ ss) [] f g e = absurd (cc)
  steps-same (s ∷ ss) (t ∷ ts) f g e =
      let here : plain_of s ≡ plain_of t = cc in
      let there : map plain_of ss ≡ map plain_of ts = cc in
      let f_here = All-head (HasForm number coefficients opaque_numbers AreOpaque) s ss f in
      let g_here = All-head (HasForm number coefficients opaque_numbers AreOpaque) t ts g in
      more (play-plain rules kinds number coefficients opaque_numbers AreOpaque s f_here ∙ ap (play_of_plain rules) here
      ∙ sym (play-plain rules kinds number coefficients opaque_numbers AreOpaque t g_here))
      (sides-plain rules kinds number coefficients opaque_numbers AreOpaque s f_here ∙ ap (sides_of_plain rules) here
      ∙ sym (sides-plain rules kinds number coefficients opaque_numbers AreOpaque t g_here))
      (steps-same ss ts (All-tail (HasForm number coefficients opaque_numbers AreOpaque) s ss f)
      (All-tail (HasForm number coefficients opaque_numbers AreOpaque) t ts g) there)

module _ (dimension : ℕ) where
  abbrev drawn_room_of_plain : {F EF O : Type 0} → Plain F EF O → ℕ
  drawn_room_of_plain p =
      let what = p.what in
      if nat_eq what 2 then 8
      else (if nat_eq what 3 then dimension * 8
      else (if nat_eq what 13 then first p.heads * 8
      else (if nat_eq what 14 then first p.heads * (dimension * 8)
      else (if nat_eq what 17 || nat_eq what 18 then second p.heads * 8 else 0))))

  drawn_room-plain : {Su F EF U O C K Ac D G It St Sy : Type 0} (s : script.Step Su F EF U O C K Ac D G It St Sy) →
      drawn_room dimension s ≡ drawn_room_of_plain (plain_of s)
  drawn_room-plain (step.Scalar label) = refl
  drawn_room-plain _ = refl

  -- what the steps draw has as much room
  pub rooms-same : {Su F EF U O C K Ac D G It St Sy : Type 0} (ss ts : List (script.Step Su F EF U O C K Ac D G It St Sy)) →
      map plain_of ss ≡ map plain_of ts →
      sum_by (λ s. 40 + drawn_room dimension s) ss ≡ sum_by (λ s. 40 + drawn_room dimension s) ts
  rooms-same [] [] e = refl
  rooms-same [] (t ∷ ts) e = absurd (cc)
  rooms-same (s ∷ ss) [] e = absurd (cc)
  rooms-same (s ∷ ss) (t ∷ ts) e =
      let here : plain_of s ≡ plain_of t = cc in
      let there : map plain_of ss ≡ map plain_of ts = cc in
      let room : drawn_room dimension s ≡ drawn_room dimension t =
      drawn_room-plain s ∙ ap drawn_room_of_plain here ∙ sym (drawn_room-plain t) in
      omega (
        arith,
        room,
        rooms-same ss ts there,
        sum_by-cons (λ x. 40 + drawn_room dimension x) s ss,
        sum_by-cons (λ x. 40 + drawn_room dimension x) t ts,
      )
