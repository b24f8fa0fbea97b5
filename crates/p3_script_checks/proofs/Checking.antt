-- Steps of a script from some place on, and what is so of all of them.
use Rattle.std.proofs.Common.{◌≡◌, ◌<◌, ◌≤◌, ◌+◌, ℕ, suc, zero, Bool, true, false, IsTrue, List, [], ◌∷◌, ◌++◌, length, map, drop, get_or, take, take_all, drop-cons, add-one, cond, refl, sym, ap, ◌∙◌, subst, arith}
use Rattle.std.{proofs.lemmas.List.{drop_all, map_push, map_more}, specs.List.AllByRecursion}
use Rattle.p3_runs.specs.{Plays.{Place, Sent, Carried}, Provings.{AreAmong, FirstIs}, Runs.{carried_among, if_carried}}
use Rattle.p3_script_checks.specs.Places.{is_handed_at, is_carried_at}

pub not_true : {A : Type 0} → IsTrue false → A
not_true e = absurd (cc)

part-on : {X : Type 0} (xs : List X) (i : ℕ) (x : X) → i < length xs → x ≡ get_or xs i x →
    drop i xs ≡ x ∷ drop (i + 1) xs
part-on xs i x h e = rw (drop-cons xs i x, add-one, ← e) refl

-- ---- each

pub all-on : {X : Type 0} (P : X → Type 0) (xs : List X) (i : ℕ) (x : X) → i < length xs → x ≡ get_or xs i x →
    AllByRecursion P (drop i xs) → P x × AllByRecursion P (drop (i + 1) xs)
all-on P xs i x h e all = subst (AllByRecursion P) (part-on xs i x h e) all

pub all-back : {X : Type 0} (P : X → Type 0) (xs : List X) (i : ℕ) (x : X) → i < length xs → x ≡ get_or xs i x →
    P x → AllByRecursion P (drop (i + 1) xs) → AllByRecursion P (drop i xs)
all-back P xs i x h e p rest = subst (AllByRecursion P) (sym (part-on xs i x h e)) (p, rest)

pub all-past : {X : Type 0} (P : X → Type 0) (xs : List X) (i : ℕ) → length xs ≤ i → AllByRecursion P (drop i xs)
all-past P xs i h = subst (AllByRecursion P) (sym (drop_all i xs h)) tt

-- ---- two lists that are mapped to one

head-same : {Z : Type 0} (a b : Z) (xs ys : List Z) → (a ∷ xs) ≡ (b ∷ ys) → (a ≡ b) × (xs ≡ ys)
head-same a b xs ys e = (cc, cc)

module _ {X Y Z : Type 0} (f : X → Z) (k : Y → Z) (xs : List X) (ys : List Y) (i : ℕ) (x : X) (y : Y)
    (h : i < length xs) (e : x ≡ get_or xs i x) (m : i < length ys) (d : y ≡ get_or ys i y) where
  pub same-on : map f (drop i xs) ≡ map k (drop i ys) → (f x ≡ k y) × (map f (drop (i + 1) xs) ≡ map k (drop (i + 1) ys))
  same-on same =
      head-same (f x) (k y) (map f (drop (i + 1) xs)) (map k (drop (i + 1) ys))
      (sym (ap (map f) (part-on xs i x h e)) ∙ same ∙ ap (map k) (part-on ys i y m d))

  pub same-back : f x ≡ k y → map f (drop (i + 1) xs) ≡ map k (drop (i + 1) ys) →
      map f (drop i xs) ≡ map k (drop i ys)
  same-back first rest =
      ap (map f) (part-on xs i x h e) ∙ ap (λ z. z ∷ map f (drop (i + 1) xs)) first ∙ ap (λ l. k y ∷ l) rest
      ∙ sym (ap (map k) (part-on ys i y m d))

pub same-past : {X Y Z : Type 0} (f : X → Z) (k : Y → Z) (xs : List X) (ys : List Y) (i : ℕ) → length xs ≤ i →
    length ys ≤ i → map f (drop i xs) ≡ map k (drop i ys)
same-past f k xs ys i h m = ap (map f) (drop_all i xs h) ∙ sym (ap (map k) (drop_all i ys m))

-- ---- a list that is made of another, value by value

pub made-on : {X Y Z : Type 0} (f : X → Z) (k : Y → Z) (xs : List X) (made : List Y) (i : ℕ) (x : X) (y : Y) →
    i < length xs → x ≡ get_or xs i x → k y ≡ f x → map k made ≡ map f (take i xs) →
    map k (made ++ (y ∷ [])) ≡ map f (take (i + 1) xs)
made-on f k xs made i x y h e same so_far =
    map_push k made y ∙ ap (λ l. l ++ (k y ∷ [])) so_far
    ∙ ap (λ z. map f (take i xs) ++ (z ∷ [])) (same ∙ ap f e) ∙ sym (map_more f xs i x h)

pub made-all : {X Y Z : Type 0} (f : X → Z) (k : Y → Z) (xs : List X) (made : List Y) (i : ℕ) → length xs ≤ i →
    map k made ≡ map f (take i xs) → map k made ≡ map f xs
made-all f k xs made i past so_far = so_far ∙ ap (map f) (take_all i xs past)

-- ---- carried

one-carried : (place : Place) → length (if_carried place (tt {0})) ≡ cond (is_carried_at place) 1 0
one-carried Carried = refl
one-carried _ = refl

pub carried-on : {X : Type 0} (place : X → Place) (xs : List X) (i : ℕ) (x : X) (b : Bool) → i < length xs →
    x ≡ get_or xs i x → b ≡ is_carried_at (place x) →
    carried_among place (drop i xs) ≡ cond b 1 0 + carried_among place (drop (i + 1) xs)
carried-on place xs i x b h e is =
    ap (carried_among place) (part-on xs i x h e)
    ∙ ap (λ n. n + carried_among place (drop (i + 1) xs)) (one-carried (place x) ∙ ap (λ c. cond c 1 0) (sym is))

-- ---- handed

first-handed : {V : Type 0} (here : Place) (Is : V → Type 0) (Rest : List V → Type 0) (v : V) (vs : List V) →
    true ≡ is_handed_at here → FirstIs here Is Rest (v ∷ vs) → Is v × Rest vs
first-handed Sent Is Rest v vs is h = h
first-handed _ Is Rest v vs is h = absurd (cc)

handed-first : {V : Type 0} (here : Place) (Is : V → Type 0) (Rest : List V → Type 0) (v : V) (vs : List V) →
    true ≡ is_handed_at here → Is v → Rest vs → FirstIs here Is Rest (v ∷ vs)
handed-first Sent Is Rest v vs is a b = (a, b)
handed-first _ Is Rest v vs is a b = absurd (cc)

none-handed : {V : Type 0} (here : Place) (Is : V → Type 0) (Rest : List V → Type 0) → true ≡ is_handed_at here →
    FirstIs here Is Rest [] → ⊥
none-handed Sent Is Rest is h = h
none-handed _ Is Rest is h = absurd (cc)

not-handed : {V : Type 0} (here : Place) (Is : V → Type 0) (Rest : List V → Type 0) (vs : List V) →
    false ≡ is_handed_at here → FirstIs here Is Rest vs ≡ Rest vs
not-handed Sent Is Rest vs is = absurd (cc)
not-handed _ Is Rest vs is = refl

module _ {X V T : Type 0} (place : X → Place) (Is : X → V → Type 0) (value : T → V) (xs : List X) (ys : List T) (i j : ℕ)
    (x : X) (h : i < length xs) (e : x ≡ get_or xs i x) where
  pub passed-on : false ≡ is_handed_at (place x) → AreAmong place Is (drop i xs) (map value (drop j ys)) →
      AreAmong place Is (drop (i + 1) xs) (map value (drop j ys))
  passed-on is all =
      subst (λ (P : Type 0). P) (not-handed (place x) (Is x) (AreAmong place Is (drop (i + 1) xs)) (map value (drop j ys)) is)
      (subst (λ l. AreAmong place Is l (map value (drop j ys))) (part-on xs i x h e) all)

  pub passed-back : false ≡ is_handed_at (place x) → AreAmong place Is (drop (i + 1) xs) (map value (drop j ys)) →
      AreAmong place Is (drop i xs) (map value (drop j ys))
  passed-back is rest =
      subst (λ l. AreAmong place Is l (map value (drop j ys))) (sym (part-on xs i x h e))
      (subst (λ (P : Type 0). P)
      (sym (not-handed (place x) (Is x) (AreAmong place Is (drop (i + 1) xs)) (map value (drop j ys)) is)) rest)

  pub handed-none : true ≡ is_handed_at (place x) → length ys ≤ j →
      AreAmong place Is (drop i xs) (map value (drop j ys)) → ⊥
  handed-none is past all =
      none-handed (place x) (Is x) (AreAmong place Is (drop (i + 1) xs)) is
      (subst (λ l. AreAmong place Is (x ∷ drop (i + 1) xs) (map value l)) (drop_all j ys past)
      (subst (λ l. AreAmong place Is l (map value (drop j ys))) (part-on xs i x h e) all))

  module _ (y : T) (m : j < length ys) (d : y ≡ get_or ys j y) (is : true ≡ is_handed_at (place x)) where
    pub handed-on : AreAmong place Is (drop i xs) (map value (drop j ys)) →
        Is x (value y) × AreAmong place Is (drop (i + 1) xs) (map value (drop (j + 1) ys))
    handed-on all =
        first-handed (place x) (Is x) (AreAmong place Is (drop (i + 1) xs)) (value y) (map value (drop (j + 1) ys)) is
        (subst (λ l. AreAmong place Is (x ∷ drop (i + 1) xs) (map value l)) (part-on ys j y m d)
        (subst (λ l. AreAmong place Is l (map value (drop j ys))) (part-on xs i x h e) all))

    pub handed-back : Is x (value y) → AreAmong place Is (drop (i + 1) xs) (map value (drop (j + 1) ys)) →
        AreAmong place Is (drop i xs) (map value (drop j ys))
    handed-back first rest =
        subst (λ l. AreAmong place Is l (map value (drop j ys))) (sym (part-on xs i x h e))
        (subst (λ l. AreAmong place Is (x ∷ drop (i + 1) xs) (map value l)) (sym (part-on ys j y m d))
        (handed-first (place x) (Is x) (AreAmong place Is (drop (i + 1) xs)) (value y) (map value (drop (j + 1) ys)) is
        first rest))

drop-nil : {T V : Type 0} (value : T → V) (ys : List T) (j : ℕ) → map value (drop j ys) ≡ [] → length ys ≤ j
drop-nil value [] j e = omega arith
drop-nil value (y ∷ ys) zero e = absurd (cc)
drop-nil value (y ∷ ys) (suc j) e = let rest : length ys ≤ j = drop-nil value ys j e in omega (arith, rest)

module _ {X V T : Type 0} (place : X → Place) (Is : X → V → Type 0) (value : T → V) (xs : List X) (ys : List T) (i j : ℕ)
    (past : length xs ≤ i) where
  pub ended : length ys ≤ j → AreAmong place Is (drop i xs) (map value (drop j ys))
  ended all = subst (λ l. AreAmong place Is l (map value (drop j ys))) (sym (drop_all i xs past)) (ap (map value) (drop_all j ys all))

  pub none-left : AreAmong place Is (drop i xs) (map value (drop j ys)) → length ys ≤ j
  none-left all = drop-nil value ys j (subst (λ l. AreAmong place Is l (map value (drop j ys))) (drop_all i xs past) all)

-- one more is counted, if it is carried
pub counted-on : {X : Type 0} (place : X → Place) (xs : List X) (i : ℕ) (x : X) (b : Bool) (n m total : ℕ) →
    i < length xs → x ≡ get_or xs i x → b ≡ is_carried_at (place x) → m ≡ n + cond b 1 0 →
    n + carried_among place (drop i xs) ≡ total → m + carried_among place (drop (i + 1) xs) ≡ total
counted-on place xs i x b n m total h e is more so_far =
    let next = carried-on place xs i x b h e is in omega (arith, next, more, so_far)

pub counted-past : {X : Type 0} (place : X → Place) (xs : List X) (i n total : ℕ) → length xs ≤ i →
    n + carried_among place (drop i xs) ≡ total → n ≡ total
counted-past place xs i n total past so_far =
    let none : carried_among place (drop i xs) ≡ 0 = ap (carried_among place) (drop_all i xs past) in
    omega (arith, none, so_far)
