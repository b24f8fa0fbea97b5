-- Lemmas on values that queries determine.
use Rattle.std.proofs.Common.{◌≡◌, ℕ, suc, ◌⊎◌, inl, inr, List, [], ◌∷◌, ◌++◌, length, refl, ap, ap₂}
use Rattle.std.proofs.{Common.{length-append, arith}, lemmas.Bool.Decides.eqb_tells}
use Rattle.p3_read_back.specs.Queries.{CollideAtSomePlace, Decides}

-- equality of two numbers can be decided, and so that of two bytes
pub number-decides : Decides ℕ
number-decides x y =
    elim (eqb_tells x y) [
      | inl (equal, same) ↦ inl same
      | inr (unequal, differ) ↦ inr differ
    ]

-- equality of two lists can be decided if that of their values can
pub list-decides : {T : Type 0} → Decides T → Decides (List T)
list-decides values [] [] = inl refl
list-decides values [] (y ∷ ys) = inr (λ e. cc)
list-decides values (x ∷ xs) [] = inr (λ e. cc)
list-decides values (x ∷ xs) (y ∷ ys) =
    elim (values x y) [
      | inl same ↦
          elim (list-decides values xs ys) as (λ _. (x ∷ xs ≡ y ∷ ys) ⊎ ¬ (x ∷ xs ≡ y ∷ ys)) [
            | inl rest ↦ inl cc
            | inr differ ↦ inr (λ e. let tails : xs ≡ ys = cc in differ tails)
          ]
      | inr differ ↦ inr (λ e. let heads : x ≡ y = cc in differ heads)
    ]

-- if two lists with an element after each are equal, so are the lists and the elements
pub last-told : {M : Type 0} (ms ns : List M) (m n : M) → ms ++ m ∷ [] ≡ ns ++ n ∷ [] → (ms ≡ ns) × (m ≡ n)
last-told [] [] m n e = let same : m ≡ n = cc in (refl, same)
last-told [] (first ∷ ns) m n e = absurd (omega (arith, length-append ns (n ∷ []), ap length e))
last-told (first ∷ ms) [] m n e = absurd (omega (arith, length-append ms (m ∷ []), ap length e))
last-told (one ∷ ms) (other ∷ ns) m n e =
    let first : one ≡ other = cc in
    let rest : ms ++ m ∷ [] ≡ ns ++ n ∷ [] = cc in
    let told = last-told ms ns m n rest in
    (ap₂ (λ x xs. x ∷ xs) first told.0, told.1)

module _ {M : Type 0} (Collide : M → M → Type 0) where
  -- the first two collide
  pub collide-first : (m n : M) (ms ns : List M) → Collide m n → CollideAtSomePlace Collide (m ∷ ms) (n ∷ ns)
  collide-first m n ms ns collision =
      record { place = 0; one = m; other = n; one_is = refl; other_is = refl; collision = collision }

  -- two later ones collide
  pub collide-later : (m n : M) (ms ns : List M) → CollideAtSomePlace Collide ms ns
      → CollideAtSomePlace Collide (m ∷ ms) (n ∷ ns)
  collide-later m n ms ns found =
      record {
        place = suc found.place;
        one = found.one;
        other = found.other;
        one_is = found.one_is;
        other_is = found.other_is;
        collision = found.collision;
      }
