-- Lemmas on the arguments of a command line.
use Rattle.std.proofs.Common.{◌≡◌, ℕ, zero, suc, ◌<◌, ◌≤◌, List, [], ◌∷◌, length, map, get_or, Bor, false, nat_eq}
use Rattle.std.{proofs.Common.{Option, Some, None, IfNone, refl, sym, ◌∙◌, arith}, specs.Cmp.Lexicographic.pointwise}
use Rattle.std.specs.Cmp.Lexicographic.{bytes_decides}
use Rattle.p3_field.specs.BabyBearResidues.{BabyBear}
use Rattle.transcript_program.specs.Arguments.{IsScalarText, IsOneScalar, AreScalarTexts, IsListText, IsOneList}
use mathlib.Core.Bool.{true≢false}

-- what holds of an answer that there is none
pub none_there : {T A : Type 0} (found : Option T) → found ≡ None → A → IfNone found A
none_there (Some x) is h = tt
none_there None is h = h

-- where there is none, what follows of what holds there
pub none_weaker : {T A B : Type 0} (found : Option T) → (A → B) → IfNone found A → IfNone found B
none_weaker None f h = f h
none_weaker (Some x) f h = tt

-- two texts that were compared and differ are not one
pub other_text : (xs ys : List ℕ) → false ≡ pointwise nat_eq xs ys → xs ≡ ys → ⊥
other_text xs ys differs same = true≢false (sym ((bytes_decides xs ys).1 same) ∙ sym differs)

abbrev no_argument : Bor (List ℕ)
no_argument = record { ref_ptr = (0, 0); now = [] }

-- where one of the texts writes no scalar, they write no scalars
pub scalar_texts-none : (texts : List (Bor (List ℕ))) (i : ℕ) (xs : List BabyBear) → i < length texts →
    ((x : BabyBear) → IsScalarText (get_or texts i no_argument).now x → ⊥) →
    AreScalarTexts (map (λ w. w.now) texts) xs → ⊥
scalar_texts-none [] i xs within none are = absurd (omega (arith, within))
scalar_texts-none (t ∷ texts) i [] within none are = are
scalar_texts-none (t ∷ texts) zero (x ∷ xs) within none are = none x are.0
scalar_texts-none (t ∷ texts) (suc i) (x ∷ xs) within none are =
    scalar_texts-none texts i xs (omega (arith, within)) none are.1

-- one argument writes no scalar where its text does not
pub one_scalar-none : (arguments : List (Bor (List ℕ))) → 1 ≤ length arguments → length arguments < 2 → (found : Option BabyBear) →
    IfNone found ((x : BabyBear) → IsScalarText (get_or arguments 0 no_argument).now x → ⊥) →
    IfNone found ((x : BabyBear) → IsOneScalar (map (λ argument. argument.now) arguments) x → ⊥)
one_scalar-none [] least below found none = absurd (omega (arith, least))
one_scalar-none (a ∷ []) least below found none = none
one_scalar-none (a ∷ b ∷ arguments) least below found none = absurd (omega (arith, below))

-- and no public list
pub one_list-none : {T : Type 0} (arguments : List (Bor (List ℕ))) → 1 ≤ length arguments → length arguments < 2 →
    (found : Option T) →
    IfNone found ((xs : List BabyBear) → IsListText (get_or arguments 0 no_argument).now xs → ⊥) →
    IfNone found ((xs : List BabyBear) → IsOneList (map (λ argument. argument.now) arguments) xs → ⊥)
one_list-none [] least below found none = absurd (omega (arith, least))
one_list-none (a ∷ []) least below found none = none
one_list-none (a ∷ b ∷ arguments) least below found none = absurd (omega (arith, below))

-- texts write as many scalars as they are
pub scalar_texts-as_many : (texts : List (List ℕ)) (xs : List BabyBear) → AreScalarTexts texts xs →
    length texts ≡ length xs
scalar_texts-as_many [] [] are = refl
scalar_texts-as_many [] (x ∷ xs) are = absurd are
scalar_texts-as_many (text ∷ texts) [] are = absurd are
scalar_texts-as_many (text ∷ texts) (x ∷ xs) are = omega (arith, scalar_texts-as_many texts xs are.1)

-- no arguments
pub no_arguments : (arguments : List (Bor (List ℕ))) → length arguments ≡ 0 → map (λ argument. argument.now) arguments ≡ []
no_arguments [] none = refl
no_arguments (argument ∷ arguments) none = absurd (omega (arith, none))
