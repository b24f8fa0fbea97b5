-- Worked rows: what is no prefix code, what collides, and what may be any value.
use Rattle.std.proofs.Common.{◌≡◌, ℕ, List, [], ◌∷◌, flat_map, refl}
use Rattle.p3_challenger_core.specs.Reading.{IsPrefixCode, IsPrefixFree}
use Rattle.p3_fs_core.specs.declared.step.{Kind.TheVariants.{Hint, Message, Pow}, Length.TheVariants.Fixed}
use Rattle.p3_binding.specs.{Binding.Collide, Hints.SameOfKind}

-- ---- lists of lists run together

-- a duplex challenger feeds the elements of lists of lists in order
abbrev elements_of : List (List ℕ) → List ℕ
elements_of lists = flat_map (λ list. list) lists

-- the lists 1 and 2, and the one list of both
abbrev two_lists : List (List ℕ)
two_lists = (1 ∷ []) ∷ (2 ∷ []) ∷ []

abbrev one_list : List (List ℕ)
one_list = (1 ∷ 2 ∷ []) ∷ []

lists-feed_the_same : elements_of two_lists ≡ elements_of one_list
lists-feed_the_same = refl

lists-differ : two_lists ≡ one_list → ⊥
lists-differ e = cc

lists-no_prefix_code : IsPrefixCode elements_of → ⊥
lists-no_prefix_code code = lists-differ (code two_lists one_list [] [] lists-feed_the_same).0

-- ---- a codec that feeds nothing

-- it tells no value, so what it says that it needs for telling them is never so
silent-tells_nothing : IsPrefixFree {T = ℕ} {S = ℕ} (λ _. []) → ⊥
silent-tells_nothing tells = tells.some 0

-- ---- texts

-- no text collides with itself, and of one digest two that differ do
no_text-collides_with_itself : (digest_of : List ℕ → List ℕ) (text : List ℕ) → Collide digest_of text text → ⊥
no_text-collides_with_itself digest_of text collide = collide.differ refl

texts-collide : Collide (λ _. []) (1 ∷ []) (2 ∷ [])
texts-collide = record { differ = λ e. cc; share = refl }

-- ---- values of one step

-- bytes of a hint, and a witness of 0 bits, may be any; those of a message, and a witness of 1 bit, may not
hint-any : SameOfKind {V = ℕ} Hint (Fixed 1) 0xff 0
hint-any = tt

no_work-any : SameOfKind {V = ℕ} Pow (Fixed 0) 0xff 0
no_work-any = tt

message-same : SameOfKind {V = ℕ} Message (Fixed 1) 0xff 0 → ⊥
message-same e = cc

work-same : SameOfKind {V = ℕ} Pow (Fixed 1) 0xff 0 → ⊥
work-same e = cc
