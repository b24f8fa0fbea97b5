-- Comparisons that find exactly identical values equal. By std's `pointwise_decides`, lists compare so
-- if their items do.
use Rattle.std.{specs.Prelude.{◌≡◌, Bool, true, ◌↔◌}, proofs.Common.ap}

-- values compare equal exactly where they are the same
abbrev pub IsExact : {A : Type 0} → (A → A → Bool) → Type 0
IsExact {A} eq = (x y : A) → (eq x y ≡ true ↔ x ≡ y)

-- values compare exactly by a part that determines them
pub exact-by : {A B : Type 0} (part : A → B) {eq : B → B → Bool} → IsExact eq → ((x y : A) → part x ≡ part y → x ≡ y) →
    IsExact (λ x y. eq (part x) (part y))
exact-by part exact tells x y =
    (λ e. tells x y ((exact (part x) (part y)).0 e), λ e. (exact (part x) (part y)).1 (ap part e))
