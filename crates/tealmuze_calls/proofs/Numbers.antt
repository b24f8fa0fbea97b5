-- The numbers of scalars, and of elements of the extension by their coefficients.
use Rattle.std.proofs.Common.{ℕ, ◌≡◌, ◌<◌, List, [], ◌++◌, length, map, get_or, sym, ◌∙◌}
use Rattle.std.specs.List.{All, flat_map}
use Rattle.std.proofs.lemmas.{List.length-map, List.Elements.All-map}
use Rattle.tealmuze_calls.specs.Readings.{AreSoMany}
use Rattle.tealmuze_calls.proofs.{Codes.same_length-code, Rest.row-left}

module _ {F : Type 0} (number : F → ℕ) (order : ℕ) (below : (x : F) → number x < order) where
  -- the numbers of scalars are below the order
  pub all_below : (xs : List F) → All (λ n. n < order) (map number xs)
  all_below xs = All-map (λ n. n < order) number xs (λ k d less. below (get_or xs k d))

  module _ {EF : Type 0} (coefficients : EF → List F) (dimension : ℕ)
      (long : (x : EF) → length (coefficients x) ≡ dimension) where
    -- those of an element are so many, and below the order
    pub element_below : (x : EF) → AreSoMany dimension (λ n. n < order) (map number (coefficients x))
    element_below x = record {
      count_is = length-map (coefficients x) number ∙ long x;
      each = all_below (coefficients x);
    }

    -- an element determines what follows it
    element_divides : (x y : EF) (a b : List ℕ) → Unit {0} → Unit {0} →
        map number (coefficients x) ++ a ≡ map number (coefficients y) ++ b → a ≡ b
    element_divides x y a b one other e =
        (same_length-code (map number (coefficients x)) (map number (coefficients y)) a b
        ((element_below x).count_is ∙ sym (element_below y).count_is) e).1

    -- numbers that end in others, which neither are nor begin with those of an element, are of no elements
    pub no_elements : (xs ys : List EF) (left numbers : List ℕ) →
        flat_map (λ x. map number (coefficients x)) xs ++ left ≡ numbers → (left ≡ [] → ⊥) →
        ((x : EF) (rest : List ℕ) → left ≡ map number (coefficients x) ++ rest → ⊥) →
        flat_map (λ x. map number (coefficients x)) ys ≡ numbers → ⊥
    no_elements xs ys left numbers here some other e =
        row-left (λ x. Unit {0}) (λ x. map number (coefficients x)) element_divides ⊥ xs ys left (λ k d less. tt)
        (λ k d less. tt) (here ∙ sym e) some (λ x rest one is. other x rest is)
