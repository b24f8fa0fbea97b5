-- Values observed one after another by the challengers of tests.
use Rattle.std.proofs.Common.{◌≡◌, List, [], ◌∷◌, ◌++◌, refl, sym, append_assoc, append-nil, ◌∙◌}
use Rattle.p3_challenger_core.specs.Observation.{observed_all}

-- a challenger that keeps what it is fed has them after what it had
pub recorded_all : {T : Type 0} (s xs : List T) → observed_all (λ t x. t ++ (x ∷ [])) s xs ≡ s ++ xs
recorded_all s [] = sym (append-nil s)
recorded_all s (x ∷ xs) = recorded_all (s ++ (x ∷ [])) xs ∙ append_assoc s (x ∷ []) xs

-- a challenger that keeps nothing is as it was
pub passed_over : {S T : Type 0} (s : S) (xs : List T) → observed_all (λ t x. t) s xs ≡ s
passed_over s [] = refl
passed_over s (x ∷ xs) = passed_over s xs
