-- How the logic stores a player: as the tuple of its parts.
use Rattle.std.specs.{Prelude.{ℕ, Bool, refl}, Coded.{Coded, code_by, coded×, coded_ℕ, coded_bool}}
use Rattle.p3_patterns.specs.{PatternStepLaws.pattern_steps_code, PatternSteps.PatternSteps, Playing.Playing}

abbrev pub playing_code : Coded Playing
playing_code =
    code_by (PatternSteps × (ℕ × Bool)) (coded× pattern_steps_code (coded× coded_ℕ coded_bool))
    (λ p. (p.pattern, (p.position, p.finished)))
    (λ t. record { pattern = t.0; position = t.1.0; finished = t.1.1 })
    (λ _. refl)
