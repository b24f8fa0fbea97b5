-- Worked rows, computed on the definitions.
use Rattle.std.proofs.Common.{◌≡◌, ℕ, List, [], ◌∷◌, ◌++◌, replicate, codes}
use Rattle.p3_domain_separator.specs.Seed.{identifier, label_of, seed_of_parts}

-- version 7, name p3, one chunk hello
seeded : (digest label : List ℕ) → label ≡ label_of (codes "hello" ∷ []) →
    seed_of_parts (record { protocol_id = identifier 7 (codes "p3"); digest = digest; label = label })
    ≡ 7 ∷ 112 ∷ 51
    ∷ (replicate 60 0 ++ (2 ∷ (digest ++ (0 ∷ 0 ∷ 0 ∷ 9 ∷ 0 ∷ 0 ∷ 0 ∷ 5 ∷ (codes "hello" ++ (128 ∷ []))))))
seeded digest label is = rw is
