-- The hash function of the worked rows: place i of the digest is the length of the message plus i,
-- modulo 256.
use Rattle.std.specs.Prelude.{ℕ, ◌+◌, ◌%◌, List, [], ◌∷◌, length}

abbrev pub digest_of_length : ℕ → List ℕ
digest_of_length n =
    ((n + 0) % 256) ∷ ((n + 1) % 256) ∷ ((n + 2) % 256) ∷ ((n + 3) % 256) ∷ ((n + 4) % 256) ∷ ((n + 5) % 256) ∷
    ((n + 6) % 256) ∷ ((n + 7) % 256) ∷ ((n + 8) % 256) ∷ ((n + 9) % 256) ∷ ((n + 10) % 256) ∷ ((n + 11) % 256) ∷
    ((n + 12) % 256) ∷ ((n + 13) % 256) ∷ ((n + 14) % 256) ∷ ((n + 15) % 256) ∷ ((n + 16) % 256) ∷
    ((n + 17) % 256) ∷ ((n + 18) % 256) ∷ ((n + 19) % 256) ∷ ((n + 20) % 256) ∷ ((n + 21) % 256) ∷
    ((n + 22) % 256) ∷ ((n + 23) % 256) ∷ ((n + 24) % 256) ∷ ((n + 25) % 256) ∷ ((n + 26) % 256) ∷
    ((n + 27) % 256) ∷ ((n + 28) % 256) ∷ ((n + 29) % 256) ∷ ((n + 30) % 256) ∷ ((n + 31) % 256) ∷ []

abbrev pub length_digest : List ℕ → List ℕ
length_digest message = digest_of_length (length message % 256)
