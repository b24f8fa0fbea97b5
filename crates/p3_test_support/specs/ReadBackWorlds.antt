-- A hash function and a permutation without strength, for examples of reading back by hand.
use Rattle.std.specs.Prelude.{ℕ, List}
use Rattle.p3_small_primes.specs.F257Residues.{F257, residues}
use Rattle.p3_symmetric.specs.Turn.{turned}
use Rattle.p3_hash_challenger.specs.HashCalls.{HashFunction}
use Rattle.p3_test_support.specs.LengthHasher.{length_digest}

-- a digest depends only on the length of its message
abbrev pub by_length : HashFunction ℕ
by_length = record { digest = length_digest; out_len = 32; filler = 0 }

-- the cells (a, b, c) become (c + 1, a + 2, b + 3)
abbrev pub turn : List F257 → List F257
turn = turned residues 2 3

abbrev pub element_of : ℕ → F257
element_of n = residues.of n
