-- A hash function for tests, without any strength. Like that of the worked rows, its digest counts
-- up from a first byte.
use Rattle.std.specs.{Prelude.{ℕ, ◌%◌, List}, List.sum}
use Rattle.p3_test_support.specs.LengthHasher.{digest_of_length}

-- the first byte is the sum of the bytes of the message
abbrev pub sum_digest : List ℕ → List ℕ
sum_digest message = digest_of_length (sum message % 256)
