-- Lemmas on the first path.
use Rattle.std.proofs.Common.{◌≡◌, ℕ, ◌==◌, List, length, drop, take, Bool, true, false, if◌then◌else◌, nat_lt, Ok, Err}
use Rattle.std.proofs.Common.{sym, ap, ◌∙◌}
use Rattle.p3_fs_core.specs.{BigEndian.big_endian, Scalar.{not_enough_bytes, outside_range}, Errors.Decodes}
use Rattle.p3_small_primes.specs.BabyBearResidues.{BabyBear, residues}
use Rattle.first_transcript.specs.{Scalar.{order, width, read}, First.{read_whole, nothing_after, too_short}}
use Rattle.first_transcript.specs.First.{trailing_bytes}

whole_by : (short canonical : Bool) (y : BabyBear) (rest : List ℕ) (value : BabyBear) → length rest ≡ 0 →
    Decodes (if short then Err not_enough_bytes else if canonical then Ok (y, rest) else Err outside_range) (Ok value) →
    (if short then Err too_short else nothing_after
    (if short then Err not_enough_bytes else if canonical then Ok (y, rest) else Err outside_range)) ≡ Ok value
whole_by true canonical y rest value none decodes = absurd decodes
whole_by false true y rest value none decodes =
    ap (λ n. if n == 0 then Ok y else Err trailing_bytes) none ∙ ap Ok (sym decodes)
whole_by false false y rest value none decodes = absurd decodes

-- four bytes from which a scalar is decoded are, whole, that scalar
pub read_whole-decoded : (narg : List ℕ) (value : BabyBear) → length (drop width narg) ≡ 0 →
    Decodes (read narg) (Ok value) → read_whole narg ≡ Ok value
read_whole-decoded narg value none decodes =
    let n = big_endian (take width narg) in
    whole_by (nat_lt (length narg) width) (nat_lt n order) (residues.of n) (drop width narg) value none decodes
