-- Numbers of bytes, made from the highest byte down.
use Rattle.std.proofs.Common.{◌≡◌, ℕ, suc, ◌<◌, ◌≤◌, ◌+◌, ◌-◌, ◌*◌, ◌^◌, List, length, drop, get_or}
use Rattle.std.proofs.{Common.{arith, ap, sym, ◌∙◌}, lemmas.List.length-drop, Math.Seq.drop-cons}
use Rattle.p3_challenger_core.specs.Reading.{AreBytes}
use Rattle.p3_fs_core.specs.{BigEndianLaws.AreBytes-drop, Packing.little_endian}
use Rattle.p3_fs_core.specs.PackingLaws.{little_endian-below, power_grows}

-- a byte more in front of the last i bytes
pub byte-in_front : (bytes : List ℕ) (i number : ℕ) → i < length bytes
    → number ≡ little_endian (drop (length bytes - i) bytes)
    → number * 256 + get_or bytes (length bytes - 1 - i) 0 ≡ little_endian (drop (length bytes - (i + 1)) bytes)
byte-in_front bytes i number below is =
    let k = length bytes - (i + 1) in
    let place : length bytes - 1 - i ≡ k = omega arith in
    let in_range : k < length bytes = omega arith in
    let following : suc k ≡ length bytes - i = omega arith in
    let split : little_endian (drop k bytes) ≡ get_or bytes k 0 + 256 * little_endian (drop (suc k) bytes) =
    ap little_endian (drop-cons bytes k 0 in_range) in
    let rest : little_endian (drop (suc k) bytes) ≡ number =
    ap (λ n. little_endian (drop n bytes)) following ∙ sym is in
    let byte : get_or bytes (length bytes - 1 - i) 0 ≡ get_or bytes k 0 = ap (λ n. get_or bytes n 0) place in
    omega (arith, split, rest, byte)

-- fewer than eight bytes leave room for one more
pub number-fits : (bytes : List ℕ) (i number byte : ℕ) → AreBytes bytes → length bytes ≤ 8 → i < length bytes
    → number ≡ little_endian (drop (length bytes - i) bytes) → byte < 256 → number * 256 + byte < 2 ^ 64
number-fits bytes i number byte are short below is small =
    let last = drop (length bytes - i) bytes in
    let least = little_endian-below last (AreBytes-drop (length bytes - i) bytes are) in
    let long : length last ≤ 7 = omega (arith, length-drop (length bytes - i) bytes) in
    let grown : 256 ^ length last ≤ 256 ^ 7 = power_grows (length last) 7 long in
    omega (arith, least, grown, is, small)
