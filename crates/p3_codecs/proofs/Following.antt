-- A number with a byte more, in a field.
use Rattle.std.proofs.Common.{◌≡◌, ℕ, ◌<◌, ◌+◌, ◌*◌, ◌%◌, List, [], ◌∷◌, length, drop, get_or, sym, ap, ◌∙◌, add-one}
use Rattle.std.proofs.{Common.arith, Math.Seq.drop-cons, lemmas.Nat.mul-mod_second}
use Rattle.std.proofs.Math.Nat.{add-mod, mod-lt, mod-eq_of_lt}
use Rattle.p3_fs_core.specs.BigEndian.{big_endian_after}
use Rattle.p3_field_core.specs.{Residues.{Residues, IsResidues, sum_of, product_of}, ResidueLaws.of-same}

turned : (n : ℕ) → n * 256 ≡ 256 * n
turned n = omega arith

module _ {F : Type 0} (r : Residues F) (laws : IsResidues r) where
  -- the number and the byte may be left modulo the order
  same_after : (n byte : ℕ) → ((n * (256 % r.order)) % r.order + byte % r.order) % r.order ≡ (256 * n + byte) % r.order
  same_after n byte =
      ap (λ k. (k + byte % r.order) % r.order) (mul-mod_second n 256 r.order)
      ∙ sym (add-mod (n * 256) byte r.order)
      ∙ ap (λ k. (k + byte) % r.order) (turned n)

  pub following-is : (x radix moved added result : F) (byte : ℕ) → radix ≡ r.of 256 → moved ≡ product_of r x radix →
      added ≡ r.of byte → result ≡ sum_of r moved added → result ≡ r.of (256 * r.number x + byte)
  following-is x radix moved added result byte radix_is moved_is added_is result_is =
      let times : r.number moved ≡ (r.number x * (256 % r.order)) % r.order =
      ap r.number moved_is
      ∙ laws.number_of (r.number x * r.number radix)
      ∙ ap (λ k. (r.number x * k) % r.order) (ap r.number radix_is ∙ laws.number_of 256) in
      let byte_is : r.number added ≡ byte % r.order = ap r.number added_is ∙ laws.number_of byte in
      result_is
      ∙ ap (λ k. r.of (k + r.number added)) times
      ∙ ap (λ k. r.of ((r.number x * (256 % r.order)) % r.order + k)) byte_is
      ∙ of-same r laws ((r.number x * (256 % r.order)) % r.order + byte % r.order) (256 * r.number x + byte)
      (same_after (r.number x) byte)

  byte_after : (n byte : ℕ) → (256 * (n % r.order) + byte) % r.order ≡ (256 * n + byte) % r.order
  byte_after n byte =
      add-mod (256 * (n % r.order)) byte r.order
      ∙ ap (λ k. (k + byte % r.order) % r.order) (mul-mod_second 256 n r.order)
      ∙ sym (add-mod (256 * n) byte r.order)

  -- what is left of a number may stand for it
  pub after-mod : (n : ℕ) (bytes : List ℕ) →
      big_endian_after (n % r.order) bytes % r.order ≡ big_endian_after n bytes % r.order
  after-mod n [] = mod-eq_of_lt (mod-lt n (omega (arith, laws.above_one)))
  after-mod n (byte ∷ bytes) =
      sym (after-mod (256 * (n % r.order) + byte) bytes)
      ∙ ap (λ k. big_endian_after k bytes % r.order) (byte_after n byte)
      ∙ after-mod (256 * n + byte) bytes

  -- a byte more is read
  pub following-step : (bytes : List ℕ) (i byte : ℕ) (x next target : F) → i < length bytes → byte ≡ get_or bytes i 0 →
      next ≡ r.of (256 * r.number x + byte) → r.of (big_endian_after (r.number x) (drop i bytes)) ≡ target →
      r.of (big_endian_after (r.number next) (drop (i + 1) bytes)) ≡ target
  following-step bytes i byte x next target more is next_is so_far =
      let rest = drop (i + 1) bytes in
      let split : drop i bytes ≡ byte ∷ rest = drop-cons bytes i 0 more
      ∙ (λ j. sym is j ∷ drop (sym (add-one i) j) bytes) in
      let n = 256 * r.number x + byte in
      ap (λ k. r.of (big_endian_after k rest)) (ap r.number next_is ∙ laws.number_of n)
      ∙ of-same r laws (big_endian_after (n % r.order) rest) (big_endian_after n rest) (after-mod n rest)
      ∙ sym (ap (λ l. r.of (big_endian_after (r.number x) l)) split)
      ∙ so_far
