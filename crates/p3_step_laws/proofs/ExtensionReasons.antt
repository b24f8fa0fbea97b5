-- Why bytes that are enough encode no element of an extension.
use Rattle.std.proofs.Common.{◌≡◌, ℕ, zero, suc, ◌*◌, ◌≤◌, List, length, Result, Ok, Err, refl, ap, arith}
use Rattle.std.proofs.lemmas.List.{length-append}
use Rattle.p3_challenger_core.specs.Reading.{AreBytes}
use Rattle.p3_fs_core.specs.{Encoding.{Encoding, IsEncoding}, Scalar.outside_range, ScalarLaws.not_below}
use Rattle.p3_codecs.specs.Extension.{and_then, read_all, read}
use Rattle.p3_step_laws.proofs.ReadOnly.{are_left}

-- where nothing is read, the reason is that a number is out of range
abbrev Says : {A : Type 0} → Result A (List ℕ) → Type 0
Says r = (reason : List ℕ) → r ≡ Err reason → reason ≡ outside_range

then-says : {A B : Type 0} (f : A → Result B (List ℕ)) (r : Result A (List ℕ)) → Says r →
    ((x : A) → r ≡ Ok x → Says (f x)) → Says (and_then f r)
then-says f (Ok x) first then reason h = then x refl reason h
then-says f (Err e) first then reason h = first reason (cc)

module _ {F : Type 0} (base : Encoding F) (laws : IsEncoding base)
    (one_reason : (bytes reason : List ℕ) → base.width ≤ length bytes → base.read bytes ≡ Err reason →
    reason ≡ outside_range) where
  row-reason : (n : ℕ) (bytes : List ℕ) → AreBytes bytes → n * base.width ≤ length bytes →
      Says (read_all base.read n bytes)
  unfolding read_all
  row-reason zero bytes are long = λ reason h. cc
  row-reason (suc n) bytes are long =
      then-says _ (base.read bytes) (λ reason. one_reason bytes reason (omega (arith, long)))
      (λ x is.
      let encoded = laws.only_reads bytes x.0 x.1 are is in
      let lengths = length-append (base.wire x.0) x.1 in
      let enough : n * base.width ≤ length x.1
      = omega (arith, long, lengths, ap length encoded, laws.fixed_width x.0) in
      then-says _ (read_all base.read n x.1)
      (row-reason n x.1 (are_left bytes (base.wire x.0) x.1 are encoded) enough) (λ xs found reason h. cc))

  pub element-reason : {A : Type 0} (n : ℕ) (element : List F → A) (bytes reason : List ℕ) → AreBytes bytes →
      n * base.width ≤ length bytes → read base.read base.width n element bytes ≡ Err reason → reason ≡ outside_range
  element-reason n element bytes reason are long =
      rw (not_below (length bytes) (n * base.width) long)
      (then-says _ (read_all base.read n bytes) (row-reason n bytes are long) (λ xs found _ h. cc) reason)
