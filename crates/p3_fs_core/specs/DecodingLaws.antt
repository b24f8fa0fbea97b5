-- The result of a decoder, from the result of reading.
use Rattle.std.{proofs.Common.{◌≡◌, ℕ, List, ◌++◌, drop, Result, Ok, Err, refl, sym, ap, ◌∙◌, subst}, specs.Result.IfOk}
use Rattle.p3_fs_core.specs.{Errors.{Decodes, IsBadShape}, declared.error.TranscriptError.TranscriptError}

module _ {T : Type 0} (encoding : T → List ℕ) (reading : List ℕ → Result (T × List ℕ) (List ℕ)) where
  module _ (width : ℕ) (bytes : List ℕ) (reads_only : (x : T) (rest : List ℕ) → reading bytes ≡ Ok (x, rest) →
      bytes ≡ encoding x ++ rest) (following : (x : T) (rest : List ℕ) → drop width (encoding x ++ rest) ≡ rest) where
    found_in : (o : Result (T × List ℕ) (List ℕ)) (r : Result T TranscriptError) → reading bytes ≡ o → Decodes o r →
        IfOk r (λ x. bytes ≡ encoding x ++ drop width bytes)
    found_in (Ok found) (Ok x) is decodes =
        let encoded = reads_only found.0 found.1 is in
        let rest : drop width bytes ≡ found.1 = ap (drop width) encoded ∙ following found.0 found.1 in
        encoded ∙ ap (λ y. encoding y ++ found.1) (sym decodes) ∙ ap (λ end. encoding x ++ end) (sym rest)
    found_in (Ok found) (Err e) is decodes = tt
    found_in (Err reason) (Ok x) is decodes = absurd decodes
    found_in (Err reason) (Err e) is decodes = tt

    -- a decoded value is encoded at the head of the bytes
    pub decoded-found : (r : Result T TranscriptError) → Decodes (reading bytes) r →
        IfOk r (λ x. bytes ≡ encoding x ++ drop width bytes)
    decoded-found r decodes = found_in (reading bytes) r (λ _. reading bytes) decodes

  decodes-ok : (found : T × List ℕ) (r : Result T TranscriptError) → Decodes (Ok found) r → r ≡ Ok found.0
  decodes-ok found (Ok x) decodes = ap Ok decodes
  decodes-ok found (Err e) decodes = absurd decodes

  -- a value encoded at the head of the bytes is decoded
  pub decoded-only : ((x : T) (rest : List ℕ) → reading (encoding x ++ rest) ≡ Ok (x, rest)) →
      (bytes : List ℕ) (r : Result T TranscriptError) → Decodes (reading bytes) r → (x : T) (rest : List ℕ) →
      bytes ≡ encoding x ++ rest → r ≡ Ok x
  decoded-only reads_back bytes r decodes x rest encoded =
      decodes-ok (x, rest) r (subst (λ (o : Result (T × List ℕ) (List ℕ)). Decodes o r) (ap reading encoded
      ∙ reads_back x rest) decodes)

-- the result of a decoder says what reading gives
pub decoded-ok : {T : Type 0} (o : Result (T × List ℕ) (List ℕ)) (x : T) → Decodes o (Ok x) →
    (rest : List ℕ) × (o ≡ Ok (x, rest))
decoded-ok (Ok found) x decodes = (found.1, ap (λ y. Ok (y, found.1)) (sym decodes))
decoded-ok (Err reason) x decodes = absurd decodes

pub decoded-err : {T : Type 0} (o : Result (T × List ℕ) (List ℕ)) (e : TranscriptError) → Decodes o (Err e) →
    (reason : List ℕ) × (o ≡ Err reason) × IsBadShape reason e
decoded-err (Ok found) e decodes = absurd decodes
decoded-err (Err reason) e decodes = (reason, refl, decodes)
