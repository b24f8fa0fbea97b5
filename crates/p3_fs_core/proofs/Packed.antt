-- Chunks of byte strings.
use Rattle.std.proofs.Common.{◌≡◌, ℕ, ◌<◌, ◌≤◌, ◌+◌, ◌-◌, ◌*◌, ◌/◌, ◌^◌, List, [], ◌∷◌, ◌++◌, length, map, take}
use Rattle.std.proofs.Common.{drop, set, min, inl, inr, sym, ap, ◌∙◌, append_assoc, pow_mono, arith}
use Rattle.std.proofs.lemmas.Bool.{cases_lt}
use Rattle.std.proofs.lemmas.List.{length-drop, length-take-le, take-append-drop, drop-drop, take_more_set}
use Rattle.p3_fs_core.specs.{Packing.chunks, PackingLaws.chunks-step}

-- a chunk has at most eight bytes
pub chunk-most : (bits order : ℕ) → 2 ^ bits ≤ 2 * order → order < 2 ^ 64 → (bits - 1) / 8 ≤ 8
chunk-most bits order least fits = elim (cases_lt 64 bits) [
  | inl more ↦
      let grown : 2 ^ 65 ≤ 2 ^ bits = pow_mono more in
      absurd (omega (arith, grown, least, fits))
  | inr enough ↦ omega arith
]

-- where a whole chunk more stands, it is the next one
pub chunks-next : (size i : ℕ) (bytes : List ℕ) → 0 < size → size * i + size ≤ length bytes
    → chunks size (drop (size * i) bytes)
    ≡ take size (drop (size * i) bytes) ∷ chunks size (drop (size * (i + 1)) bytes)
chunks-next size i bytes positive inside =
    let all = drop (size * i) bytes in
    let long : size ≤ length all = omega (arith, inside, length-drop (size * i) bytes) in
    let some : 0 < length all = omega (arith, long, positive) in
    let short : length (take size all) ≡ min size (length all) =
    omega (arith, long, length-take-le size all long) in
    let next : size * i + size ≡ size * (i + 1) = omega arith in
    chunks-step size all (take size all) (drop size all) positive some (sym (take-append-drop size all)) short
    ∙ ap (λ l. take size all ∷ chunks size l)
    (drop-drop size (size * i) bytes ∙ ap (λ k. drop k bytes) next)

-- the element of one chunk more is written after those before it
pub packed-next : {F : Type 0} (element : List ℕ → F) (size i : ℕ) (bytes : List ℕ) (elements : List F) → 0 < size
    → size * i + size ≤ length bytes → i < length elements → (whole : List F)
    → whole ≡ take i elements ++ map element (chunks size (drop (size * i) bytes)) → (x : F)
    → x ≡ element (take size (drop (size * i) bytes))
    → whole ≡ take (i + 1) (set elements i x) ++ map element (chunks size (drop (size * (i + 1)) bytes))
packed-next element size i bytes elements positive inside in_range whole so_far x is =
    let after = map element (chunks size (drop (size * (i + 1)) bytes)) in
    so_far
    ∙ ap (λ l. take i elements ++ map element l) (chunks-next size i bytes positive inside)
    ∙ ap (λ y. take i elements ++ (y ∷ after)) (sym is)
    ∙ sym (append_assoc (take i elements) (x ∷ []) after)
    ∙ ap (λ l. l ++ after) (sym (take_more_set elements i x in_range))
