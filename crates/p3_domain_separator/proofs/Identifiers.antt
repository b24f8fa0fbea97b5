-- The identifier of a protocol, as it is written.
use Rattle.std.proofs.Common.{◌≡◌, ℕ, ◌≤◌, ◌+◌, ◌-◌, List, [], ◌∷◌, ◌++◌, length, drop, set, replicate, refl, sym, ap}
use Rattle.std.proofs.{Common.{◌∙◌, arith}, Math.Seq.set-append_seam}
use Rattle.std.proofs.lemmas.List.{set-append_right, drop-replicate, replicate-append-replicate, length-replicate}
use Rattle.p3_domain_separator.specs.Seed.{identifier}

-- the zeros after a name, and the last place
zeros_after : (n places : ℕ) → n ≤ 62 → places ≡ 63 → drop {A = ℕ} (n + 1 - 1) (replicate places 0)
    ≡ replicate (62 - n) 0 ++ (0 ∷ [])
zeros_after n places short is =
    let left : places - (n + 1 - 1) ≡ (62 - n) + 1 = omega (arith, short, is) in
    drop-replicate (n + 1 - 1) places 0
    ∙ ap (λ k. replicate k 0) left
    ∙ sym (replicate-append-replicate (62 - n) 1 0)

last_place : (n len : ℕ) → n ≤ 62 → set {A = ℕ} (replicate (62 - n) 0 ++ (0 ∷ [])) (62 - n) len
    ≡ replicate (62 - n) 0 ++ (len ∷ [])
last_place n len short =
    ap (λ k. set (replicate (62 - n) 0 ++ (0 ∷ [])) k len) (sym (length-replicate {A = ℕ} (62 - n) 0))
    ∙ set-append_seam (replicate (62 - n) 0) 0 [] len

-- a name written after the version, and its length in the last place
pub identifier_written : (version len : ℕ) (name written : List ℕ) → length name ≤ 62 → written ≡ name →
    len ≡ length name → version ∷ set (written ++ drop (length name + 1 - 1) (replicate 63 0)) 62 len
    ≡ identifier version name
identifier_written version len name written short is as_long =
    let zeros : List ℕ = drop (length name + 1 - 1) (replicate 63 0) in
    ap (λ front. version ∷ set (front ++ zeros) 62 len) is
    ∙ ap (λ bytes. version ∷ bytes) (set-append_right name zeros (length name) 62 len refl short)
    ∙ ap (λ end. version ∷ (name ++ set end (62 - length name) len)) (zeros_after (length name) 63 short refl)
    ∙ ap (λ end. version ∷ (name ++ end)) (last_place (length name) len short)
    ∙ ap (λ last. version ∷ (name ++ (replicate (62 - length name) 0 ++ (last ∷ [])))) as_long
