use Rattle.std.proofs.Common.{◌≡◌, ℕ, ◌-◌, ◌+◌, List, [], ◌∷◌, ◌++◌, length, drop, take, refl, sym, ap, ◌∙◌, append-nil, arith, length-append}
use Rattle.std.proofs.Math.Seq.{drop-append_seam}
use Rattle.p3_script_prover.proofs.sending.element_at_end.Goals as goal

take_all : (xs : List ℕ) → take (length xs) xs ≡ xs
take_all [] = refl
take_all (x ∷ xs) = ap (λ l. x ∷ l) (take_all xs)

at_end : (bytes before w : List ℕ) (n : ℕ) → bytes ≡ before ++ w → length w ≡ n →
    take (length bytes - (length bytes - n)) (drop (length bytes - n) bytes) ≡ w ++ []
at_end bytes before w n is long =
    let many : length bytes ≡ length before + length w = ap length is ∙ length-append before w in
    let same : length bytes - n ≡ length before = omega (arith, many, long) in
    let count : length bytes - (length bytes - n) ≡ length w = omega (arith, many, long) in
    let rest : drop (length bytes - n) bytes ≡ w
    = ap (λ i. drop i bytes) same ∙ ap (drop (length before)) is ∙ drop-append_seam before w in
    ap (λ i. take i (drop (length bytes - n) bytes)) count ∙ ap (take (length w)) rest ∙ take_all w
    ∙ sym (append-nil w)

pub returns : goal.returns
returns g c =
    λ before x is. c.decode.ensures.only x []
    (at_end c.args.bytes.now before _ c.wire_len-width.result is
    (g.met.F.TranscriptField.encodes.fixed_width x ∙ sym c.wire_len-width.ensures.width))
