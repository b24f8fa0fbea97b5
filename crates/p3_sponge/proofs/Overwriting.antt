-- Writing a block over the rate, as the code does it.
use Rattle.std.proofs.Common.{◌≡◌, ℕ, suc, ◌<◌, ◌≤◌, ◌+◌, ◌-◌, List, [], ◌∷◌, ◌++◌, length, take, drop, replicate, set}
use Rattle.std.proofs.lemmas.List.{take_at, drop_at, set_at, drop-drop, length-replicate, replicate_more}
use Rattle.std.proofs.{Common.{refl, sym, ap, ◌∙◌, append_assoc, add-one, arith}, Math.Seq.drop-cons}

-- a loop that fills with one value, at its next place
pub filled_more : {X : Type 0} (cells : List X) (i : ℕ) (y : X) → i < length cells
    → set (replicate i y ++ drop i cells) i y ≡ replicate (i + 1) y ++ drop (i + 1) cells
filled_more cells i y below =
    ap (λ rest. set (replicate i y ++ rest) i y) (drop-cons cells i y below)
    ∙ set_at (replicate i y) _ (drop (suc i) cells) y i (length-replicate i y)
    ∙ sym (append_assoc (replicate i y) (y ∷ []) (drop (suc i) cells))
    ∙ ap (λ front. front ++ drop (suc i) cells) (replicate_more i y)
    ∙ ap (λ n. replicate (i + 1) y ++ drop n cells) (sym (add-one i))

-- a block over the front, and zeros after it
pub written : {X : Type 0} (cells block zeros : List X) (rate : ℕ) → length block ≤ rate
    → take (length block) (block ++ drop (length block) cells)
    ++ (zeros ++ drop (rate - length block) (drop (length block) (block ++ drop (length block) cells)))
    ≡ (block ++ zeros) ++ drop rate cells
written cells block zeros rate fits =
    let n = length block in
    let front : take n (block ++ drop n cells) ≡ block = take_at block (drop n cells) n refl in
    let following : drop n (block ++ drop n cells) ≡ drop n cells = drop_at block (drop n cells) n refl in
    let same : n + (rate - n) ≡ rate = omega arith in
    let rest : drop (rate - n) (drop n (block ++ drop n cells)) ≡ drop rate cells =
    ap (drop (rate - n)) following ∙ drop-drop (rate - n) n cells ∙ ap (λ k. drop k cells) same in
    (λ i. front i ++ (zeros ++ rest i)) ∙ sym (append_assoc block zeros (drop rate cells))
