-- One round of several, and the same rounds of the same constants.
use Rattle.std.proofs.Common.{◌≡◌, ℕ, suc, ◌+◌, ◌<◌, ◌∙◌, List, ◌∷◌, length, get_or, drop, drop-cons, sym, ap, arith}
use Rattle.p3_field_core.specs.Residues.{Residues}
use Rattle.p3_poseidon2.specs.Poseidon2.{external_round, external_rounds, permuted}

pub external-step : {F : Type 0} (r : Residues F) (width degree : ℕ) (rounds : List (List F)) (k : ℕ) (d : List F)
    (cells new whole : List F) → k < length rounds → new ≡ external_round r width degree (get_or rounds k d) cells
    → external_rounds r width degree (drop k rounds) cells ≡ whole
    → external_rounds r width degree (drop (k + 1) rounds) new ≡ whole
external-step r width degree rounds k d cells new whole more plays so_far =
    let next : suc k ≡ k + 1 = omega arith in
    let split : drop k rounds ≡ get_or rounds k d ∷ drop (k + 1) rounds =
    drop-cons rounds k d more ∙ ap (λ j. get_or rounds k d ∷ drop j rounds) next in
    ap (external_rounds r width degree (drop (k + 1) rounds)) plays
    ∙ ap (λ rows. external_rounds r width degree rows cells) (sym split) ∙ so_far

-- with the same constants it is the same permutation
pub same-constants : {F : Type 0} (r : Residues F) (width degree : ℕ) (d d' : List F) (i i' : List (List F)) (n n' : List F)
    (t t' : List (List F)) → d ≡ d' → i ≡ i' → n ≡ n' → t ≡ t'
    → permuted r width degree d i n t ≡ permuted r width degree d' i' n' t'
same-constants r width degree d d' i i' n n' t t' on_diagonal first inner last =
    ap (λ x. permuted r width degree x i n t) on_diagonal ∙ ap (λ x. permuted r width degree d' x n t) first
    ∙ ap (λ x. permuted r width degree d' i' x t) inner ∙ ap (λ x. permuted r width degree d' i' n' x) last
