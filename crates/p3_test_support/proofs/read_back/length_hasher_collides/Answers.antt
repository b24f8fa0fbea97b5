use Rattle.std.proofs.Common.{◌≡◌, ℕ, List, [], ◌∷◌, ◌++◌, length, ◌%◌, refl, sym, ap, subst, ◌∙◌, inl, inr, arith}
use Rattle.std.proofs.Common.{length-append}
use Rattle.p3_challenger_core.specs.Segments.{observe, draw}
use Rattle.p3_read_back.specs.QueriesLaws.{number-decides}
use Rattle.p3_hash_challenger.specs.{HashCalls.{HashSponge, with_pending}, HashReadBack.ReadsBackOrCollides}
use Rattle.p3_test_support.specs.{LengthHasher.{digest_of_length, length_digest}, ReadBackWorlds.by_length}
use Rattle.p3_test_support.proofs.read_back.length_hasher_collides.Goals as goal

-- strings of one length have one digest
one_longer : (xs : List ℕ) → length_digest (xs ++ 5 ∷ []) ≡ length_digest (xs ++ 6 ∷ [])
one_longer xs =
    let long : length (xs ++ 5 ∷ []) ≡ length (xs ++ 6 ∷ []) =
    length-append xs (5 ∷ []) ∙ sym (length-append xs (6 ∷ [])) in
    ap (λ n. digest_of_length (n % 256)) long

pub returns : goal.returns
returns c =
    let start : c.new.result.sponge ≡ with_pending c.args.initial_state.items = ap (λ s. s.sponge) c.new.ensures.value in
    let told = subst (λ (s : HashSponge ℕ). ReadsBackOrCollides by_length s) start
    (c.new.ensures.or_collides number-decides) in
    elim (told (observe 5 ∷ draw ∷ []) (observe 6 ∷ draw ∷ []) refl (one_longer c.args.initial_state.items)) [
      | inl same ↦ absurd (let five : ◌≡◌ {A = ℕ} 5 6 = cc in omega (arith, five))
      | inr found ↦ found
    ]
