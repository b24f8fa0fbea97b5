use Rattle.std.proofs.Common.{◌≡◌, ℕ, List, [], ◌∷◌, refl, ap, subst, inl, inr, lit<}
use Rattle.p3_challenger_core.specs.Segments.{Call, observe, draw}
use Rattle.p3_small_primes.specs.F257Residues.{F257, residues}
use Rattle.p3_duplex.specs.{DuplexCalls.{DuplexSponge, fresh}, DuplexReadBack.ReadsBackOrCollides}
use Rattle.p3_test_support.{specs.ReadBackWorlds.{turn, element_of}, proofs.ReadBackRows.one_is_not_two}
use Rattle.p3_test_support.proofs.read_back.turn_collides.Goals as goal

abbrev observed : ℕ → Call F257
observed n = observe (element_of n)

first_told : {x y : F257} {xs ys : List F257} → x ∷ xs ≡ y ∷ ys → x ≡ y
first_told e = cc

pub returns : goal.returns
returns c =
    let start : c.new.result.sponge ≡ fresh residues 3 = ap (λ s. s.sponge) c.new.ensures.value in
    let told = subst (λ (s : DuplexSponge F257). ReadsBackOrCollides residues turn 2 s) start
    (c.new.ensures.or_collides (lit< tt)) in
    elim (told (observed 1 ∷ observed 0 ∷ observed 7 ∷ observed 7 ∷ draw ∷ [])
    (observed 2 ∷ observed 0 ∷ observed 7 ∷ observed 7 ∷ draw ∷ []) refl (record { last = refl; pending = refl })) [
      | inl same ↦ absurd (one_is_not_two (first_told same))
      | inr found ↦ found
    ]
