-- A run has as many carried witnesses as its script has steps that carry one.
use Rattle.std.proofs.Common.{◌≡◌, ℕ, suc, List, [], ◌∷◌, length, refl, sym, ap, ◌∙◌, arith}
use Rattle.std.proofs.lemmas.List.{length-append}
use Rattle.p3_runs.specs.{Fronts.{Run, seeded}, Plays.{Play, Place, Carried}, Provings.IsProved, Rules.Rules}
use Rattle.p3_runs.specs.{Runs.{if_carried, carried_count}, RunLaws.{AreMatched, finished-matched}}
use Rattle.p3_runs.specs.Values.{Value, Challenge, all_witnesses}
use Rattle.p3_runs.specs.Runs as runs

length-witnesses : {F : Type 0} (EF : Type 0) (xs : List F) → length (all_witnesses {EF = EF} xs) ≡ length xs
length-witnesses EF [] = refl
length-witnesses EF (x ∷ xs) = ap suc (length-witnesses EF xs)

length-carried : {V : Type 0} (place : Place) (v : V) → length (if_carried place (tt {0})) ≡ length (if_carried place v)
length-carried Carried v = refl
length-carried _ v = refl

module _ {X S Symbol F EF O : Type 0} (play : X → Play S Symbol F EF O) where
  pub count-carried : (steps : List X) (values : List (Value F EF)) → AreMatched play steps values →
      carried_count play steps ≡ length (runs.carried play steps values)
  count-carried [] [] h = refl
  count-carried (x ∷ steps) (v ∷ values) h =
      let rest = count-carried steps values h in
      let first = length-carried (play x).place v in
      let both = length-append (if_carried (play x).place v) (runs.carried play steps values) in
      omega (arith, rest, first, both)
  count-carried _ _ h = absurd h

module _ {X S Symbol I F EF O Ac : Type 0} (rules : Rules S Symbol I F EF O Ac) (play : X → Play S Symbol F EF O)
    (script : Run X F EF S) (sent : List (Value F EF)) (narg : List ℕ) (witnesses carried : List F)
    (drawn : List (Challenge F EF)) (end : S) where
  -- a prover returns as many witnesses to carry as there are steps that have one
  pub proved-count : IsProved rules play script sent narg witnesses carried drawn end →
      carried_count play script.steps ≡ length carried
  proved-count p =
      count-carried play script.steps p.values
      (finished-matched play script.steps p.values (seeded rules play script) p.outcome.is_run.finished.finishes)
      ∙ ap length (sym p.outcome.carried_is) ∙ length-witnesses EF carried
