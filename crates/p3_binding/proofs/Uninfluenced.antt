-- Hints and witnesses of 0 bits leave the challenger as it is.
use Rattle.std.proofs.Common.{◌≡◌, zero, List, [], ◌∷◌, Option, Some, None, refl, sym, ◌∙◌, subst}
use Rattle.p3_driver_core.specs.Effects.{Effect, untouched}
use Rattle.p3_binding.specs.{Hints.{SameButHint, SameButHints, HintsDoNotInfluence}, Binding.ScriptHintsDoNotInfluence}
use Rattle.p3_runs.specs.{Fronts.seeded, Plays.{effect_some, Play}, Rules.Rules, Runs.{challenges, after}}
use Rattle.p3_runs.specs.Values.{witness_in, bytes_in, Value}
use Rattle.p3_script.specs.Scripts.{play_of}
use Rattle.p3_script.specs.declared.steps.Step as script
use Rattle.p3_script.specs.declared.steps.Step.TheVariants as step

-- the same answers and states
abbrev pub Same : {S Symbol T : Type 0} → Effect S Symbol T → Effect S Symbol T → S → Type 0
Same e f s = (e.gives s ≡ f.gives s) × (e.after s ≡ f.after s)

-- ---- steps in order

module _ {X S Symbol I F EF O Ac : Type 0} (rules : Rules S Symbol I F EF O Ac) (play : X → Play S Symbol F EF O) where
  -- with either value each step draws the same and leaves the same
  abbrev pub EachAgrees : Type 0
  EachAgrees =
      (x : X) (v w : Value F EF) (s : S) → SameButHint (play x).interaction v w →
      Same ((play x).effect v) ((play x).effect w) s

  module _ (agree : EachAgrees) where
    steps-agree : (xs : List X) (vs ws : List (Value F EF)) (s : S) → SameButHints play xs vs ws →
        (challenges play xs vs s ≡ challenges play xs ws s) × (after play xs vs s ≡ after play xs ws s)
    steps-agree [] [] [] s h = (refl, refl)
    steps-agree (x ∷ xs) (v ∷ vs) (w ∷ ws) s h =
        let here = agree x v w s h.0 in
        let more = steps-agree xs vs ws (((play x).effect w).after s) h.1 in
        (cc, cc)
    steps-agree _ _ _ s h = absurd h

    pub hints-do_not_influence : HintsDoNotInfluence rules play
    hints-do_not_influence x others p q same =
        let ends = steps-agree x.steps x.values others (seeded rules play x) same in
        record { draws = ends.0; ends = ends.1 }

-- ---- the steps of scripts

-- no value, and any that leaves the challenger as it is, do the same
both-leave : {S Symbol T A : Type 0} (e : A → Effect S Symbol (Option T)) (o p : Option A) (s : S) →
    ((x : A) → Same (e x) (untouched None) s) → Same (effect_some None e o) (effect_some None e p) s
both-leave e None None s h = (refl, refl)
both-leave e None (Some y) s h = (sym (h y).0, sym (h y).1)
both-leave e (Some x) None s h = h x
both-leave e (Some x) (Some y) s h = ((h x).0 ∙ sym (h y).0, (h x).1 ∙ sym (h y).1)

module _ {S Symbol I F EF O Ac : Type 0} (r : Rules S Symbol I F EF O Ac) (Su U C K D G It St Sm : Type 0) where
  step-agrees : EachAgrees r (λ (x : script.Step Su F EF U O C K Ac D G It St Sm). play_of r x)
  step-agrees (step.Begin label kind) v w s h = (refl, refl)
  step-agrees (step.End label kind) v w s h = (refl, refl)
  step-agrees (step.Hint label len) v w s h = both-leave _ (bytes_in v) (bytes_in w) s (λ x. (refl, refl))
  step-agrees (step.HintBounded label max) v w s h = both-leave _ (bytes_in v) (bytes_in w) s (λ x. (refl, refl))
  step-agrees (step.Pow label zero) v w s h = both-leave _ (witness_in v) (witness_in w) s (λ x. (refl, refl))
  step-agrees (step.ObservePow label zero) v w s h = both-leave _ (witness_in v) (witness_in w) s (λ x. (refl, refl))
  step-agrees x v w s h = subst (λ u. Same ((play_of r x).effect v) ((play_of r x).effect u) s) h (refl, refl)

  pub script-hints : ScriptHintsDoNotInfluence Su U C K D G It St Sm r
  script-hints = hints-do_not_influence r _ step-agrees
