-- The pattern of two sums: memory alone is refused to who records it.
use Rattle.std.proofs.Common.{◌≡◌, ℕ, zero, suc, inl, false, List, [], ◌∷◌, ◌++◌, refl, sym, ap, subst, ◌∙◌}
use Rattle.std.{proofs.Common.{append_assoc, append-nil, Result, Ok, Err}, specs.Result.{IfErr, IsOk, MatchResult}}
use Rattle.std.specs.Result.{OnOk, result_and}
use Rattle.p3_challenger.specs.{Steps.{NamedAlgebra, Step}, Kind.TheVariants.Protocol, Recording.{Recording, Records}}
use Rattle.p3_challenger.specs.{PatternGrammar.{IsPattern, IsViable, leaf, nothing}, Rounds.steps_of_rounds}
use Rattle.p3_challenger.specs.TranscriptError.{TranscriptError, TheVariants.OutOfMemory}
use Rattle.p3_sumcheck.specs.Sumchecks.{round_steps}
use Rattle.uses.specs.TwoSums.{steps_of_sum, steps_of_two}

-- ---- leaves are a pattern

module _ (field : NamedAlgebra) where
  rounds-are : (n : ℕ) (rest : List Step) → IsPattern Protocol rest →
      IsPattern Protocol (steps_of_rounds (round_steps field) n ++ rest)
  rounds-are zero rest is = is
  rounds-are (suc n) rest is =
      leaf Protocol _ _ refl (inl refl) (leaf Protocol _ _ refl (inl refl) (rounds-are n rest is))

  sum-are : (n : ℕ) (rest : List Step) → IsPattern Protocol rest → IsPattern Protocol (steps_of_sum field n ++ rest)
  sum-are n rest is = leaf Protocol _ _ refl (inl refl) (rounds-are n rest is)

  pub two-are : (n : ℕ) → IsPattern Protocol (steps_of_two field n)
  two-are n =
      let one = steps_of_sum field n in
      sum-are n one (subst (IsPattern Protocol) (append-nil one) (sum-are n [] (nothing Protocol)))

-- ---- steps that some pattern begins with

pub viable-front : (steps more : List Step) → IsViable (steps ++ more) → IsViable steps
viable-front steps more viable =
    (more ++ viable.0, subst (IsPattern Protocol) (append_assoc steps more viable.0) viable.1)

-- the first step may be taken
pub viable-taken : (before : List Step) (s one : Step) (steps : List Step) → s ≡ one →
    IsViable (before ++ (one ∷ steps)) → IsViable (before ++ (s ∷ []))
viable-taken before s one steps same viable =
    subst (λ it. IsViable (before ++ (it ∷ []))) (sym same)
    (viable-front (before ++ (one ∷ [])) steps (subst IsViable (sym (append_assoc before (one ∷ []) steps)) viable))

-- a step is taken, and what some pattern goes on with is still so
pub viable-then : (before after : Recording) (s one : Step) (steps : List Step) → s ≡ one → Records before s after →
    IsViable (before.steps ++ (one ∷ steps)) → IsViable (after.steps ++ steps)
viable-then before after s one steps same records viable =
    let is : before.steps ++ (one ∷ steps) ≡ after.steps ++ steps
    = sym (append_assoc before.steps (one ∷ []) steps)
    ∙ ap (λ it. (before.steps ++ (it ∷ [])) ++ steps) (sym same)
    ∙ ap (λ (r : Recording). r.steps ++ steps) (sym records.recorded) in
    subst IsViable is viable

pub viable-next : (before after first then : List Step) → after ≡ before ++ first →
    IsViable (before ++ (first ++ then)) → IsViable (after ++ then)
viable-next before after first then is viable =
    subst IsViable (sym (append_assoc before first then) ∙ ap (λ l. l ++ then) (sym is)) viable

-- ---- answers

pub on-both : {A E G : Type 0} (P : Type 0) (Q : E → Type 0) (result : Result A E) → OnOk result (G → P) → G →
    IfErr result Q → MatchResult result (λ _. P) Q
on-both P Q (Ok x) p given q = p given
on-both P Q (Err e) p given q = q

-- where all was recorded the recorder ends, and else memory was refused
pub ends-own : {A B : Type 0} (steps : List Step) (end : Recording) (recorded : Result A TranscriptError)
    (last result : Result B TranscriptError) → result ≡ result_and recorded last → IsPattern Protocol steps →
    OnOk recorded (end.steps ≡ steps) →
    MatchResult recorded (λ _. end.finished ≡ false) (λ e. e ≡ OutOfMemory) →
    (end.finished ≡ false → IsPattern Protocol end.steps → IsOk last) → IfErr result (λ e. e ≡ OutOfMemory)
ends-own steps end (Err e) last result is are has own ends = subst (λ r. IfErr r (λ f. f ≡ OutOfMemory)) (sym is) own
ends-own steps end (Ok x) (Ok y) result is are has going ends =
    subst (λ r. IfErr r (λ f. f ≡ OutOfMemory)) (sym is) tt
ends-own steps end (Ok x) (Err e) result is are has going ends =
    let ok = ends going (subst (IsPattern Protocol) (sym has) are) in absurd (cc)

-- a recorder that has recorded nothing
module _ (field : NamedAlgebra) (n : ℕ) where
  pub two-viable : (before : List Step) → before ≡ [] → IsViable (before ++ steps_of_two field n)
  two-viable before none =
      let steps = steps_of_two field n in
      subst (λ l. IsViable (l ++ steps)) (sym none)
      ([], subst (IsPattern Protocol) (sym (append-nil steps)) (two-are field n))

  pub two-recorded : {A : Type 0} (before after : List Step) → before ≡ [] → (recorded : Result A TranscriptError) →
      OnOk recorded (after ≡ before ++ steps_of_two field n) → OnOk recorded (after ≡ steps_of_two field n)
  two-recorded before after none (Ok x) has = has ∙ ap (λ l. l ++ steps_of_two field n) none
  two-recorded before after none (Err e) has = has
