-- Laws of a recorder's steps with which some pattern begins.
use Rattle.std.proofs.Common.{◌≡◌, inl, inr, false, List, [], ◌∷◌, ◌++◌, sym, ap, subst, ◌∙◌, append_assoc}
use Rattle.p3_challenger.specs.{Kind.TheVariants.Protocol, PatternGrammar.{IsPattern, IsViable}, Steps.Step}
use Rattle.p3_challenger.specs.{Recording.{Recording, RefusesToRecord}, TranscriptError.TranscriptError}
use Rattle.p3_challenger.specs.TranscriptError.TheVariants.{OutOfMemory}

-- if some pattern begins with steps, it begins with the first ones and the one after them
pub viable-first : (before done others : List Step) (s : Step) → IsViable (before ++ (done ++ (s ∷ others))) →
    IsViable ((before ++ done) ++ (s ∷ []))
viable-first before done others s viable =
    let is : (before ++ (done ++ (s ∷ others))) ++ viable.0 ≡ ((before ++ done) ++ (s ∷ [])) ++ (others ++ viable.0)
    = ap (λ l. l ++ viable.0) (sym (append_assoc before done (s ∷ others)))
    ∙ append_assoc (before ++ done) (s ∷ others) viable.0
    ∙ sym (append_assoc (before ++ done) (s ∷ []) (others ++ viable.0)) in
    (others ++ viable.0, subst (IsPattern Protocol) is viable.1)

-- a recorder that has refused none yet refuses such a step only when out of memory
pub only-memory : (here after : Recording) (s : Step) (e : TranscriptError) → here.finished ≡ false →
    IsViable (here.steps ++ (s ∷ [])) → RefusesToRecord here s e after → e ≡ OutOfMemory
only-memory here after s e going viable refuses = elim refuses.fault [
  | inl late ↦ let ended = late.0 in absurd (cc)
  | inr fault ↦ elim fault.1 [
    | inl stuck ↦ absurd (stuck.0 viable)
    | inr memory ↦ memory.1
  ]
]
