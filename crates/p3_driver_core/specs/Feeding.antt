-- What it means that a step feeds exactly its symbols, that it only draws, and that it does both.
use Rattle.std.specs.Prelude.{◌≡◌, List, [], ◌∷◌, ◌++◌, IsSome}
use Rattle.p3_challenger_core.specs.{Sponge.{IsFed, IsStepsOn}, Observation.{LeavesFed, LeavesAfter}}
use Rattle.p3_challenger_core.specs.{Sampling.RefusesDraw, declared.error.ChallengerError.ChallengerError}
use Rattle.p3_driver_core.specs.{Effects.Effect, Working.Work}

-- The effect feeds its symbols. The state after it has been fed exactly these; where it is refused, a prefix of them
-- was fed. After a symbol there are no outputs that could be dropped, so there both hold exactly.
pub record Feeds {S Symbol A : Type 0} (fed : S → List Symbol → S) (effect : Effect S Symbol A) : Type 0 where
  pub feeds : (s : S) → IsFed fed s effect.symbols (effect.after s)
  pub feeds_after : (s : S) (y : Symbol) (ys : List Symbol) →
      effect.after (fed s (y ∷ ys)) ≡ fed s ((y ∷ ys) ++ effect.symbols)
  pub leaves : (e : ChallengerError) (s t : S) → effect.refuses e s t → LeavesFed fed s effect.symbols t
  pub leaves_after : (e : ChallengerError) (s : S) (y : Symbol) (ys : List Symbol) (t : S) →
      effect.refuses e (fed s (y ∷ ys)) t → LeavesAfter fed s (y ∷ ys) effect.symbols t

-- The effect draws and feeds nothing. The state after it, or after its refusal, is one after some number of smallest
-- draws.
pub record OnlyDraws {S Symbol A : Type 0} (next : S → S) (effect : Effect S Symbol A) : Type 0 where
  pub no_symbols : effect.symbols ≡ []
  pub steps : (s : S) → IsStepsOn next s (effect.after s)
  pub leaves : (e : ChallengerError) (s t : S) → effect.refuses e s t → IsStepsOn next s t

-- a state is fed in this way, between two runs of smallest draws
pub record AmidDraws {S : Type 0} (next : S → S) (IsFedSo : S → S → Type 0) (s t : S) : Type 0 where
  pub first : S
  pub last : S
  pub before : IsStepsOn next s first
  pub feeds : IsFedSo first last
  pub after : IsStepsOn next last t

-- symbols are fed to a state, between two runs of smallest draws
abbrev pub FedAmidDraws : {S Symbol : Type 0} → (S → S) → (S → List Symbol → S) → S → List Symbol → S → Type 0
FedAmidDraws next fed s symbols t = AmidDraws next (λ u. IsFed fed u symbols) s t

-- a prefix of the symbols is fed, between two runs of smallest draws
abbrev pub LeavesAmidDraws : {S Symbol : Type 0} → (S → S) → (S → List Symbol → S) → S → List Symbol → S → Type 0
LeavesAmidDraws next fed s symbols t = AmidDraws next (λ u. LeavesFed fed u symbols) s t

-- A check feeds the symbols of its witness, whether the witness passes or not, and draws before and after them.
-- Where the check is refused, a prefix of the symbols was fed.
pub record FeedsItsWitness {S Symbol W : Type 0} (next : S → S) (fed : S → List Symbol → S) (work : Work S Symbol W)
    (x : W) : Type 0 where
  pub feeds : (s : S) → IsSome ((work.check x).sampled s) →
      FedAmidDraws next fed s (work.symbols x) ((work.check x).after s)
  pub leaves : (e : ChallengerError) (s t : S) → RefusesDraw (work.check x) e s t →
      LeavesAmidDraws next fed s (work.symbols x) t
