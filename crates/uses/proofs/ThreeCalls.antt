-- Two calls that observe, and a draw after them.
use Rattle.std.proofs.Common.{◌≡◌, ◌⊎◌, inl, inr, List, [], ◌∷◌, ◌++◌, Some, Result, Ok, Err, sym, ap, ◌∙◌, subst}
use Rattle.std.{proofs.Common.append-nil, specs.List.flat_map, specs.Result.{IfOk, OnOk}}
use Rattle.p3_challenger.specs.{Sponge.IsFed, ObservationLaws.{all-fed, calls-leave}, ChallengerError.ChallengerError}
use Rattle.p3_challenger.specs.Observation.{Observation, IsObservation, LeavesFed, LeavesInCalls, RefusesObserve}
use Rattle.p3_challenger.specs.{Sampling.{Sampling, IsSampling, RefusesDraw}, Dependence.DrawsAfter}
use Rattle.p3_challenger.specs.ChallengerError.TheVariants.{OutOfMemory, DrawLimit, NoWitness, TooLong}
use Rattle.p3_challenger.specs.EitherLaws.{either, either-is_observation}
use Rattle.uses.specs.ThreeCalls.{RefusesThreeCalls}

module _ {S Symbol A B X : Type 0} (fed : S → List Symbol → S) (fed_nothing : (s : S) → fed s [] ≡ s)
    (fed_more : (s : S) (a b : List Symbol) → fed (fed s a) b ≡ fed s (a ++ b)) (next : S → S)
    (o : Observation S Symbol A) (o_laws : IsObservation fed o)
    (p : Observation S Symbol B) (p_laws : IsObservation fed p)
    (d : Sampling S X) (d_laws : IsSampling next d) (first : A) (rest : B) (s : S) where
  abbrev call : Observation S Symbol (A ⊎ B)
  call = either o p

  abbrev calls : List (A ⊎ B)
  calls = inl first ∷ inr rest ∷ []

  abbrev symbols : List Symbol
  symbols = o.symbols first ++ p.symbols rest

  same_symbols : flat_map call.symbols calls ≡ symbols
  same_symbols = ap (λ ys. o.symbols first ++ ys) (append-nil (p.symbols rest))

  left : (t : S) → LeavesInCalls call.observed call.may_leave s calls t → LeavesFed fed s symbols t
  left t h =
      subst (λ a. LeavesFed fed s a t) same_symbols
      (calls-leave fed fed_nothing fed_more call (either-is_observation o p fed o_laws p_laws) s calls t h)

  pub first-refused : (e : ChallengerError) (t : S) → RefusesObserve (o.may_leave s first) e t →
      RefusesThreeCalls fed next d symbols e s t
  first-refused OutOfMemory t h = inl (left t (inl h))
  first-refused DrawLimit t h = absurd h
  first-refused NoWitness t h = absurd h
  first-refused TooLong t h = absurd h

  module _ (u : S) (u_is : u ≡ o.observed s first) where
    pub rest-refused : (e : ChallengerError) (t : S) → RefusesObserve (p.may_leave u rest) e t →
        RefusesThreeCalls fed next d symbols e s t
    rest-refused OutOfMemory t h = inl (left t (inr (inl (subst (λ v. p.may_leave v rest t) u_is h))))
    rest-refused DrawLimit t h = absurd h
    rest-refused NoWitness t h = absurd h
    rest-refused TooLong t h = absurd h

    module _ (v : S) (v_is : v ≡ p.observed u rest) where
      both-fed : IsFed fed s symbols v
      both-fed =
          let is : v ≡ p.observed (o.observed s first) rest = v_is ∙ ap (λ w. p.observed w rest) u_is in
          subst (λ w. IsFed fed s symbols w) (sym is)
          (subst (λ a. IsFed fed s a (p.observed (o.observed s first) rest)) same_symbols
          (all-fed fed fed_nothing fed_more call (either-is_observation o p fed o_laws p_laws) s calls))

      pub draw-refused : (e : ChallengerError) (t : S) → RefusesDraw d e v t →
          RefusesThreeCalls fed next d symbols e s t
      draw-refused OutOfMemory t h = inr (v, both-fed, d_laws.leaves v t h)
      draw-refused DrawLimit t h = (v, both-fed, h.0, h.1)
      draw-refused NoWitness t h = absurd h
      draw-refused TooLong t h = absurd h

      pub drawn : (result : Result X ChallengerError) (t : S) → IfOk result (λ x. d.sampled v ≡ Some x) →
          OnOk result (t ≡ d.after v) → IfOk result (λ x. DrawsAfter fed d symbols x s t)
      drawn (Ok x) t gives is = (v, both-fed, gives, is)
      drawn (Err e) t gives is = tt
