-- A value, a byte string and a second value are three calls of one observation.
use Rattle.std.proofs.Common.{◌≡◌, ℕ, ◌⊎◌, inl, inr, List, [], ◌∷◌, ◌++◌, length, sym, ap, ◌∙◌, subst, append_assoc}
use Rattle.std.proofs.{Common.{append-nil, arith}, lemmas.List.{length-append, nil_from_length}}
use Rattle.std.specs.List.{flat_map}
use Rattle.p3_challenger.specs.Sponge.{IsFed}
use Rattle.p3_challenger.specs.Observation.{
  Observation,
  IsObservation,
  LeavesFed,
  LeavesInCalls,
  RefusesObserve,
  in_slice,
  observed_as,
}
use Rattle.p3_challenger.specs.ObservationLaws.{all-fed, calls-leave, in_slice-is_observation}
use Rattle.p3_challenger.specs.{ObservationLaws.observed_as-is_observation, Reading.{IsPrefixCode, OneBegins}}
use Rattle.p3_challenger.specs.{Alphabet.{RefusesBytes, LeavesItems}, ChallengerError.ChallengerError}
use Rattle.p3_challenger.specs.ChallengerError.TheVariants.{OutOfMemory, DrawLimit, NoWitness, TooLong}
use Rattle.p3_challenger.specs.EitherLaws.{either, either-is_observation}
use Rattle.uses.specs.BoundValues.{of_three, RefusesInTurn}

-- a byte string in an alphabet, whose items are observed as one slice or one by one
module _ {S Symbol I : Type 0} (fed : S → List Symbol → S) (fed_nothing : (s : S) → fed s [] ≡ s)
    (fed_more : (s : S) (a b : List Symbol) → fed (fed s a) b ≡ fed s (a ++ b))
    (o : Observation S Symbol I) (o_laws : IsObservation fed o) (slice_may_leave : S → List I → S → Type 0)
    (slice_leaves : (s : S) (xs : List I) (t : S) → slice_may_leave s xs t →
    LeavesInCalls o.observed o.may_leave s xs t)
    (items : List ℕ → List I) where
  abbrev pub text_of : Observation S Symbol (List ℕ)
  text_of = observed_as items (in_slice o (LeavesItems o slice_may_leave))

  items-leave : (s : S) (xs : List I) (t : S) → LeavesItems o slice_may_leave s xs t →
      LeavesInCalls o.observed o.may_leave s xs t
  items-leave s xs t (inl h) = slice_leaves s xs t h
  items-leave s xs t (inr h) = h

  pub text-is_observation : IsObservation fed text_of
  text-is_observation =
      observed_as-is_observation fed fed_nothing fed_more (in_slice o (LeavesItems o slice_may_leave))
      (in_slice-is_observation fed fed_nothing fed_more o o_laws (LeavesItems o slice_may_leave) items-leave) items

module _ {S Symbol T : Type 0} (fed : S → List Symbol → S) (fed_nothing : (s : S) → fed s [] ≡ s)
    (fed_more : (s : S) (a b : List Symbol) → fed (fed s a) b ≡ fed s (a ++ b))
    (value : Observation S Symbol T) (value_laws : IsObservation fed value)
    (text : Observation S Symbol (List ℕ)) (text_laws : IsObservation fed text)
    (IsTooLong : Type 0) (first : T) (message : List ℕ) (second : T) (s : S) where
  abbrev call : Observation S Symbol (T ⊎ List ℕ)
  call = either value text

  abbrev calls : List (T ⊎ List ℕ)
  calls = inl first ∷ inr message ∷ inl second ∷ []

  abbrev symbols : List Symbol
  symbols = of_three value.symbols text.symbols first message second

  same_symbols : flat_map call.symbols calls ≡ symbols
  same_symbols = ap (λ ys. value.symbols first ++ (text.symbols message ++ ys)) (append-nil (value.symbols second))

  left : (t : S) → LeavesInCalls call.observed call.may_leave s calls t → LeavesFed fed s symbols t
  left t h =
      subst (λ a. LeavesFed fed s a t) same_symbols
      (calls-leave fed fed_nothing fed_more call (either-is_observation value text fed value_laws text_laws) s calls t
      h)

  pub first-refused : (e : ChallengerError) (t : S) → RefusesObserve (value.may_leave s first) e t →
      RefusesInTurn fed IsTooLong (value.symbols first) symbols e s t
  first-refused OutOfMemory t h = left t (inl h)
  first-refused DrawLimit t h = absurd h
  first-refused NoWitness t h = absurd h
  first-refused TooLong t h = absurd h

  module _ (u : S) (u_is : u ≡ value.observed s first) where
    pub message-refused : (e : ChallengerError) (t : S) → RefusesBytes IsTooLong (text.may_leave u message) u e t →
        RefusesInTurn fed IsTooLong (value.symbols first) symbols e s t
    message-refused OutOfMemory t h = left t (inr (inl (subst (λ v. text.may_leave v message t) u_is h.1)))
    message-refused DrawLimit t h = absurd h
    message-refused NoWitness t h = absurd h
    message-refused TooLong t h =
        (h.0, subst (λ v. IsFed fed s (value.symbols first) v) (sym (h.1 ∙ u_is)) (value_laws.observes s first))

    module _ (v : S) (v_is : v ≡ text.observed u message) where
      there : v ≡ text.observed (value.observed s first) message
      there = v_is ∙ ap (λ w. text.observed w message) u_is

      pub second-refused : (e : ChallengerError) (t : S) → RefusesObserve (value.may_leave v second) e t →
          RefusesInTurn fed IsTooLong (value.symbols first) symbols e s t
      second-refused OutOfMemory t h = left t (inr (inr (inl (subst (λ w. value.may_leave w second t) there h))))
      second-refused DrawLimit t h = absurd h
      second-refused NoWitness t h = absurd h
      second-refused TooLong t h = absurd h

      pub three-fed : (t : S) → t ≡ value.observed v second → IsFed fed s symbols t
      three-fed t t_is =
          let is : t ≡ value.observed (text.observed (value.observed s first) message) second = t_is
          ∙ ap (λ w. value.observed w second) there in
          subst (λ w. IsFed fed s symbols w) (sym is)
          (subst (λ a. IsFed fed s a (value.observed (text.observed (value.observed s first) message) second))
          same_symbols
          (all-fed fed fed_nothing fed_more call (either-is_observation value text fed value_laws text_laws) s calls))

-- ---- what the symbols bind

-- of two strings of one length, of which one begins the other, both are the same
begins-equal : {A : Type 0} (a b : List A) → length a ≡ length b → OneBegins a b → a ≡ b
begins-equal a b same (inl h) =
    let none : length h.0 ≡ 0 = omega (arith, same, ap length h.1, length-append a h.0) in
    sym (append-nil a) ∙ ap (λ c. a ++ c) (sym (nil_from_length h.0 none)) ∙ h.1
begins-equal a b same (inr h) =
    let none : length h.0 ≡ 0 = omega (arith, same, ap length h.1, length-append b h.0) in
    sym (sym (append-nil b) ∙ ap (λ c. b ++ c) (sym (nil_from_length h.0 none)) ∙ h.1)

module _ {Symbol T : Type 0} (of_value : T → List Symbol) (of_bytes : List ℕ → List Symbol) where
  following : (p : T) (a : List ℕ) (v : T) (x : List Symbol) →
      of_three of_value of_bytes p a v ++ x ≡ of_value p ++ (of_bytes a ++ (of_value v ++ x))
  following p a v x =
      append_assoc (of_value p) (of_bytes a ++ of_value v) x
      ∙ ap (λ ys. of_value p ++ ys) (append_assoc (of_bytes a) (of_value v) x)

  -- the first value is read off, then the byte string of its length, and then the second value
  pub symbols-bind : IsPrefixCode of_value → (p q v w : T) (a b : List ℕ) (x y : List Symbol) → length a ≡ length b →
      ((r s : List Symbol) → of_bytes a ++ r ≡ of_bytes b ++ s → OneBegins a b × (a ≡ b → r ≡ s)) →
      of_three of_value of_bytes p a v ++ x ≡ of_three of_value of_bytes q b w ++ y →
      (p ≡ q) × (a ≡ b) × (v ≡ w) × (x ≡ y)
  symbols-bind prefix_code p q v w a b x y same reads e =
      let first = prefix_code p q (of_bytes a ++ (of_value v ++ x)) (of_bytes b ++ (of_value w ++ y))
      (sym (following p a v x) ∙ e ∙ following q b w y) in
      let message = reads (of_value v ++ x) (of_value w ++ y) first.1 in
      let is : a ≡ b = begins-equal a b same message.0 in
      let second = prefix_code v w x y (message.1 is) in
      (first.0, is, second.0, second.1)
