-- Steps have one first fault at most.
use Rattle.std.proofs.Common.{◌≡◌, ℕ, ◌⊎◌, List, [], ◌∷◌, ◌++◌, length, refl, sym, ap, subst, ◌∙◌, inl, inr}
use Rattle.p3_fs_core.specs.{declared.step.Hierarchy.TheVariants.End, Steps.Step}
use Rattle.p3_fs_core.specs.Errors.{Fault, missing_begin, invalid_kind, mismatched_begin_end, missing_end}
use Rattle.p3_patterns.specs.PatternGrammar.{IsViable, IsInnermost, IsNoneOpen, StopsAt, IsFirstFault}
use Rattle.p3_patterns.proofs.{PatternGrammarLaws.only-innermost, FirstFaults.{viable-front, no-stop}}

-- of two steps of a list one is the other, or stands before it
abbrev Apart : List Step → Step → List Step → Type 0
Apart front s before = (between : List Step) × (before ≡ front ++ (s ∷ between))

splits : (a b : List Step) (s t : Step) (x y : List Step) → a ++ (s ∷ x) ≡ b ++ (t ∷ y) →
    ((a ≡ b) × (s ≡ t)) ⊎ Apart a s b ⊎ Apart b t a
splits [] [] s t x y e = inl (refl, cc)
splits [] (c ∷ b) s t x y e =
    let first : c ≡ s = cc in
    inr (inl (b, ap (λ z. z ∷ b) first))
splits (c ∷ a) [] s t x y e =
    let first : c ≡ t = cc in
    inr (inr (a, ap (λ z. z ∷ a) first))
splits (c ∷ a) (d ∷ b) s t x y e =
    let first : c ≡ d = cc in
    elim (splits a b s t x y (cc)) [
      | inl same ↦ inl (ap (λ z. z ∷ a) first ∙ ap (λ zs. d ∷ zs) same.0, same.1)
      | inr (inl apart) ↦ inr
          (inl (apart.0, ap (λ zs. d ∷ zs) apart.1 ∙ ap (λ z. z ∷ (a ++ (s ∷ apart.0))) (sym first)))
      | inr (inr apart) ↦ inr (inr (apart.0, ap (λ zs. c ∷ zs) apart.1 ∙ ap (λ z. z ∷ (b ++ (t ∷ apart.0))) first))
    ]

module _ (steps : List Step) where
  -- no viable steps go past a stop
  not-past : (p : ℕ) (s : Step) (stop : StopsAt steps p s) (before : List Step) → IsViable before →
      Apart stop.before s before → ⊥
  not-past p s stop before viable apart =
      stop.stuck (viable-front stop.before apart.0 s (subst IsViable apart.1 viable))

  one_stop : (p q : ℕ) (s t : Step) (first : StopsAt steps p s) (second : StopsAt steps q t) →
      (first.before ≡ second.before) × (p ≡ q) × (s ≡ t)
  one_stop p q s t first second =
      elim (splits first.before second.before s t first.rest second.rest (sym first.split ∙ second.split)) [
        | inl same ↦ (same.0, sym first.place ∙ ap length same.0 ∙ second.place, same.1)
        | inr (inl apart) ↦ absurd (not-past p s first second.before second.viable apart)
        | inr (inr apart) ↦ absurd (not-past q t second first.before first.viable apart)
      ]

  -- the innermost openers before one stop
  one_opener : (p q m n : ℕ) (s t a b : Step) (first : StopsAt steps p s) (second : StopsAt steps q t) →
      IsInnermost first.before m a → IsInnermost second.before n b → (m ≡ n) × (a ≡ b)
  one_opener p q m n s t a b first second is other =
      let stop = one_stop p q s t first second in
      only-innermost second.before m n a b (subst (λ (w : List Step). IsInnermost w m a) stop.0 is) other

  none-and-one : (p q n : ℕ) (s t b : Step) (first : StopsAt steps p s) (second : StopsAt steps q t) →
      IsNoneOpen first.before → IsInnermost second.before n b → ⊥
  none-and-one p q n s t b first second none is =
      let stop = one_stop p q s t first second in
      none n b (subst (λ (w : List Step). IsInnermost w n b) (sym stop.0) is)

  -- a closer and a step that is none
  closes-and-not : (p q : ℕ) (s t : Step) (first : StopsAt steps p s) (second : StopsAt steps q t) →
      s.hierarchy ≡ End → (t.hierarchy ≡ End → ⊥) → ⊥
  closes-and-not p q s t first second ends goes_on =
      let stop = one_stop p q s t first second in
      goes_on (ap (λ z. z.hierarchy) (sym stop.2) ∙ ends)

  pub one_fault : (f g : Fault) → IsFirstFault steps f → IsFirstFault steps g → f ≡ g
  one_fault (missing_begin p s) (missing_begin q t) h k =
      let stop = one_stop p q s t h.0 k.0 in
      ap (λ n. missing_begin n s) stop.1 ∙ ap (missing_begin q) stop.2
  one_fault (missing_begin p s) (invalid_kind n b q t) h k = absurd (closes-and-not p q s t h.0 k.0 h.1 k.1)
  one_fault (missing_begin p s) (mismatched_begin_end n b q t) h k = absurd (none-and-one p q n s t b h.0 k.0 h.2 k.2)
  one_fault (missing_begin p s) (missing_end n b) h k = absurd (no-stop steps p s h.0 k.0)
  one_fault (invalid_kind m a p s) (missing_begin q t) h k = absurd (closes-and-not q p t s k.0 h.0 k.1 h.1)
  one_fault (invalid_kind m a p s) (invalid_kind n b q t) h k =
      let stop = one_stop p q s t h.0 k.0 in
      let opener = one_opener p q m n s t a b h.0 k.0 h.2 k.2 in
      (λ i. invalid_kind (opener.0 i) (opener.1 i) (stop.1 i) (stop.2 i))
  one_fault (invalid_kind m a p s) (mismatched_begin_end n b q t) h k = absurd (closes-and-not q p t s k.0 h.0 k.1 h.1)
  one_fault (invalid_kind m a p s) (missing_end n b) h k = absurd (no-stop steps p s h.0 k.0)
  one_fault (mismatched_begin_end m a p s) (missing_begin q t) h k = absurd (none-and-one q p m t s a k.0 h.0 k.2 h.2)
  one_fault (mismatched_begin_end m a p s) (invalid_kind n b q t) h k = absurd (closes-and-not p q s t h.0 k.0 h.1 k.1)
  one_fault (mismatched_begin_end m a p s) (mismatched_begin_end n b q t) h k =
      let stop = one_stop p q s t h.0 k.0 in
      let opener = one_opener p q m n s t a b h.0 k.0 h.2 k.2 in
      (λ i. mismatched_begin_end (opener.0 i) (opener.1 i) (stop.1 i) (stop.2 i))
  one_fault (mismatched_begin_end m a p s) (missing_end n b) h k = absurd (no-stop steps p s h.0 k.0)
  one_fault (missing_end m a) (missing_begin q t) h k = absurd (no-stop steps q t k.0 h.0)
  one_fault (missing_end m a) (invalid_kind n b q t) h k = absurd (no-stop steps q t k.0 h.0)
  one_fault (missing_end m a) (mismatched_begin_end n b q t) h k = absurd (no-stop steps q t k.0 h.0)
  one_fault (missing_end m a) (missing_end n b) h k =
      let opener = only-innermost steps m n a b h.2 k.2 in
      (λ i. missing_end (opener.0 i) (opener.1 i))
