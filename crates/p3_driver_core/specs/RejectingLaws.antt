-- Laws of draws with a rule: of the candidates drawn in a row, exactly the first accepted ones are kept.
use Rattle.std.proofs.Common.{◌≡◌, ℕ, zero, suc, ◌<◌, Bool, true, false, List, [], ◌∷◌, ◌++◌, length, Option, Some}
use Rattle.std.proofs.Common.{refl, sym, ap, ◌∙◌, subst, append_assoc, append-nil, arith, if◌then◌else◌, ◌↔◌}
use Rattle.std.{proofs.Common.{None, option_and_then}, specs.Option.option_map}
use Rattle.p3_challenger_core.specs.Sampling.{Sampling, draws, after_draws}
use Rattle.p3_driver_core.specs.Rejecting.{Rule, Outcome, given, go_on, taken, keeps, AreRefused, AreKept, KeepsFirst}

-- an outcome determines its value and the state after it
given-same : {S A : Type 0} {x y : A} {s t : S} → given x s ≡ given y t → (x ≡ y) × (s ≡ t)
given-same {S} {A} {x} {y} is =
    let both : ◌≡◌ {A = Option A} (Some x) (Some y) = ap (λ (o : Outcome S A). o.gives) is in
    (cc, ap (λ (o : Outcome S A). o.after) is)

none-given : {S A : Type 0} {x : A} {s t : S} → record { gives = None; after = s } ≡ given x t → ⊥
none-given {S} {A} {x} is =
    let none : ◌≡◌ {A = Option A} None (Some x) = ap (λ (o : Outcome S A). o.gives) is in absurd (cc)

drew-both : {T : Type 0} (o : Option T) (rest : Option (List T)) (x : T) (xs : List T) →
    option_and_then (λ y. option_map (λ ys. y ∷ ys) rest) o ≡ Some (x ∷ xs) → (o ≡ Some x) × (rest ≡ Some xs)
drew-both None rest x xs is = absurd (cc)
drew-both (Some y) None x xs is = absurd (cc)
drew-both (Some y) (Some ys) x xs is = (cc, cc)

module _ {S T : Type 0} (d : Sampling S T) where
  -- ---- draws in a row

  -- these are drawn in a row, and this state is left
  abbrev Drawn : S → List T → S → Type 0
  Drawn s [] t = s ≡ t
  Drawn s (x ∷ xs) t = (d.sampled s ≡ Some x) × Drawn (d.after s) xs t

  drawn-then : (s : S) (xs : List T) (t : S) (ys : List T) (u : S) → Drawn s xs t → Drawn t ys u → Drawn s (xs ++ ys) u
  drawn-then s [] t ys u first others = subst (λ v. Drawn v ys u) (sym first) others
  drawn-then s (x ∷ xs) t ys u first others = (first.0, drawn-then (d.after s) xs t ys u first.1 others)

  drawn-split : (s : S) (xs ys : List T) (u : S) → Drawn s (xs ++ ys) u → (t : S) × Drawn s xs t × Drawn t ys u
  drawn-split s [] ys u all = (s, refl, all)
  drawn-split s (x ∷ xs) ys u all =
      let rest = drawn-split (d.after s) xs ys u all.1 in (rest.0, (all.0, rest.1), rest.2)

  drawn-draws : (s : S) (xs : List T) (t : S) → Drawn s xs t → draws d (length xs) s ≡ Some xs
  unfolding draws
  drawn-draws s [] t all = refl
  drawn-draws s (x ∷ xs) t all = rw (all.0, drawn-draws (d.after s) xs t all.1)

  drawn-after : (s : S) (xs : List T) (t : S) → Drawn s xs t → after_draws d (length xs) s ≡ t
  unfolding after_draws
  drawn-after s [] t all = all
  drawn-after s (x ∷ xs) t all = rw all.0 (drawn-after (d.after s) xs t all.1)

  draws-drawn : (s : S) (xs : List T) (t : S) → draws d (length xs) s ≡ Some xs → after_draws d (length xs) s ≡ t →
      Drawn s xs t
  unfolding draws after_draws
  draws-drawn s [] t is left = left
  draws-drawn s (x ∷ xs) t is left =
      let both = drew-both (d.sampled s) (draws d (length xs) (d.after s)) x xs is in
      (both.0, draws-drawn (d.after s) xs t both.1 (rw both.0 at left))

  module _ (rule : Rule T) where
    -- ---- the first candidate that is accepted

    record Found (limit : ℕ) (kept : List T) (s : S) (x : T) (t : S) : Type 0 where
      refused : List T
      few : length refused < limit
      refuses : AreRefused rule kept refused
      takes : rule x kept ≡ true
      drawn : Drawn s (refused ++ (x ∷ [])) t

    found-decided : (more : ℕ) (kept : List T) (s : S) (x y : T) (t : S) (b : Bool) → rule y kept ≡ b →
        d.sampled s ≡ Some y → (taken d rule more kept (d.after s) ≡ given x t → Found more kept (d.after s) x t) →
        (if b then given y (d.after s) else taken d rule more kept (d.after s)) ≡ given x t →
        Found (suc more) kept s x t
    found-decided more kept s x y t true test sampled later is =
        let same = given-same is in
        let takes = rw same.0 at test in
        let drawn = rw same.0 at sampled in
        record { refused = []; few = omega arith; refuses = tt; takes = takes; drawn = (drawn, same.1) }
    found-decided more kept s x y t false test sampled later is = record {
      refused = y ∷ (later is).refused;
      few = omega (arith, (later is).few);
      refuses = (test, (later is).refuses);
      takes = (later is).takes;
      drawn = (sampled, (later is).drawn);
    }

    found-drawn : (more : ℕ) (kept : List T) (s : S) (x : T) (t : S) (o : Option T) → d.sampled s ≡ o →
        (taken d rule more kept (d.after s) ≡ given x t → Found more kept (d.after s) x t) →
        go_on (λ y u. if rule y kept then given y u else taken d rule more kept u) o (d.after s) ≡ given x t →
        Found (suc more) kept s x t
    found-drawn more kept s x t None sampled later is = absurd (none-given is)
    found-drawn more kept s x t (Some y) sampled later is =
        found-decided more kept s x y t (rule y kept) refl sampled later is

    taken-found : (limit : ℕ) (kept : List T) (s : S) (x : T) (t : S) → taken d rule limit kept s ≡ given x t →
        Found limit kept s x t
    unfolding taken
    taken-found zero kept s x t is = absurd (none-given is)
    taken-found (suc more) kept s x t is =
        found-drawn more kept s x t (d.sampled s) refl (taken-found more kept (d.after s) x t) is

    found-taken : (refused : List T) (limit : ℕ) (kept : List T) (s : S) (x : T) (t : S) → length refused < limit →
        AreRefused rule kept refused → rule x kept ≡ true → Drawn s (refused ++ (x ∷ [])) t →
        taken d rule limit kept s ≡ given x t
    unfolding taken
    found-taken refused zero kept s x t few refuses takes drawn = absurd (omega arith)
    found-taken [] (suc more) kept s x t few refuses takes drawn = rw (drawn.0, takes, drawn.1)
    found-taken (y ∷ refused) (suc more) kept s x t few refuses takes drawn =
        rw (drawn.0, refuses.0) (found-taken refused more kept (d.after s) x t (omega arith) refuses.1 takes drawn.1)

    -- ---- so many of them

    record Kept (limit n : ℕ) (kept : List T) (s : S) (xs : List T) (t : S) : Type 0 where
      more : List T
      candidates : List T
      all : xs ≡ kept ++ more
      count : length more ≡ n
      are_kept : AreKept rule limit kept more candidates
      drawn : Drawn s candidates t

    one-more : (refused : List T) (x : T) (rest : List T) → (refused ++ (x ∷ [])) ++ rest ≡ refused ++ (x ∷ rest)
    one-more refused x rest = append_assoc refused (x ∷ []) rest

    kept-next : (limit n : ℕ) (kept : List T) (s : S) (x : T) (u : S) (xs : List T) (t : S) →
        Found limit kept s x u → Kept limit n (kept ++ (x ∷ [])) u xs t → Kept limit (suc n) kept s xs t
    kept-next limit n kept s x u xs t found later = record {
      more = x ∷ later.more;
      candidates = found.refused ++ (x ∷ later.candidates);
      all = later.all ∙ one-more kept x later.more;
      count = ap suc later.count;
      are_kept = (found.refused, later.candidates, refl, found.few, found.refuses, found.takes, later.are_kept);
      drawn = rw one-more at
          (drawn-then s (found.refused ++ (x ∷ [])) u later.candidates t found.drawn later.drawn);
    }

    kept-given : (limit n : ℕ) (kept : List T) (s : S) (xs : List T) (t : S) (o : Option T) (u : S) →
        taken d rule limit kept s ≡ record { gives = o; after = u } →
        ((x : T) → keeps d rule limit n (kept ++ (x ∷ [])) u ≡ given xs t → Kept limit n (kept ++ (x ∷ [])) u xs t) →
        go_on (λ x v. keeps d rule limit n (kept ++ (x ∷ [])) v) o u ≡ given xs t → Kept limit (suc n) kept s xs t
    kept-given limit n kept s xs t None u next later is = absurd (none-given is)
    kept-given limit n kept s xs t (Some x) u next later is =
        kept-next limit n kept s x u xs t (taken-found limit kept s x u next) (later x is)

    keeps-kept : (limit n : ℕ) (kept : List T) (s : S) (xs : List T) (t : S) →
        keeps d rule limit n kept s ≡ given xs t → Kept limit n kept s xs t
    unfolding keeps
    keeps-kept limit zero kept s xs t is =
        let same = given-same is in record {
          more = [];
          candidates = [];
          all = sym same.0 ∙ sym (append-nil kept);
          count = refl;
          are_kept = refl;
          drawn = same.1;
        }
    keeps-kept limit (suc n) kept s xs t is =
        let next = taken d rule limit kept s in
        kept-given limit n kept s xs t next.gives next.after refl
        (λ x. keeps-kept limit n (kept ++ (x ∷ [])) next.after xs t) is

    kept-keeps : (more : List T) (limit : ℕ) (kept candidates : List T) (s t : S) → AreKept rule limit
        kept more candidates → Drawn s candidates t → keeps d rule limit (length more) kept s ≡ given (kept ++ more) t
    unfolding keeps
    kept-keeps [] limit kept candidates s t none drawn = let left : s ≡ t = rw none at drawn in rw (left, append-nil)
    kept-keeps (x ∷ more) limit kept candidates s t (refused, rest, is, few, refuses, takes, later) drawn =
        let split = drawn-split s (refused ++ (x ∷ [])) rest t (rw (is, ← one-more) at drawn) in
        let next = found-taken refused limit kept s x split.0 few refuses takes split.1 in
        rw (next, ← one-more kept x more) (kept-keeps more limit (kept ++ (x ∷ [])) rest split.0 t later split.2)

    -- exactly the first accepted candidates are kept
    pub keeps-first : (limit n : ℕ) (s t : S) (xs : List T) →
        (keeps d rule limit n [] s ≡ given xs t ↔ KeepsFirst d rule limit n s xs t)
    keeps-first limit n s t xs = (
      λ is.
          let all = keeps-kept limit n [] s xs t is in
          record {
            candidates = all.candidates;
            drawn = drawn-draws s all.candidates t all.drawn;
            after = drawn-after s all.candidates t all.drawn;
            kept = subst (λ l. AreKept rule limit [] l all.candidates) (sym all.all) all.are_kept;
            count = ap length all.all ∙ all.count;
          },
      λ all. subst (λ k. keeps d rule limit k [] s ≡ given xs t) all.count
          (kept-keeps xs limit [] all.candidates s t all.kept (draws-drawn s all.candidates t all.drawn all.after)),
    )
