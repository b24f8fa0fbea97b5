-- Laws of the positions of the openers that are open: what one step more makes of them.
use Rattle.std.proofs.Common.{◌≡◌, ℕ, ◌+◌, ◌-◌, ◌<◌, List, [], ◌∷◌, ◌++◌, map, length, take, slice_index_or, Some}
use Rattle.std.{proofs.Common.{None, refl, sym, ap, subst, ◌∙◌, inl, ⊎_elim, arith}, specs.List.slice_get}
use Rattle.std.proofs.lemmas.List.{length-append, length-map, length-take-le, take_more, map-append}
use Rattle.std.proofs.lemmas.List.{get_or-append-add, get_or-map}
use Rattle.p3_fs_core.specs.declared.step.{Hierarchy.Hierarchy, Hierarchy.TheVariants.{Atomic, Begin, End}}
use Rattle.p3_fs_core.specs.declared.{step.Kind.TheVariants.Protocol, interaction.Interaction.Interaction}
use Rattle.p3_fs_core.specs.{Interactions.step_of, Steps.Step}
use Rattle.p3_patterns.specs.PatternGrammar.{Allows, IsPattern, nothing, IsViable, MayFollow, IsInnermost}
use Rattle.p3_patterns.specs.OpenContainers.{kind_of, OpensAt, AreOpen, opened_by}
use Rattle.p3_patterns.proofs.PatternGrammarLaws.{opens-leaf, opens-opener, opens-closer, opens-viable, innermost-of}
use Rattle.p3_patterns.proofs.PatternGrammarLaws.{closer-at_top, next-innermost}

-- ---- the last of the positions

snoc-length : (xs : List ℕ) (x : ℕ) → length (xs ++ (x ∷ [])) - 1 ≡ length xs
snoc-length xs x = let more = length-append xs (x ∷ []) in omega (arith, more)

snoc-get : (xs : List ℕ) (x : ℕ) → slice_get (xs ++ (x ∷ [])) (length xs) ≡ Some x
snoc-get [] x = refl
snoc-get (y ∷ xs) x = snoc-get xs x

snoc-last : (xs : List ℕ) (x : ℕ) → slice_get (xs ++ (x ∷ [])) (length (xs ++ (x ∷ [])) - 1) ≡ Some x
snoc-last xs x = ap (slice_get (xs ++ (x ∷ []))) (snoc-length xs x) ∙ snoc-get xs x

take-all : (xs : List ℕ) (x : ℕ) → take (length xs) (xs ++ (x ∷ [])) ≡ xs
take-all [] x = refl
take-all (y ∷ xs) x = ap (λ ys. y ∷ ys) (take-all xs x)

snoc-take : (xs : List ℕ) (x : ℕ) → take (length (xs ++ (x ∷ [])) - 1) (xs ++ (x ∷ [])) ≡ xs
snoc-take xs x = ap (λ n. take n (xs ++ (x ∷ []))) (snoc-length xs x) ∙ take-all xs x

-- ---- what is open

pub none-open : AreOpen [] []
none-open = ([], (refl, nothing Protocol))

pub open-viable : (steps : List Step) (positions : List ℕ) → AreOpen steps positions → IsViable steps
open-viable steps positions h = opens-viable h.0 steps positions h.1

top-pattern : (openers steps : List Step) (positions : List ℕ) → OpensAt openers positions steps
    → slice_get positions (length positions - 1) ≡ None → IsPattern Protocol steps
top-pattern [] steps positions h none = h.1
top-pattern (opener ∷ below) steps positions h none =
    let last : slice_get positions (length positions - 1) ≡ Some (length h.0) = rw h.4 (snoc-last h.2 (length h.0)) in
    absurd (cc)

-- with no last position the steps are a pattern
pub open-pattern : (steps : List Step) (positions : List ℕ) → AreOpen steps positions
    → slice_get positions (length positions - 1) ≡ None → IsPattern Protocol steps
open-pattern steps positions h none = top-pattern h.0 steps positions h.1 none

top-innermost : (openers steps : List Step) (positions : List ℕ) (p : ℕ) → OpensAt openers positions steps
    → slice_get positions (length positions - 1) ≡ Some p → (opener : Step) × IsInnermost steps p opener
top-innermost [] steps positions p h found =
    let none : slice_get positions (length positions - 1) ≡ None = rw h.0 refl in
    absurd (cc)
top-innermost (opener ∷ below) steps positions p h found =
    let last : slice_get positions (length positions - 1) ≡ Some (length h.0) = rw h.4 (snoc-last h.2 (length h.0)) in
    let same : length h.0 ≡ p = cc in
    (opener, subst (λ (n : ℕ). IsInnermost steps n opener) same (innermost-of opener below steps positions h))

there : (steps : List Step) (p : ℕ) (opener d : Step) → IsInnermost steps p opener → (p < length steps)
    × (slice_index_or steps p d ≡ opener)
there steps p opener d h =
    let lengths : length (h.before ++ (opener ∷ h.inside)) ≡ length h.before + length (opener ∷ h.inside) =
    length-append h.before (opener ∷ h.inside) in
    let whole : length steps ≡ length (h.before ++ (opener ∷ h.inside)) = ap length h.split in
    let place = h.place in
    let at : slice_index_or (h.before ++ (opener ∷ h.inside)) (length h.before + 0) d ≡ opener =
    get_or-append-add h.before (opener ∷ h.inside) 0 d in
    let same : length h.before + 0 ≡ p = omega (arith, place) in (
      omega (arith, lengths, whole, place),
      ap (λ xs. slice_index_or xs p d) h.split
          ∙ ap (λ n. slice_index_or (h.before ++ (opener ∷ h.inside)) n d) (sym same) ∙ at,
    )

-- the step at the last position is the innermost opener
pub open-innermost : (steps : List Interaction) (positions : List ℕ) (p : ℕ) → AreOpen (map step_of steps) positions
    → slice_get positions (length positions - 1) ≡ Some p → (p < length steps)
    × ((d : Interaction) → IsInnermost (map step_of steps) p (step_of (slice_index_or steps p d)))
open-innermost steps positions p h found =
    let r = top-innermost h.0 (map step_of steps) positions p h.1 found in
    let within : p < length steps = let in_map = (there (map step_of steps) p r.0 r.0 r.1).0 in let lengths =
    length-map steps step_of in omega (arith, in_map, lengths) in (
      within,
      λ d. subst (IsInnermost (map step_of steps) p) (sym (there (map step_of steps) p r.0 (step_of d) r.1).1
          ∙ get_or-map step_of steps p d (step_of d) within) r.1,
    )

-- ---- what a step that may come next makes of it

-- a step that is no closer is allowed where it may come next
allowed-in : (openers steps : List Step) (positions : List ℕ) (s : Step) → OpensAt openers positions steps
    → (s.hierarchy ≡ End → ⊥) → MayFollow s steps → Allows (kind_of openers) s
allowed-in [] steps positions s h goes_on viable = inl refl
allowed-in (opener ∷ below) steps positions s h goes_on viable =
    ⊎_elim (λ fits. fits.1) (λ closes. absurd (goes_on closes.ends))
    (next-innermost steps s (length h.0) opener (innermost-of opener below steps positions h) viable)

closed-last : (openers steps : List Step) (positions : List ℕ) (s : Step) → OpensAt openers positions steps
    → s.hierarchy ≡ End → MayFollow s steps
    → AreOpen (steps ++ (s ∷ [])) (take (length positions - 1) positions)
closed-last [] steps positions s h ends viable =
    absurd (closer-at_top steps s h.1 ends viable)
closed-last (opener ∷ below) steps positions s h ends viable =
    ⊎_elim (λ fits. absurd (fits.0 ends))
    (λ closes. (
      below,
      subst (λ (ps : List ℕ). OpensAt below ps (steps ++ (s ∷ [])))
          (sym (rw h.4 (snoc-take h.2 (length h.0)))) (opens-closer opener below steps positions s h closes),
    ))
    (next-innermost steps s (length h.0) opener (innermost-of opener below steps positions h) viable)

by-hierarchy : (hierarchy : Hierarchy) (steps : List Step) (positions : List ℕ) (s : Step) → s.hierarchy ≡ hierarchy
    → AreOpen steps positions → MayFollow s steps
    → AreOpen (steps ++ (s ∷ [])) (opened_by hierarchy (length steps) positions)
by-hierarchy Atomic steps positions s is h viable =
    (h.0, opens-leaf h.0 steps positions s h.1 is (allowed-in h.0 steps positions s h.1 (λ ends. cc) viable))
by-hierarchy Begin steps positions s is h viable =
    (s ∷ h.0, opens-opener h.0 steps positions s h.1 is (allowed-in h.0 steps positions s h.1 (λ ends. cc) viable))
by-hierarchy End steps positions s is h viable = closed-last h.0 steps positions s h.1 is viable

pub open-next : (steps : List Step) (positions : List ℕ) (s : Step) → AreOpen steps positions → MayFollow s steps
    → AreOpen (steps ++ (s ∷ [])) (opened_by s.hierarchy (length steps) positions)
open-next steps positions s h viable = by-hierarchy s.hierarchy steps positions s refl h viable

-- the steps before a position and the one there
pub open-before : (steps : List Interaction) (position : ℕ) (places next : List ℕ) (d : Interaction)
    → position < length steps → AreOpen (map step_of (take position steps)) places
    → MayFollow (step_of (slice_index_or steps position d)) (map step_of (take position steps))
    → next ≡ opened_by (step_of (slice_index_or steps position d)).hierarchy position places
    → AreOpen (map step_of (take (position + 1) steps)) next
open-before steps position places next d within h viable follows =
    let s = step_of (slice_index_or steps position d) in
    let front = map step_of (take position steps) in
    let stand : length front ≡ position = length-map (take position steps) step_of
    ∙ length-take-le position steps (omega (arith, within)) in
    let more : map step_of (take (position + 1) steps) ≡ front ++ (s ∷ []) =
    ap (map step_of) (take_more steps position d within)
    ∙ map-append step_of (take position steps) (slice_index_or steps position d ∷ []) in
    rw follows (rw more (subst (λ (n : ℕ). AreOpen (front ++ (s ∷ [])) (opened_by s.hierarchy n places)) stand
    (open-next front places s h viable)))

-- the steps of a list and one more
pub open-pushed : (steps pushed : List Interaction) (s : Interaction) (places next : List ℕ)
    → AreOpen (map step_of steps) places → MayFollow (step_of s) (map step_of steps)
    → next ≡ opened_by (step_of s).hierarchy (length steps) places → pushed ≡ steps ++ (s ∷ [])
    → AreOpen (map step_of pushed) next × (map step_of pushed ≡ map step_of steps ++ (step_of s ∷ []))
open-pushed steps pushed s places next h viable follows is =
    let more : map step_of pushed ≡ map step_of steps ++ (step_of s ∷ []) = ap (map step_of) is
    ∙ map-append step_of steps (s ∷ []) in
    let opens : AreOpen (map step_of steps ++ (step_of s ∷ [])) (opened_by (step_of s).hierarchy (length steps) places)
    =
    subst (λ (n : ℕ). AreOpen (map step_of steps ++ (step_of s ∷ [])) (opened_by (step_of s).hierarchy n places))
    (length-map steps step_of) (open-next (map step_of steps) places (step_of s) h viable) in
    (rw follows (rw more opens), more)
