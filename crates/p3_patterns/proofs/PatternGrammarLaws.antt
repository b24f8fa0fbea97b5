-- Laws of patterns: which step may come next, and which opener is still open.
use Rattle.std.proofs.Common.{◌≡◌, Bool, true, false, not, ℕ, ◌⊎◌, List, [], ◌∷◌, ◌++◌, length, drop, refl, sym}
use Rattle.std.proofs.Common.{ap, subst, ◌∙◌, inl, inr, ⊎_elim, append_assoc, append-nil, arith}
use Rattle.std.proofs.lemmas.List.{length-append}
use Rattle.p3_fs_core.specs.declared.step.{Hierarchy.Hierarchy, Hierarchy.TheVariants.{Atomic, Begin, End}, Kind.Kind}
use Rattle.p3_fs_core.specs.{declared.step.Kind.TheVariants.Protocol, Steps.{Step, Closes}}
use Rattle.p3_patterns.specs.PatternGrammar.{Allows, IsPattern, nothing, leaf, container, IsViable, MayFollow}
use Rattle.p3_patterns.specs.{PatternGrammar.{IsInnermost, IsNoneOpen}, OpenContainers.{kind_of, OpensAt, AreOpen}}

-- ---- one step more, or a whole pattern

pattern-append : (kind : Kind) (a b : List Step) → IsPattern kind a → IsPattern kind b → IsPattern kind (a ++ b)
pattern-append _ _ b (nothing kind) h = h
pattern-append _ _ b (leaf kind s rest atomic allowed more) h =
    leaf kind s (rest ++ b) atomic allowed (pattern-append kind rest b more h)
pattern-append _ _ b (container kind opener closer inside rest allowed inner closes more) h =
    subst (λ (w : List Step). IsPattern kind (opener ∷ w)) (sym (append_assoc inside (closer ∷ rest) b))
    (container kind opener closer inside (rest ++ b) allowed inner closes (pattern-append kind rest b more h))

pub opens-pattern : (openers steps more : List Step) (positions : List ℕ) → OpensAt openers positions steps
    → IsPattern (kind_of openers) more → OpensAt openers positions (steps ++ more)
opens-pattern [] steps more positions h pattern = (h.0, pattern-append Protocol steps more h.1 pattern)
opens-pattern (opener ∷ below) steps more positions h pattern =
    let split = ap (λ w. w ++ more) h.3 ∙ append_assoc h.0 (opener ∷ h.1) more in
    (h.0, h.1 ++ more, h.2, split, h.4, h.5, h.6, pattern-append opener.kind h.1 more h.7 pattern, h.8)

pub opens-leaf : (openers steps : List Step) (positions : List ℕ) (s : Step) → OpensAt openers positions steps
    → s.hierarchy ≡ Atomic → Allows (kind_of openers) s → OpensAt openers positions (steps ++ (s ∷ []))
opens-leaf openers steps positions s h atomic allowed =
    opens-pattern openers steps (s ∷ []) positions h (leaf _ s [] atomic allowed (nothing _))

pub opens-opener : (openers steps : List Step) (positions : List ℕ) (s : Step) → OpensAt openers positions steps
    → s.hierarchy ≡ Begin → Allows (kind_of openers) s
    → OpensAt (s ∷ openers) (positions ++ (length steps ∷ [])) (steps ++ (s ∷ []))
opens-opener openers steps positions s h begins allowed =
    (steps, [], positions, refl, refl, begins, allowed, nothing s.kind, h)

pub opens-closer : (opener : Step) (below steps : List Step) (positions : List ℕ) (s : Step)
    → (h : OpensAt (opener ∷ below) positions steps) → Closes s opener → OpensAt below h.2 (steps ++ (s ∷ []))
opens-closer opener below steps positions s h closes =
    subst (OpensAt below h.2) (sym (ap (λ w. w ++ (s ∷ [])) h.3 ∙ append_assoc h.0 (opener ∷ h.1) (s ∷ [])))
    (opens-pattern below h.0 (opener ∷ (h.1 ++ (s ∷ []))) h.2 h.8
    (container (kind_of below) opener s h.1 [] h.6 h.7 closes (nothing (kind_of below))))

pub innermost-of : (opener : Step) (below steps : List Step) (positions : List ℕ)
    → (h : OpensAt (opener ∷ below) positions steps) → IsInnermost steps (length h.0) opener
innermost-of opener below steps positions h =
    record { before = h.0; inside = h.1; split = h.3; place = refl; begins = h.5; pattern = h.7 }

one_after : (w : List Step) (s : Step) (a : List Step) → (w ++ (s ∷ [])) ++ a ≡ w ++ (s ∷ a)
one_after w s a = append_assoc w (s ∷ []) a

-- closers of what is open make a pattern of the steps
pub opens-viable : (openers steps : List Step) (positions : List ℕ) → OpensAt openers positions steps → IsViable steps
opens-viable [] steps positions h = ([], subst (IsPattern Protocol) (sym (append-nil steps)) h.1)
opens-viable (opener ∷ below) steps positions h =
    let closer : Step = record opener { hierarchy = End } in
    let closes : Closes closer opener =
    record { ends = refl; begins = h.5; kind = refl; label = refl; type_tag = refl; type_name = refl; length = refl } in
    let r = opens-viable below (steps ++ (closer ∷ [])) h.2 (opens-closer opener below steps positions closer h closes)
    in
    (closer ∷ r.0, subst (IsPattern Protocol) (one_after steps closer r.0) r.1)

-- ---- what a pattern does after some of its steps

-- the steps close these containers, and are a pattern after what opened them
data Finishes : List Step → List Step → Type 0 where
  done : Finishes [] []
  after_leaf : (stack : List Step) (s : Step) (rest : List Step) → s.hierarchy ≡ Atomic → Allows (kind_of stack) s
      → Finishes stack rest → Finishes stack (s ∷ rest)
  after_opener : (stack : List Step) (s : Step) (rest : List Step) → s.hierarchy ≡ Begin → Allows (kind_of stack) s
      → Finishes (s ∷ stack) rest → Finishes stack (s ∷ rest)
  after_closer : (opener : Step) (below : List Step) (s : Step) (rest : List Step) → Closes s opener
      → Finishes below rest → Finishes (opener ∷ below) (s ∷ rest)

-- a pattern leaves open what was open
pattern-finishes : (kind : Kind) (steps stack rest : List Step) → IsPattern kind steps → kind ≡ kind_of stack
    → Finishes stack rest → Finishes stack (steps ++ rest)
pattern-finishes _ _ stack rest (nothing kind) same h = h
pattern-finishes _ _ stack rest (leaf kind s more atomic allowed pattern) same h =
    after_leaf stack s (more ++ rest) atomic (subst (λ (k : Kind). Allows k s) same allowed)
    (pattern-finishes kind more stack rest pattern same h)
pattern-finishes _ _ stack rest (container kind opener closer inside more allowed inner closes pattern) same h =
    subst (λ (w : List Step). Finishes stack (opener ∷ w)) (sym (append_assoc inside (closer ∷ more) rest))
    (after_opener stack opener _ closes.begins (subst (λ (k : Kind). Allows k opener) same allowed)
    (pattern-finishes opener.kind inside (opener ∷ stack) _ inner refl
    (after_closer opener stack closer _ closes (pattern-finishes kind more stack rest pattern same h))))

-- the front leaves containers open, which the rest closes
abbrev Splits : List Step → List Step → Type 0
Splits front rest =
    (openers : List Step) × (positions : List ℕ) × OpensAt openers positions front × Finishes openers rest

fronts : (a b stack steps : List Step) (positions : List ℕ) → OpensAt stack positions steps → Finishes stack (a ++ b)
    → Splits (steps ++ a) b
fronts [] b stack steps positions h finishes =
    (stack, positions, subst (OpensAt stack positions) (sym (append-nil steps)) h, finishes)
fronts (s ∷ a) b stack steps positions h (after_leaf _ _ _ atomic allowed finishes) =
    subst (λ (w : List Step). Splits w b) (one_after steps s a)
    (fronts a b stack (steps ++ (s ∷ [])) positions (opens-leaf stack steps positions s h atomic allowed) finishes)
fronts (s ∷ a) b stack steps positions h (after_opener _ _ _ begins allowed finishes) =
    subst (λ (w : List Step). Splits w b) (one_after steps s a)
    (fronts a b (s ∷ stack) (steps ++ (s ∷ [])) _ (opens-opener stack steps positions s h begins allowed) finishes)
fronts (s ∷ a) b _ steps positions h (after_closer opener below _ _ closes finishes) =
    subst (λ (w : List Step). Splits w b) (one_after steps s a)
    (fronts a b below (steps ++ (s ∷ [])) h.2 (opens-closer opener below steps positions s h closes) finishes)

next-splits : (steps : List Step) (s : Step) → (viable : MayFollow s steps) → Splits steps (s ∷ viable.0)
next-splits steps s viable =
    let pattern = subst (IsPattern Protocol) (one_after steps s viable.0) viable.1 in
    let finishes = pattern-finishes Protocol (steps ++ (s ∷ viable.0)) [] [] pattern refl done in
    fronts steps (s ∷ viable.0) [] [] [] (refl, nothing Protocol)
    (subst (Finishes []) (append-nil (steps ++ (s ∷ viable.0))) finishes)

-- ---- the innermost opener is the only one

-- what the step makes of what is open: the steps from each opener on, the innermost first
abbrev opened_then : List (List Step) → Step → List Step → Hierarchy → List (List Step)
opened_then around s rest Atomic = around
opened_then around s rest Begin = (s ∷ rest) ∷ around
opened_then around s rest End = drop 1 around

abbrev left_open : List (List Step) → List Step → List (List Step)
left_open around [] = around
left_open around (s ∷ rest) = left_open (opened_then around s rest s.hierarchy) rest

left_open-step : (around : List (List Step)) (s : Step) (rest : List Step) (hierarchy : Hierarchy)
    → s.hierarchy ≡ hierarchy → left_open around (s ∷ rest) ≡ left_open (opened_then around s rest hierarchy) rest
left_open-step around s rest hierarchy is = ap (λ h. left_open (opened_then around s rest h) rest) is

left_open-pattern : (kind : Kind) (steps rest : List Step) (around : List (List Step)) → IsPattern kind steps
    → left_open around (steps ++ rest) ≡ left_open around rest
left_open-pattern _ _ rest around (nothing kind) = refl
left_open-pattern _ _ rest around (leaf kind s more atomic allowed pattern) =
    left_open-step around s (more ++ rest) Atomic atomic ∙ left_open-pattern kind more rest around pattern
left_open-pattern _ _ rest around (container kind opener closer inside more allowed inner closes pattern) =
    let all = inside ++ (closer ∷ (more ++ rest)) in
    ap (λ w. left_open around (opener ∷ w)) (append_assoc inside (closer ∷ more) rest)
    ∙ left_open-step around opener all Begin closes.begins
    ∙ left_open-pattern opener.kind inside (closer ∷ (more ++ rest)) ((opener ∷ all) ∷ around) inner
    ∙ left_open-step ((opener ∷ all) ∷ around) closer (more ++ rest) End closes.ends
    ∙ left_open-pattern kind more rest around pattern

left_open-front : (around : List (List Step)) (before rest : List Step) → (outer : List (List Step))
    × (left_open around (before ++ rest) ≡ left_open outer rest)
left_open-front around [] rest = (around, refl)
left_open-front around (s ∷ before) rest =
    left_open-front (opened_then around s (before ++ rest) s.hierarchy) before rest

left_open-innermost : (steps : List Step) (position : ℕ) (opener : Step) → (h : IsInnermost steps position opener)
    → (outer : List (List Step)) × (left_open [] steps ≡ (opener ∷ h.inside) ∷ outer)
left_open-innermost steps position opener h =
    let r = left_open-front [] h.before (opener ∷ h.inside) in
    let around = (opener ∷ h.inside) ∷ r.0 in
    let whole = ap (left_open around) (sym (append-nil h.inside)) ∙ left_open-pattern _ h.inside [] around h.pattern in
    (r.0, ap (left_open []) h.split ∙ r.1 ∙ left_open-step r.0 opener h.inside Begin h.begins ∙ whole)

pub only-innermost : (steps : List Step) (p q : ℕ) (a b : Step) → IsInnermost steps p a → IsInnermost steps q b
    → (p ≡ q) × (a ≡ b)
only-innermost steps p q a b one other =
    let found = (left_open-innermost steps p a one).1 in
    let again = (left_open-innermost steps q b other).1 in
    let inside : one.inside ≡ other.inside = cc in
    let first = ap length one.split ∙ length-append one.before (a ∷ one.inside) in
    let second = ap length other.split ∙ length-append other.before (b ∷ other.inside) in
    (omega (arith, first, second, ap length inside, one.place, other.place), cc)

pub pattern-none_open : (steps : List Step) → IsPattern Protocol steps → IsNoneOpen steps
pattern-none_open steps pattern position opener h =
    let found = (left_open-innermost steps position opener h).1 in
    let none : left_open [] steps ≡ [] =
    ap (left_open []) (sym (append-nil steps)) ∙ left_open-pattern Protocol steps [] [] pattern in
    cc

-- ---- which step may come next

-- the step may stand in the container of the opener: it is no closer and of a kind that is allowed, or it closes it
abbrev Fits : Step → Step → Type 0
Fits opener s = ((s.hierarchy ≡ End → ⊥) × Allows opener.kind s) ⊎ Closes s opener

finishes-fits : (opener : Step) (below : List Step) (s : Step) (rest : List Step) → Finishes (opener ∷ below) (s ∷ rest)
    → Fits opener s
finishes-fits opener below s rest (after_leaf _ _ _ atomic allowed more) = inl ((λ ends. cc), allowed)
finishes-fits opener below s rest (after_opener _ _ _ begins allowed more) = inl ((λ ends. cc), allowed)
finishes-fits _ _ s rest (after_closer opener below _ _ closes more) = inr closes

finishes-top : (s : Step) (rest : List Step) → Finishes [] (s ∷ rest) → s.hierarchy ≡ End → ⊥
finishes-top s rest (after_leaf _ _ _ atomic allowed more) ends = cc
finishes-top s rest (after_opener _ _ _ begins allowed more) ends = cc

splits-closer : (openers steps : List Step) (positions : List ℕ) (s : Step) (rest : List Step)
    → OpensAt openers positions steps → Finishes openers (s ∷ rest) → IsPattern Protocol steps → s.hierarchy ≡ End → ⊥
splits-closer [] steps positions s rest h finishes pattern ends = finishes-top s rest finishes ends
splits-closer (opener ∷ below) steps positions s rest h finishes pattern ends =
    pattern-none_open steps pattern (length h.0) opener (innermost-of opener below steps positions h)

-- no closer may come where no container is open
pub closer-at_top : (steps : List Step) (s : Step) → IsPattern Protocol steps → s.hierarchy ≡ End → MayFollow s steps
    → ⊥
closer-at_top steps s pattern ends viable =
    let r = next-splits steps s viable in splits-closer r.0 steps r.1 s viable.0 r.2 r.3 pattern ends

splits-fits : (openers steps : List Step) (positions : List ℕ) (s : Step) (rest : List Step) (position : ℕ)
    (opener : Step) → OpensAt openers positions steps → Finishes openers (s ∷ rest)
    → IsInnermost steps position opener → Fits opener s
splits-fits [] steps positions s rest position opener h finishes is =
    absurd (pattern-none_open steps h.1 position opener is)
splits-fits (other ∷ below) steps positions s rest position opener h finishes is =
    let same = only-innermost steps _ position other opener (innermost-of other below steps positions h) is in
    subst (λ (o : Step). Fits o s) same.1 (finishes-fits other below s rest finishes)

-- what may come next fits the innermost opener
pub next-innermost : (steps : List Step) (s : Step) (position : ℕ) (opener : Step) → IsInnermost steps position opener
    → MayFollow s steps → ((s.hierarchy ≡ End → ⊥) × Allows opener.kind s) ⊎ Closes s opener
next-innermost steps s position opener is viable =
    let r = next-splits steps s viable in splits-fits r.0 steps r.1 s viable.0 position opener r.2 r.3 is

-- a step that is no closer may come next where it is allowed
opens-next : (openers steps : List Step) (positions : List ℕ) (s : Step) (h : Hierarchy) → s.hierarchy ≡ h
    → OpensAt openers positions steps → (s.hierarchy ≡ End → ⊥) → Allows (kind_of openers) s → MayFollow s steps
opens-next openers steps positions s Atomic is opens goes_on allowed =
    opens-viable openers (steps ++ (s ∷ [])) positions (opens-leaf openers steps positions s opens is allowed)
opens-next openers steps positions s Begin is opens goes_on allowed =
    opens-viable (s ∷ openers) (steps ++ (s ∷ [])) _ (opens-opener openers steps positions s opens is allowed)
opens-next openers steps positions s End is opens goes_on allowed = absurd (goes_on is)

viable-top : (steps : List Step) (s : Step) → IsPattern Protocol steps → (s.hierarchy ≡ End → ⊥) → MayFollow s steps
viable-top steps s pattern goes_on = opens-next [] steps [] s s.hierarchy refl (refl, pattern) goes_on (inl refl)

-- what fits the innermost opener may come next
fits-next : (openers steps : List Step) (positions : List ℕ) (s : Step) (position : ℕ) (opener : Step)
    → OpensAt openers positions steps → IsInnermost steps position opener → Fits opener s → MayFollow s steps
fits-next [] steps positions s position opener h is fits = absurd (pattern-none_open steps h.1 position opener is)
fits-next (other ∷ below) steps positions s position opener h is fits =
    let same = only-innermost steps position _ opener other is (innermost-of other below steps positions h) in
    ⊎_elim (λ allowed. opens-next (other ∷ below) steps positions s s.hierarchy refl h allowed.0 allowed.1)
    (λ closes. opens-viable below _ h.2 (opens-closer other below steps positions s h closes))
    (subst (λ (o : Step). Fits o s) same.1 fits)

-- ---- whether a step may come next

-- where no container is open, exactly a closer may not
pub top-test : (closer : Bool) (steps : List Step) (s : Step) → IsPattern Protocol steps
    → (closer ≡ true → s.hierarchy ≡ End) × (s.hierarchy ≡ End → closer ≡ true)
    → (not closer ≡ true → MayFollow s steps) × (MayFollow s steps → not closer ≡ true)
top-test true steps s pattern ends =
    ((λ is. absurd (cc)), λ more. absurd (closer-at_top steps s pattern (ends.0 refl) more))
top-test false steps s pattern ends =
    ((λ is. viable-top steps s pattern (λ e. let is_one = ends.1 e in cc)), λ more. refl)

-- a closer may where it closes the innermost opener
pub closer-test : (steps : List Step) (positions : List ℕ) (s : Step) (position : ℕ) (opener : Step)
    → AreOpen steps positions → IsInnermost steps position opener → s.hierarchy ≡ End
    → (Closes s opener → MayFollow s steps) × (MayFollow s steps → Closes s opener)
closer-test steps positions s position opener h is ends = (
  λ closes. fits-next h.0 steps positions s position opener h.1 is (inr closes),
  λ more. ⊎_elim (λ fits. absurd (fits.0 ends)) (λ closes. closes) (next-innermost steps s position opener is more),
)

-- another step may where the innermost opener allows it
pub allowed-test : (steps : List Step) (positions : List ℕ) (s : Step) (position : ℕ) (opener : Step)
    → AreOpen steps positions → IsInnermost steps position opener → (s.hierarchy ≡ End → ⊥)
    → (Allows opener.kind s → MayFollow s steps) × (MayFollow s steps → Allows opener.kind s)
allowed-test steps positions s position opener h is goes_on = (
  λ allowed. fits-next h.0 steps positions s position opener h.1 is (inl (goes_on, allowed)),
  λ more. ⊎_elim (λ fits. fits.1) (λ closes. absurd (goes_on closes.ends))
      (next-innermost steps s position opener is more),
)

-- what may not stand where no container is open is a closer
pub stuck-ends : (steps : List Step) (s : Step) (hierarchy : Hierarchy) → s.hierarchy ≡ hierarchy
    → IsPattern Protocol steps → (MayFollow s steps → ⊥) → s.hierarchy ≡ End
stuck-ends steps s End is pattern stuck = is
stuck-ends steps s _ is pattern stuck = absurd (stuck (viable-top steps s pattern (λ ends. cc)))
