-- Laws of the text of steps: the alternate text determines the steps, except for the names of their types.
use Rattle.std.proofs.Common.{◌≡◌, ◌↔◌, ℕ, zero, suc, ◌+◌, ◌-◌, ◌*◌, ◌≤◌, ◌<◌, ◌^◌, List, [], ◌∷◌, ◌++◌, length, map}
use Rattle.std.proofs.Common.{replicate, drop, codes, append_assoc, refl, sym, ap, ◌∙◌, lit<, lit≤, arith}
use Rattle.std.{proofs.lemmas.List.length-map, specs.Fmt.decimal}
use Rattle.p3_fs_core.specs.{BigEndianLaws.front-prefix_code, StepTexts.hierarchy_text, Steps.{alternate_text, Step}}
use Rattle.p3_fs_core.specs.StepTextLaws.{hierarchy-prefix_code, type_tag-prefix_code, decimal-prefix_code}
use Rattle.p3_fs_core.specs.{StepTextLaws.{length-prefix_code, kind-prefix_code}, StepFits.{AreProgramSteps, FitsTypes}}
use Rattle.p3_fs_core.specs.declared.step.Hierarchy.{Hierarchy, TheVariants.{Atomic, Begin, End}}
use Rattle.p3_patterns.specs.Rendering.{depth_after, indentation, padded, line, lines, hashed_text, without_type_name}
use Rattle.p3_patterns.specs.Rendering.{SameButTypeNames, AllFitTypes}

-- ---- parts of a text

-- a text begins with a letter
abbrev BeginsWord : List ℕ → Type 0
BeginsWord [] = ⊥
BeginsWord (c ∷ cs) = 65 ≤ c

-- spaces end at the start of a word
spaces-prefix_code : (m n : ℕ) (a b : List ℕ) → BeginsWord a → BeginsWord b
    → replicate m 32 ++ a ≡ replicate n 32 ++ b → a ≡ b
spaces-prefix_code zero zero a b a_begins b_begins e = e
spaces-prefix_code zero (suc n) [] b a_begins b_begins e = absurd a_begins
spaces-prefix_code zero (suc n) (c ∷ a) b a_begins b_begins e =
    let space : c ≡ 32 = cc in absurd (omega (arith, a_begins, space))
spaces-prefix_code (suc m) zero a [] a_begins b_begins e = absurd b_begins
spaces-prefix_code (suc m) zero a (c ∷ b) a_begins b_begins e =
    let space : c ≡ 32 = cc in absurd (omega (arith, b_begins, space))
spaces-prefix_code (suc m) (suc n) a b a_begins b_begins e = spaces-prefix_code m n a b a_begins b_begins (cc)

hierarchy-begins : (hierarchy : Hierarchy) (p rest : List ℕ) → BeginsWord ((hierarchy_text hierarchy ++ p) ++ rest)
hierarchy-begins Atomic p rest = lit≤ tt
hierarchy-begins Begin p rest = lit≤ tt
hierarchy-begins End p rest = lit≤ tt

-- ---- steps

-- the numbers of a program's steps fit their types
pub AllFitTypes-program : (steps : List Step) → AreProgramSteps steps → AllFitTypes steps
AllFitTypes-program [] fit = tt
AllFitTypes-program (s ∷ steps) fit = (fit.0.fits, AllFitTypes-program steps fit.1)

-- the hashed text of a step determines the step, except for the name of its type
pub alternate-prefix_code : (x y : Step) (a b : List ℕ) → FitsTypes x → FitsTypes y →
    alternate_text x ++ a ≡ alternate_text y ++ b → (without_type_name x ≡ without_type_name y) × (a ≡ b)
alternate-prefix_code x y a b x_fits y_fits e =
    let hierarchies = hierarchy-prefix_code x.hierarchy y.hierarchy _ _ (simp append_assoc at e) in
    let kinds = kind-prefix_code x.kind y.kind _ _ (ap (drop 1) hierarchies.1) in
    let counts = decimal-prefix_code (length x.label) (length y.label) _ _ (omega (arith, x_fits.label))
    (omega (arith, y_fits.label)) (lit< tt) (lit< tt) (ap (drop 1) kinds.1) in
    let labels = front-prefix_code x.label y.label _ _ counts.0 (ap (drop 1) counts.1) in
    let lengths = length-prefix_code x.length y.length _ _ x_fits.carried y_fits.carried (ap (drop 1) labels.1) in
    let tags = type_tag-prefix_code x.type_tag y.type_tag a b x_fits.tag y_fits.tag (ap (drop 1) lengths.1) in
    let same : without_type_name x ≡ without_type_name y = cc (hierarchies.0, kinds.0, labels.0, tags.0, lengths.0) in
    (same, tags.1)

-- ---- lines

-- a line determines its step too, at one position and with equally many open containers
line-prefix_code : (digits position depth : ℕ) (x y : Step) (a b : List ℕ) → FitsTypes x → FitsTypes y →
    line alternate_text digits position (indentation x.hierarchy depth) x ++ a
    ≡ line alternate_text digits position (indentation y.hierarchy depth) y ++ b →
    (without_type_name x ≡ without_type_name y) × (a ≡ b)
line-prefix_code digits position depth x y a b x_fits y_fits e =
    let number = padded digits position in
    let indented = (front-prefix_code number number _ _ refl (sym (append_assoc number _ a) ∙ e
    ∙ append_assoc number _ b)).1 in
    let texts = spaces-prefix_code (2 * indentation x.hierarchy depth) (2 * indentation y.hierarchy depth)
    (alternate_text x ++ (codes "\n" ++ a)) (alternate_text y ++ (codes "\n" ++ b))
    (hierarchy-begins x.hierarchy _ _) (hierarchy-begins y.hierarchy _ _)
    (simp append_assoc (simp append_assoc at (ap (drop 1) indented))) in
    let steps = alternate-prefix_code x y (codes "\n" ++ a) (codes "\n" ++ b) x_fits y_fits texts in
    (steps.0, ap (drop 1) steps.1)

lines-prefix_code : (digits position depth : ℕ) (xs ys : List Step) → AllFitTypes xs → AllFitTypes ys →
    length xs ≡ length ys → lines alternate_text digits position depth xs
    ≡ lines alternate_text digits position depth ys → SameButTypeNames xs ys
lines-prefix_code digits position depth [] [] x_fit y_fit same e = refl
lines-prefix_code digits position depth [] (y ∷ ys) x_fit y_fit same e = absurd (omega (arith, same))
lines-prefix_code digits position depth (x ∷ xs) [] x_fit y_fit same e = absurd (omega (arith, same))
lines-prefix_code digits position depth (x ∷ xs) (y ∷ ys) x_fit y_fit same e =
    let first = line-prefix_code digits position depth x y _ _ x_fit.0 y_fit.0 e in
    let others = lines-prefix_code digits (position + 1) (depth_after x.hierarchy depth) xs ys x_fit.1 y_fit.1
    (omega (arith, same)) (first.1
    ∙ ap (λ s. lines alternate_text digits (position + 1) (depth_after s.hierarchy depth) ys) (sym first.0)) in
    cc (first.0, others)

-- ---- all of the text

told_apart : (xs ys : List Step) → AllFitTypes xs → AllFitTypes ys → length xs < 2 ^ 64 → length ys < 2 ^ 64 →
    hashed_text xs ≡ hashed_text ys → SameButTypeNames xs ys
told_apart xs ys x_fit y_fit x_few y_few e =
    let counts = decimal-prefix_code (length xs) (length ys) _ _ (omega (arith, x_few)) (omega (arith, y_few))
    (lit< tt) (lit< tt) (ap (drop 32) e) in
    lines-prefix_code (length (decimal (length xs - 1))) 0 0 xs ys x_fit y_fit counts.0 (ap (drop 15) counts.1
    ∙ ap (λ count. lines alternate_text (length (decimal (count - 1))) 0 0 ys) (sym counts.0))

-- names of types do not change the lines
lines-without : (digits position depth : ℕ) (steps : List Step) →
    lines alternate_text digits position depth (map without_type_name steps)
    ≡ lines alternate_text digits position depth steps
lines-without digits position depth [] = refl
lines-without digits position depth (s ∷ rest) =
    ap (λ following. line alternate_text digits position (indentation s.hierarchy depth) s ++ following)
    (lines-without digits (position + 1) (depth_after s.hierarchy depth) rest)

rendering-without : (steps : List Step) → hashed_text (map without_type_name steps) ≡ hashed_text steps
rendering-without steps = simp (length-map, lines-without)

-- the alternate texts of two lists of steps are equal exactly where the steps are the same except for the
-- names of their types
pub rendering_injective : (xs ys : List Step) → AllFitTypes xs → AllFitTypes ys → length xs < 2 ^ 64 →
    length ys < 2 ^ 64 → (hashed_text xs ≡ hashed_text ys ↔ SameButTypeNames xs ys)
rendering_injective xs ys x_fit y_fit x_few y_few = (
  told_apart xs ys x_fit y_fit x_few y_few,
  λ same. sym (rendering-without xs) ∙ ap hashed_text same ∙ rendering-without ys,
)
