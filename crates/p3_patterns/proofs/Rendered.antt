-- What is written of a line, and of the lines so far.
use Rattle.std.proofs.Common.{◌≡◌, ℕ, zero, suc, ◌+◌, ◌-◌, ◌*◌, ◌<◌, ◌≤◌, List, [], ◌∷◌, ◌++◌, length, map, get_or}
use Rattle.std.proofs.Common.{drop, replicate, codes, append_assoc, append-nil, add-one, refl, ap, arith}
use Rattle.std.{proofs.Math.Seq.drop-cons, proofs.lemmas.List.{drop-map, drop_all, length-map}, specs.List.repeat}
use Rattle.std.specs.Fmt.{decimal}
use Rattle.p3_fs_core.specs.{Steps.Step, Interactions.step_of, declared.interaction.Interaction.Interaction}
use Rattle.p3_fs_core.specs.declared.step.{Hierarchy.Hierarchy, Hierarchy.TheVariants.{Atomic, Begin, End}}
use Rattle.p3_patterns.specs.Rendering.{depth_after, indentation, padded, line, lines, rendering}

zeros : (n : ℕ) → repeat n (codes "0") ≡ replicate n 48
zeros zero = refl
zeros (suc n) = ap (λ text. 48 ∷ text) (zeros n)

spaces : (n : ℕ) → repeat n (codes "  ") ≡ replicate (2 * n) 32
spaces zero = refl
spaces (suc n) =
    let more : 2 * suc n ≡ suc (suc (2 * n)) = omega arith in rw more (ap (λ text. 32 ∷ 32 ∷ text) (spaces n))

-- what stands in front of a step, and what follows
pub line-front : (count digits position depth : ℕ) (text : List ℕ) → count ≡ digits - length (decimal position) →
    (repeat count (codes "0") ++ (decimal position ++ (codes " " ++ repeat depth (codes "  ")))) ++ text
    ≡ padded digits position ++ (codes " " ++ (replicate (2 * depth) 32 ++ text))
line-front count digits position depth text is = rw is (simp (zeros, spaces, append_assoc))

-- ---- one line more

pub depth-small : (hierarchy : Hierarchy) (depth position : ℕ) → depth ≤ position →
    depth_after hierarchy depth ≤ position + 1
depth-small Atomic depth position small = omega (arith, small)
depth-small Begin depth position small = omega (arith, small)
depth-small End depth position small = omega (arith, small)

-- what is written so far and the lines that are left are the same with one line more
pub one-more : (text : Step → List ℕ) (digits position depth indented deeper : ℕ) (first second : Hierarchy)
    (steps : List Interaction) (d read : Interaction) (written whole : List ℕ) → read ≡ get_or steps position d →
    position < length steps → first ≡ read.hierarchy → indented ≡ indentation first depth → second ≡ read.hierarchy →
    deeper ≡ depth_after second depth →
    written ++ lines text digits position depth (drop position (map step_of steps)) ≡ whole →
    (written ++ line text digits position indented (step_of read))
    ++ lines text digits (position + 1) deeper (drop (position + 1) (map step_of steps)) ≡ whole
one-more text digits position depth indented deeper first second steps d read written whole is within first_is
    indented_is second_is deeper_is so_far =
    let left : drop position (map step_of steps) ≡ step_of read ∷ drop (position + 1) (map step_of steps) =
    rw (
      drop-map step_of position steps,
      drop-cons steps position d within,
      ← is,
      add-one position,
      drop-map step_of
          (suc position) steps,
    ) in
    rw (
      append_assoc written (line text digits position indented (step_of read)),
      deeper_is,
      second_is,
      indented_is,
      first_is,
    ) (rw left at so_far)

-- ---- all of them

pub all-lines : (text : Step → List ℕ) (digits last position depth : ℕ) (steps : List Interaction) (written : List ℕ) →
    length steps ≤ position → digits ≡ length (decimal last) → last ≡ length steps - 1 →
    written ++ lines text digits position depth (drop position (map step_of steps))
    ≡ lines text digits 0 0 (map step_of steps) →
    (codes "Plonky3 Fiat-Shamir Transcript (" ++ (decimal (length steps) ++ codes " interactions)\n")) ++ written
    ≡ rendering text (map step_of steps)
all-lines text digits last position depth steps written past digits_is last_is so_far =
    let count : length (map step_of steps) ≡ length steps = length-map steps step_of in
    let none : drop position (map step_of steps) ≡ [] =
    drop_all position (map step_of steps) (omega (arith, past, count)) in
    let shown : written ≡ lines text digits 0 0 (map step_of steps) = simp append-nil at (rw none at so_far) in
    rw (shown, digits_is, last_is, count) (ap (λ rest. codes "Plonky3 Fiat-Shamir Transcript (" ++ rest)
    (append_assoc (decimal (length steps)) (codes " interactions)\n") _))
