-- Worked rows, computed on the definitions.
use Rattle.std.proofs.Common.{◌≡◌, List, [], ◌∷◌, ◌++◌, ℕ, length, codes, get_or, refl, ap, inl, ⊎_elim, arith}
use Rattle.std.specs.Fmt.{digits}
use Rattle.p3_fs_core.specs.Steps.{Step, step_with, marker_of, Closes, plain_text, alternate_text}
use Rattle.p3_fs_core.specs.Errors.{missing_begin, invalid_kind, mismatched_begin_end, missing_end}
use Rattle.p3_fs_core.specs.declared.step.{Hierarchy.Hierarchy, Hierarchy.TheVariants.{Atomic, Begin, End}}
use Rattle.p3_fs_core.specs.declared.step.{Kind.TheVariants.{Protocol, Message, Challenge}, Length.TheVariants.Scalar}
use Rattle.p3_fs_core.specs.declared.step.TypeTag.TheVariants.{Opaque}
use Rattle.p3_patterns.specs.{Rendering.rendering, OpenContainers.{OpensAt, AreOpen}}
use Rattle.p3_patterns.specs.PatternGrammar.{Allows, nothing, IsViable, IsInnermost, IsFirstFault}
use Rattle.p3_patterns.proofs.FirstFaults.{stops, first-missing_end}
use Rattle.p3_patterns.proofs.PatternGrammarLaws.{opens-leaf, opens-opener, opens-viable, pattern-none_open}
use Rattle.p3_patterns.proofs.PatternGrammarLaws.{closer-at_top, next-innermost}

-- a marker of the type (), and an opaque value
abbrev outer : Hierarchy → Step
outer hierarchy = marker_of hierarchy Protocol (codes "outer") (codes "()")

abbrev commit : Step
commit = step_with Atomic Message (codes "commit") Opaque (codes "opaque") Scalar

-- ---- the text of a pattern

three : rendering alternate_text (outer Begin ∷ commit ∷ outer End ∷ [])
    ≡ codes "Plonky3 Fiat-Shamir Transcript (3 interactions)\n0 Begin Protocol 5 outer None Marker\n"
    ++ codes "1   Atomic Message 6 commit Scalar Opaque\n2 End Protocol 5 outer None Marker\n"
unfolding digits
three = refl

three_plain : rendering plain_text (outer Begin ∷ commit ∷ outer End ∷ [])
    ≡ codes "Plonky3 Fiat-Shamir Transcript (3 interactions)\n0 Begin Protocol outer None ()\n"
    ++ codes "1   Atomic Message commit Scalar opaque\n2 End Protocol outer None ()\n"
unfolding digits
three_plain = refl

-- a label of three bytes, one of them a newline
two_lines : Step
two_lines = record commit { label = codes "a\nb" }

newline : rendering alternate_text (two_lines ∷ [])
    ≡ codes "Plonky3 Fiat-Shamir Transcript (1 interactions)\n0 Atomic Message 3 a\nb Scalar Opaque\n"
unfolding digits two_lines
newline = refl

no_steps : rendering alternate_text [] ≡ codes "Plonky3 Fiat-Shamir Transcript (0 interactions)\n"
unfolding digits
no_steps = refl

-- ---- first faults

-- a lone closer, at position 0
lone : IsFirstFault (outer End ∷ []) (missing_begin 0 (outer End))
lone = (
  stops [] [] (outer End) 0 refl ([], nothing Protocol) (closer-at_top [] (outer End) (nothing Protocol) refl),
  refl,
  pattern-none_open [] (nothing Protocol),
)

-- an opener, and an opener after it
one_open : (s : Step) → s.hierarchy ≡ Begin → OpensAt (s ∷ []) (0 ∷ []) (s ∷ [])
one_open s begins = opens-opener [] [] [] s (refl, nothing Protocol) begins (inl refl)

two_open : (s t : Step) → s.hierarchy ≡ Begin → t.hierarchy ≡ Begin → Allows s.kind t → IsViable (s ∷ t ∷ [])
two_open s t begins also allowed =
    opens-viable (t ∷ s ∷ []) (s ∷ t ∷ []) (0 ∷ 1 ∷ [])
    (opens-opener (s ∷ []) (s ∷ []) (0 ∷ []) t (one_open s begins) also allowed)

last_opener : (before : List Step) (s : Step) → s.hierarchy ≡ Begin → IsInnermost (before ++ (s ∷ [])) (length before) s
last_opener before s begins =
    record { before = before; inside = []; split = refl; place = refl; begins = begins; pattern = nothing s.kind }

-- the opener of a container of messages, and in it one of challenges, at position 1
messages : Step
messages = record (outer Begin) { kind = Message }

challenge : Step
challenge = record (outer Begin) { kind = Challenge }

foreign : IsFirstFault (messages ∷ challenge ∷ []) (invalid_kind 0 messages 1 challenge)
unfolding messages challenge
foreign =
    let is = last_opener [] messages refl in (
      stops (messages ∷ []) [] challenge 1 refl (opens-viable (messages ∷ []) _ (0 ∷ []) (one_open messages refl))
          (λ more. ⊎_elim (λ fits. ⊎_elim (λ e. absurd (cc)) (λ e. absurd (cc)) fits.1)
          (λ closes. let ends = closes.ends in absurd (cc)) (next-innermost (messages ∷ []) challenge 0 messages is more)),
      (λ ends. absurd (cc)),
      is,
    )

-- two openers, of which the second is named
unclosed : IsFirstFault (outer Begin ∷ outer Begin ∷ []) (missing_end 1 (outer Begin))
unclosed =
    first-missing_end (outer Begin ∷ outer Begin ∷ []) 1 (outer Begin)
    (two_open (outer Begin) (outer Begin) refl refl (inl refl)) (last_opener (outer Begin ∷ []) (outer Begin) refl)

-- under two openers the inner one is named: a closer of another label, at position 2
inner : Step
inner = record (outer Begin) { label = codes "inner" }

mismatched : IsFirstFault (outer Begin ∷ inner ∷ outer End ∷ []) (mismatched_begin_end 1 inner 2 (outer End))
unfolding inner
mismatched =
    let is = last_opener (outer Begin ∷ []) inner refl in
    let not_closed : Closes (outer End) inner → ⊥ = λ closes. let first : 111 ≡ 105 = ap (λ (label : List ℕ). get_or
    label 0 0) closes.label in omega (arith, first) in (
      stops (outer Begin ∷ inner ∷ []) [] (outer End) 2 refl (two_open (outer Begin) inner refl refl (inl refl))
          (λ more. ⊎_elim (λ fits. fits.0 refl) not_closed
          (next-innermost (outer Begin ∷ inner ∷ []) (outer End) 1 inner is more)),
      refl,
      is,
    )

-- ---- open containers

-- after an opener, a leaf and an opener these two are open, at positions 0 and 2
two_positions : AreOpen (outer Begin ∷ commit ∷ inner ∷ []) (0 ∷ 2 ∷ [])
unfolding inner
two_positions =
    let one = one_open (outer Begin) refl in
    let more = opens-leaf (outer Begin ∷ []) (outer Begin ∷ []) (0 ∷ []) commit one refl (inl refl) in
    let opens = opens-opener (outer Begin ∷ []) (outer Begin ∷ commit ∷ []) (0 ∷ []) inner more refl (inl refl) in
    (inner ∷ outer Begin ∷ [], opens)
