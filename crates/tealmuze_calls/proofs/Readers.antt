-- What a described protocol says where bytes of its description were read.
use Rattle.std.proofs.Common.{ℕ, ◌≡◌, ◌<◌, List, [], ◌∷◌, ◌++◌, length, map, append-nil, append_assoc, ap, sym, subst, ◌∙◌, arith}
use Rattle.std.specs.{List.{All}, Str.IsUtf8}
use Rattle.std.proofs.lemmas.{List.length-map, List.Elements.{All-head, All-tail, All-cons, All-map}}
use Rattle.tealmuze_calls.specs.Descriptions.{parts_of, reading_of, step_bytes, HasHeldParts, HasForm, IsReadAs, IsRead, AreRead, Describes}
use Rattle.tealmuze_calls.specs.Forms.{number_bytes, text_bytes, counted_bytes, listed_bytes}
use Rattle.tealmuze_calls.specs.Readings.{Parts, parts_bytes, Reading, FitsWord, IsListHeld}
use Rattle.tealmuze_calls.proofs.{Codes.{text-code, listed-code, number-code, counted-code, parts-code, reading-one}, Lemmas.listed_of}
use Rattle.p3_challenger.specs.{PatternSteps.steps_of, Rules.Rules, Separators.{HeldSeparator, contents_of}}
use Rattle.p3_challenger.specs.{Provings.AreHanded, Runs.{AreAdmitted, carried_count, interactions}, Scripts.play_of}
use Rattle.p3_challenger.specs.Values.{Value}
use Rattle.tealmuze_calls.proofs.Handed.{same-handed}
use Rattle.tealmuze_calls.proofs.Plays.{same-interactions, same-admitted, same-count}
use Rattle.p3_challenger.specs.Step as script

-- each of a list, where it holds of what the entries are mapped to
pub all_of_map : {A B : Type 0} (P : B → Type 0) (f : A → B) (xs : List A) → All P (map f xs) → All (λ x. P (f x)) xs
all_of_map P f [] all = λ k d less. absurd (omega (arith, less))
all_of_map P f (x ∷ xs) all = All-cons (λ x. P (f x)) x xs (All-head P (f x) (map f xs) all)
    (all_of_map P f xs (All-tail P (f x) (map f xs) all))

-- ---- a step

module _ (bytes : List ℕ) (p : Parts) (left : List ℕ) (is : bytes ≡ parts_bytes p ++ left) where
  -- what stands after the byte that says what it is
  pub after_what : (what : ℕ) (rest : List ℕ) → bytes ≡ what ∷ rest →
      (p.what ≡ what) × (rest ≡ text_bytes p.label ++ (listed_bytes number_bytes p.numbers ++ left))
  after_what what rest here =
      let e = sym is ∙ here in
      let first : p.what ≡ what = cc in
      let others : (text_bytes p.label ++ listed_bytes number_bytes p.numbers) ++ left ≡ rest = cc in
      (first, sym others ∙ append_assoc (text_bytes p.label) (listed_bytes number_bytes p.numbers) left)

module _ {Su F EF U O C K Ac D G It St Sy : Type 0} (number : F → ℕ) (coefficients : EF → List F)
    (opaque_numbers : O → List ℕ) (AreOpaque : List ℕ → Type 0) where
  -- a step determines what follows it
  pub step_divides : (s t : script.Step Su F EF U O C K Ac D G It St Sy) (a b : List ℕ) →
      HasHeldParts number coefficients opaque_numbers s → HasHeldParts number coefficients opaque_numbers t →
      step_bytes number coefficients opaque_numbers s ++ a ≡ step_bytes number coefficients opaque_numbers t ++ b → a ≡ b
  step_divides s t a b s_held t_held e =
      let parts = parts_of number coefficients opaque_numbers in (parts-code (parts s) (parts t) a b s_held t_held e).1

  -- the numbers of a step that stands there, after its label
  pub numbers_stand : (bytes left : List ℕ) (s : script.Step Su F EF U O C K Ac D G It St Sy) →
      IsRead number coefficients opaque_numbers AreOpaque bytes left s → (what : ℕ) (label a b : List ℕ) →
      bytes ≡ what ∷ a → a ≡ text_bytes label ++ b →
      b ≡ listed_bytes number_bytes (parts_of number coefficients opaque_numbers s).numbers ++ left
  numbers_stand bytes left s read what label a b one two =
      let p = parts_of number coefficients opaque_numbers s in
      let first = after_what bytes p left read.begins what a one in
      sym (text-code p.label label (listed_bytes number_bytes p.numbers ++ left) b (sym first.1 ∙ two)).1

  -- the parts that were read are those of a step that stands there
  pub is_read_as : (bytes left : List ℕ) (s : script.Step Su F EF U O C K Ac D G It St Sy) →
      IsRead number coefficients opaque_numbers AreOpaque bytes left s → (what : ℕ) (label numbers a b d : List ℕ) →
      bytes ≡ what ∷ a → a ≡ text_bytes label ++ b → b ≡ listed_bytes number_bytes numbers ++ d →
      IsListHeld FitsWord numbers → IsReadAs number coefficients opaque_numbers AreOpaque what label numbers s
  is_read_as bytes left s read what label numbers a b d one two three held =
      let p = parts_of number coefficients opaque_numbers s in
      let first = after_what bytes p left read.begins what a one in
      let second = text-code p.label label (listed_bytes number_bytes p.numbers ++ left) b (sym first.1 ∙ two) in
      let third = listed-code FitsWord number_bytes number-code p.numbers numbers left d read.held held (second.1 ∙ three) in
      record { formed = read.formed; what_is = first.0; label_is = second.0; numbers_are = third.0 }

-- ---- a whole protocol

module _ {Su F EF U O C K Ac D G It St Sy : Type 0} (number : F → ℕ) (coefficients : EF → List F)
    (opaque_numbers : O → List ℕ) (AreOpaque : List ℕ → Type 0) (rules : Rules St Sy It F EF O Ac) (bytes : List ℕ)
    (separator : HeldSeparator) (steps : List (script.Step Su F EF U O C K Ac D G It St Sy))
    (described : Describes number coefficients opaque_numbers AreOpaque rules bytes separator steps) where
  abbrev chunk_part : List ℕ
  chunk_part = listed_bytes counted_bytes (contents_of separator).chunks

  abbrev step_part : List ℕ
  step_part = listed_bytes parts_bytes (map (parts_of number coefficients opaque_numbers) steps)

  pub after_version : (version : ℕ) (a : List ℕ) → bytes ≡ version ∷ a →
      a ≡ text_bytes (contents_of separator).name ++ (chunk_part ++ step_part)
  after_version version a one = let e = sym one ∙ described.encoded in cc e

  pub after_name : (version : ℕ) (name a b : List ℕ) → bytes ≡ version ∷ a → a ≡ text_bytes name ++ b →
      ((contents_of separator).name ≡ name) × (b ≡ chunk_part ++ step_part)
  after_name version name a b one two =
      let both = text-code (contents_of separator).name name (chunk_part ++ step_part) b
      (sym (after_version version a one) ∙ two) in
      (both.0, sym both.1)

  pub after_chunks : (version : ℕ) (name a b d : List ℕ) (chunks : List (List ℕ)) → bytes ≡ version ∷ a →
      a ≡ text_bytes name ++ b → b ≡ listed_bytes counted_bytes chunks ++ d →
      IsListHeld (λ chunk. FitsWord (length chunk)) chunks →
      ((contents_of separator).chunks ≡ chunks) × (d ≡ step_part)
  after_chunks version name a b d chunks one two three held =
      let both = listed-code (λ chunk. FitsWord (length chunk)) counted_bytes counted-code (contents_of separator).chunks
      chunks step_part d described.held.chunks held (sym (after_name version name a b one two).1 ∙ three) in
      (both.0, sym both.1)

  pub steps_stand : (a : List ℕ) → a ≡ step_part → AreRead number coefficients opaque_numbers AreOpaque a [] steps
  steps_stand a is =
      let parts = parts_of number coefficients opaque_numbers in
      let Held = λ (p : Parts). IsListHeld FitsWord p.numbers in
      record {
        formed = described.formed;
        texts = all_of_map (λ p. IsUtf8 p.label) parts steps described.texts.labels;
        held = record {
          count = subst (λ n. FitsWord n) (length-map steps parts) described.held.steps.count;
          each = all_of_map Held parts steps described.held.steps.each;
        };
        begins = is ∙ listed_of parts parts_bytes steps
            ∙ sym (append-nil (listed_bytes (step_bytes number coefficients opaque_numbers) steps));
      }

  pub after_steps : (a b : List ℕ) (read : List (script.Step Su F EF U O C K Ac D G It St Sy)) → a ≡ step_part →
      AreRead number coefficients opaque_numbers AreOpaque a b read →
      (map (parts_of number coefficients opaque_numbers) read ≡ map (parts_of number coefficients opaque_numbers) steps)
      × (b ≡ [])
  after_steps a b read is are =
      let parts = parts_of number coefficients opaque_numbers in
      let Held = λ (p : Parts). IsListHeld FitsWord p.numbers in
      listed-code Held parts_bytes parts-code (map parts read) (map parts steps) b [] (record {
        count = subst (λ n. FitsWord n) (sym (length-map read parts)) are.held.count;
        each = All-map Held parts read are.held.each;
      }) described.held.steps (ap (λ m. m ++ b) (listed_of parts parts_bytes read) ∙ sym are.begins ∙ is
      ∙ sym (append-nil step_part))

  -- the pattern is that of the steps that were read, which may be played
  pub pattern_stands : (dimension : ℕ) → 0 < dimension → ((x : EF) → length (coefficients x) ≡ dimension) →
      (read : List (script.Step Su F EF U O C K Ac D G It St Sy)) →
      All (HasForm number coefficients opaque_numbers AreOpaque) read →
      map (parts_of number coefficients opaque_numbers) read ≡ map (parts_of number coefficients opaque_numbers) steps →
      (interactions (play_of rules) read ≡ steps_of (contents_of separator).pattern) × AreAdmitted (play_of rules) read
  pattern_stands dimension some long read formed same = (
    same-interactions rules dimension number coefficients opaque_numbers AreOpaque some long read steps formed
        described.formed same ∙ described.played,
    same-admitted rules dimension number coefficients opaque_numbers AreOpaque some long steps read described.formed
        formed (sym same) described.admitted,
  )

-- ---- two protocols that are described by the same bytes

module _ {Su F EF U O C K Ac D G It St Sy : Type 0} (number : F → ℕ) (coefficients : EF → List F)
    (opaque_numbers : O → List ℕ) (AreOpaque : List ℕ → Type 0) (rules : Rules St Sy It F EF O Ac) (bytes : List ℕ)
    (separator other : HeldSeparator) (steps others : List (script.Step Su F EF U O C K Ac D G It St Sy))
    (described : Describes number coefficients opaque_numbers AreOpaque rules bytes separator steps)
    (others_described : Describes number coefficients opaque_numbers AreOpaque rules bytes other others) where
  pub same_parts : map (parts_of number coefficients opaque_numbers) steps
      ≡ map (parts_of number coefficients opaque_numbers) others
  same_parts = ap (λ (r : Reading). r.steps)
      (reading-one (reading_of number coefficients opaque_numbers separator steps)
      (reading_of number coefficients opaque_numbers other others) described.held others_described.held
      (sym described.encoded ∙ others_described.encoded))

  -- they carry as many witnesses
  pub same_carried : (dimension : ℕ) → 0 < dimension → ((x : EF) → length (coefficients x) ≡ dimension) →
      carried_count (play_of rules) steps ≡ carried_count (play_of rules) others
  same_carried dimension some long = same-count rules dimension number coefficients opaque_numbers AreOpaque some long
      steps others described.formed others_described.formed same_parts

  -- they may be handed the same values
  pub handed_alike : (dimension : ℕ) → 0 < dimension → ((x : EF) → length (coefficients x) ≡ dimension) →
      (values sent : List (Value F EF)) → values ≡ sent → AreHanded (play_of rules) steps values →
      AreHanded (play_of rules) others sent
  handed_alike dimension some long values sent same handed =
      let Handed : List (Value F EF) → Type 0 = λ vs. AreHanded (play_of rules) others vs in
      subst Handed same (same-handed rules number coefficients opaque_numbers AreOpaque dimension some long steps others
      described.formed others_described.formed same_parts values handed)
