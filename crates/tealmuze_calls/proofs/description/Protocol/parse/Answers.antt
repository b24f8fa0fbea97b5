use Rattle.std.proofs.Common.{◌≡◌, ◌++◌, [], inr, map, refl, ap, sym, subst, ◌∙◌}
use Rattle.std.specs.{List.All, Str.IsUtf8}
use Rattle.std.proofs.lemmas.{List.length-map, List.Elements.All-map}
use Rattle.p3_challenger.specs.{PatternSteps.steps_of, Separators.{Separator, contents_of}}
use Rattle.tealmuze_calls.specs.Descriptions.{parts_of, HasForm}
use Rattle.tealmuze_calls.specs.Forms.{text_bytes, counted_bytes, listed_bytes}
use Rattle.tealmuze_calls.specs.Readings.{Reading, parts_bytes, reading_bytes, FitsWord, IsListHeld, IsHeld, AreTexts}
use Rattle.tealmuze_calls.proofs.{Dues.{due, due_passed}, Lemmas.{in_a_row, listed_of}}
use Rattle.tealmuze_calls.proofs.Readers.{after_version, after_name, after_chunks, after_steps, steps_stand, pattern_stands}
use Rattle.tealmuze_calls.proofs.description.Protocol.parse.Goals as goal

pub returns-clause-ok : goal.returns-clause-ok
returns-clause-ok g c =
    let number = g.S.Field.PrimeCharacteristicRing.residues.number in
    let coefficients = g.S.Extension.BasedVectorSpace.coefficients in
    let parts = parts_of number coefficients g.S.Called.opaque_numbers in
    let bytes = c.args.from.left.now in
    let steps = c.in_ok-steps.steps.items in
    let read = c.in_ok-steps.ensures.ok in
    let chunks = map (λ chunk. chunk.now) c.in_ok-chunks.chunks.items in
    let said : Separator → Reading = λ s.
    record { version = s.version; name = s.name; chunks = s.chunks; steps = map parts steps } in
    let Encoded : Separator → Type 0 = λ s. bytes ≡ reading_bytes (said s) in
    let Held : Separator → Type 0 = λ s. IsHeld (said s) in
    let is = c.in_ok-separator.ensures.ok ∙ ap (λ xs. record {
      version = c.in_ok-version.version;
      name = c.as_bytes-name.result.now;
      chunks = map (λ chunk. chunk.now) xs;
      pattern = c.in_ok-pattern.pattern;
    }) c.as_slice-2.ensures.value in
    let played = rw c.as_slice.ensures.value at c.in_ok-pattern.ensures.ok in
    let begins = read.begins ∙ ap (λ b. b ++ c.parse_steps.new.from.left.now) (sym (listed_of parts parts_bytes steps)) in
    record {
      encoded = subst Encoded (sym is) (in_a_row bytes _ _ _ _ c.in_ok-version.version
          (text_bytes c.as_bytes-name.result.now) (listed_bytes counted_bytes chunks)
          (listed_bytes parts_bytes (map parts steps)) c.in_ok-version.ensures.read
          (c.in_ok-text.ensures.read ∙ ap (λ name. text_bytes name ++ c.text.new.self.left.now)
          (sym c.as_bytes-name.ensures.value)) c.in_ok-chunks.ensures.read begins (c.if-not-is_empty.ensures.0 refl));
      texts = subst (λ s. AreTexts (said s)) (sym is) (record {
        name = subst IsUtf8 (sym c.as_bytes-name.ensures.value) c.in_ok-text.ensures.held;
        labels = All-map (λ p. IsUtf8 p.label) parts steps read.texts;
      });
      held = subst Held (sym is) (record {
        chunks = c.in_ok-chunks.ensures.held;
        steps = record {
          count = subst (λ n. FitsWord n) (sym (length-map steps parts)) read.held.count;
          each = All-map (λ p. IsListHeld FitsWord p.numbers) parts steps read.held.each;
        };
      });
      formed = read.formed;
      played = played.0 ∙ ap (λ s. steps_of s.pattern) (sym is);
      admitted = played.1;
    }

-- ---- nothing is described

pub returns-in_err-text-clause-err : goal.returns-in_err-text-clause-err
returns-in_err-text-clause-err g c =
    let number = g.S.Field.PrimeCharacteristicRing.residues.number in
    let coefficients = g.S.Extension.BasedVectorSpace.coefficients in
    let opaque = g.S.Called.opaque_numbers in
    let are_opaque = g.S.Called.are_opaque in
    let bytes = c.args.from.left.now in
    let version = c.in_ok-version.version in
    let a = c.byte.new.self.left.now in
    let one = c.in_ok-version.ensures.read in
    due _ c.from_residual-in_err-text.result _ c.from_residual-in_err-text.ensures.1 (λ p is. c.in_err-text.ensures.err
    (contents_of p.0).name _ is.texts.name (after_version number coefficients opaque are_opaque _ bytes p.0 p.1 is version a one))

pub returns-in_err-chunks-clause-err : goal.returns-in_err-chunks-clause-err
returns-in_err-chunks-clause-err g c =
    let number = g.S.Field.PrimeCharacteristicRing.residues.number in
    let coefficients = g.S.Extension.BasedVectorSpace.coefficients in
    let opaque = g.S.Called.opaque_numbers in
    let are_opaque = g.S.Called.are_opaque in
    let bytes = c.args.from.left.now in
    let version = c.in_ok-version.version in
    let a = c.byte.new.self.left.now in
    let one = c.in_ok-version.ensures.read in
    let name = c.as_bytes-name.result.now in
    let b = c.text.new.self.left.now in
    let two : a ≡ text_bytes name ++ b = c.in_ok-text.ensures.read
    ∙ ap (λ name. text_bytes name ++ b) (sym c.as_bytes-name.ensures.value) in
    due_passed c.from_residual-in_err-chunks.result _ _ _ (λ none p is. none (contents_of p.0).chunks _ is.held.chunks
    (after_name number coefficients opaque are_opaque _ bytes p.0 p.1 is version name a b one two).1) c.from_residual-in_err-chunks.ensures.1 c.in_err-chunks.ensures.err

pub returns-in_err-steps-clause-err : goal.returns-in_err-steps-clause-err
returns-in_err-steps-clause-err g c =
    let number = g.S.Field.PrimeCharacteristicRing.residues.number in
    let coefficients = g.S.Extension.BasedVectorSpace.coefficients in
    let opaque = g.S.Called.opaque_numbers in
    let are_opaque = g.S.Called.are_opaque in
    let bytes = c.args.from.left.now in
    let version = c.in_ok-version.version in
    let a = c.byte.new.self.left.now in
    let one = c.in_ok-version.ensures.read in
    let name = c.as_bytes-name.result.now in
    let b = c.text.new.self.left.now in
    let two : a ≡ text_bytes name ++ b = c.in_ok-text.ensures.read
    ∙ ap (λ name. text_bytes name ++ b) (sym c.as_bytes-name.ensures.value) in
    let d = c.parse_chunks.new.from.left.now in
    let chunks = map (λ chunk. chunk.now) c.in_ok-chunks.chunks.items in
    let three = c.in_ok-chunks.ensures.read in
    let held = c.in_ok-chunks.ensures.held in
    due_passed c.from_residual-in_err-steps.result _ _ _ (λ none p is. none p.1 (
      [],
      steps_stand number coefficients opaque are_opaque _ bytes p.0 p.1 is d
          (after_chunks number coefficients opaque are_opaque _ bytes p.0 p.1 is version name a b d chunks one two three held).1,
    ))
    c.from_residual-in_err-steps.ensures.1 c.in_err-steps.ensures.err

pub returns-then-not-is_empty-clause-err : goal.returns-then-not-is_empty-clause-err
returns-then-not-is_empty-clause-err g c =
    let number = g.S.Field.PrimeCharacteristicRing.residues.number in
    let coefficients = g.S.Extension.BasedVectorSpace.coefficients in
    let opaque = g.S.Called.opaque_numbers in
    let are_opaque = g.S.Called.are_opaque in
    let bytes = c.args.from.left.now in
    let version = c.in_ok-version.version in
    let a = c.byte.new.self.left.now in
    let one = c.in_ok-version.ensures.read in
    let name = c.as_bytes-name.result.now in
    let b = c.text.new.self.left.now in
    let two : a ≡ text_bytes name ++ b = c.in_ok-text.ensures.read
    ∙ ap (λ name. text_bytes name ++ b) (sym c.as_bytes-name.ensures.value) in
    let d = c.parse_chunks.new.from.left.now in
    let chunks = map (λ chunk. chunk.now) c.in_ok-chunks.chunks.items in
    let three = c.in_ok-chunks.ensures.read in
    let held = c.in_ok-chunks.ensures.held in
    let e = c.parse_steps.new.from.left.now in
    let read = c.in_ok-steps.steps.items in
    inr (λ p is. let nothing = (after_steps number coefficients opaque are_opaque _ bytes p.0 p.1 is d e read
    (after_chunks number coefficients opaque are_opaque _ bytes p.0 p.1 is version name a b d chunks one two three held).1
    c.in_ok-steps.ensures.ok).1 in cc (c.if-not-is_empty.ensures.1 nothing))

pub returns-in_err-pattern-clause-err : goal.returns-in_err-pattern-clause-err
returns-in_err-pattern-clause-err g c =
    let number = g.S.Field.PrimeCharacteristicRing.residues.number in
    let coefficients = g.S.Extension.BasedVectorSpace.coefficients in
    let opaque = g.S.Called.opaque_numbers in
    let are_opaque = g.S.Called.are_opaque in
    let bytes = c.args.from.left.now in
    let version = c.in_ok-version.version in
    let a = c.byte.new.self.left.now in
    let one = c.in_ok-version.ensures.read in
    let name = c.as_bytes-name.result.now in
    let b = c.text.new.self.left.now in
    let two : a ≡ text_bytes name ++ b = c.in_ok-text.ensures.read
    ∙ ap (λ name. text_bytes name ++ b) (sym c.as_bytes-name.ensures.value) in
    let d = c.parse_chunks.new.from.left.now in
    let chunks = map (λ chunk. chunk.now) c.in_ok-chunks.chunks.items in
    let three = c.in_ok-chunks.ensures.read in
    let held = c.in_ok-chunks.ensures.held in
    let e = c.parse_steps.new.from.left.now in
    let read = c.in_ok-steps.steps.items in
    due_passed c.from_residual-in_err-pattern.result _ _ _ (λ none p is.
    let parts = (after_steps number coefficients opaque are_opaque _ bytes p.0 p.1 is d e read (after_chunks number coefficients opaque are_opaque _ bytes p.0 p.1 is version name a b d chunks one two three held).1
    c.in_ok-steps.ensures.ok).0 in
    let Form = HasForm number coefficients opaque are_opaque in
    none (contents_of p.0).pattern (pattern_stands number coefficients opaque are_opaque _ bytes p.0 p.1 is
    g.S.Extension.BasedVectorSpace.DIMENSION g.met.S.Extension.BasedVectorSpace.at_least_one
    g.met.S.Extension.BasedVectorSpace.length_coefficients c.as_slice.result.now
    (subst (All Form) (sym c.as_slice.ensures.value) c.in_ok-steps.ensures.ok.formed)
    (ap (map (parts_of number coefficients opaque)) c.as_slice.ensures.value ∙ parts)))
    c.from_residual-in_err-pattern.ensures.1 c.in_err-pattern.ensures.err

pub returns-in_err-separator-clause-err : goal.returns-in_err-separator-clause-err
returns-in_err-separator-clause-err g c =
    let number = g.S.Field.PrimeCharacteristicRing.residues.number in
    let coefficients = g.S.Extension.BasedVectorSpace.coefficients in
    let opaque = g.S.Called.opaque_numbers in
    let are_opaque = g.S.Called.are_opaque in
    let bytes = c.args.from.left.now in
    let version = c.in_ok-version.version in
    let a = c.byte.new.self.left.now in
    let one = c.in_ok-version.ensures.read in
    let name = c.as_bytes-name.result.now in
    let b = c.text.new.self.left.now in
    let two : a ≡ text_bytes name ++ b = c.in_ok-text.ensures.read
    ∙ ap (λ name. text_bytes name ++ b) (sym c.as_bytes-name.ensures.value) in
    let d = c.parse_chunks.new.from.left.now in
    let chunks = map (λ chunk. chunk.now) c.in_ok-chunks.chunks.items in
    let three = c.in_ok-chunks.ensures.read in
    let held = c.in_ok-chunks.ensures.held in
    due_passed c.from_residual-in_err-separator.result _ _ _ (λ none p is. none p.0 (
      (after_name number coefficients opaque are_opaque _ bytes p.0 p.1 is version name a b one two).0,
      (after_chunks number coefficients opaque are_opaque _ bytes p.0 p.1 is version name a b d chunks one two three held).0
          ∙ ap (map (λ chunk. chunk.now)) (sym c.as_slice-2.ensures.value),
    )) c.from_residual-in_err-separator.ensures.1 c.in_err-separator.ensures.err
