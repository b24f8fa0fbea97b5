use Rattle.std.proofs.Common.{◌≡◌, ◌++◌, inr, ap, sym, subst, ◌∙◌, rules}
use Rattle.tealmuze_calls.specs.declared.unanswered.Unanswered.TheVariants.{OutOfMemory}
use Rattle.tealmuze_calls.specs.{Forms.{number_bytes, listed_bytes}, Readings.{FitsWord, IsListHeld}}
use Rattle.tealmuze_calls.proofs.{Dues.{due_passed, reason_of}, Readers.{numbers_stand, is_read_as}}
use Rattle.tealmuze_calls.proofs.description.parse_next.Goals as goal

-- the numbers are missing
pub returns-in_err-numbers-clause-err : goal.returns-in_err-numbers-clause-err
returns-in_err-numbers-clause-err g c =
    let number = g.S.Field.PrimeCharacteristicRing.residues.number in
    let coefficients = g.S.Extension.BasedVectorSpace.coefficients in
    due_passed c.from_residual-in_err-numbers.result _ _ _ (λ none s read. none _ read.0 read.1.held
    (numbers_stand number coefficients g.S.Called.opaque_numbers g.S.Called.are_opaque c.args.from.now.left.now read.0 s read.1
    c.in_ok-what.what c.in_ok-label.label.now c.byte.new.self.left.now c.text.new.self.left.now c.in_ok-what.ensures.read
    c.in_ok-label.ensures.read)) c.from_residual-in_err-numbers.ensures.1 c.in_err-numbers.ensures.err

-- no step has these parts
pub returns : goal.returns
returns g c =
    let number = g.S.Field.PrimeCharacteristicRing.residues.number in
    let coefficients = g.S.Extension.BasedVectorSpace.coefficients in
    let other : c.in-Err.field-0 ≡ OutOfMemory → ⊥ = λ e. search (rules, e) in
    record {
      ok = tt;
      err = inr (λ s read. reason_of _ c.in-Err.field-0 other c.in-Err.ensures.err s
          (is_read_as number coefficients g.S.Called.opaque_numbers g.S.Called.are_opaque c.args.from.now.left.now read.0 s
          read.1 c.in_ok-what.what c.in_ok-label.label.now c.as_slice.result.now c.byte.new.self.left.now
          c.text.new.self.left.now c.numbers.new.self.left.now c.in_ok-what.ensures.read c.in_ok-label.ensures.read
          (c.in_ok-numbers.ensures.read ∙ ap (λ ns. listed_bytes number_bytes ns ++ c.numbers.new.self.left.now)
          (sym c.as_slice.ensures.value))
          (subst (λ ns. IsListHeld FitsWord ns) (sym c.as_slice.ensures.value) c.in_ok-numbers.ensures.held)));
    }
