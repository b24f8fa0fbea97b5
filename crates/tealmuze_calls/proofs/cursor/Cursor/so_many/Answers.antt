use Rattle.std.proofs.Common.{◌∙◌, ap, sym, arith, length, length-append}
use Rattle.tealmuze_calls.specs.{Forms.number_bytes, Readings.FitsWord}
use Rattle.tealmuze_calls.proofs.{Codes.number-code, Dues.due, Rest.row-next}
use Rattle.tealmuze_calls.proofs.cursor.Cursor.so_many.Goals as goal

-- a number is missing
pub returns-in_err-number-clause-err : goal.returns-in_err-number-clause-err
returns-in_err-number-clause-err c =
    due _ c.from_residual.result _ c.from_residual.ensures.1 (λ numbers rest are is.
    row-next FitsWord number_bytes (λ x y a b x_fits y_fits e. (number-code x y a b x_fits y_fits e).1) ⊥
    c.loop-read.numbers.items numbers c.loop-read.self.left.now rest c.loop-read.invariant.held are.each
    (omega (arith, are.count_is, c.loop-read.invariant.count, c.loop-read-test.true, c.loop-read.auto.read-end))
    (sym c.loop-read.invariant.so_far ∙ is) (λ n left fits begins.
    omega (arith, length-append (number_bytes n) left, ap length begins, c.in_err-number.ensures.err)))
