-- A label to which a chunk is added, where memory for it may be refused.
use Rattle.std.proofs.Common.{◌≡◌, ℕ, ◌+◌, ◌<◌, ◌^◌, List, ◌++◌, length, Result, Ok, Err, OnOk, OnErr, sym, ap, subst}
use Rattle.std.proofs.{Common.arith, lemmas.List.length-append}
use Rattle.p3_challenger_core.specs.Reading.{AreBytes}
use Rattle.p3_domain_separator.specs.{Seed.{counted, FitsCount}, SeparatorLaws.IsLabel-more, Separators.IsLabel}

module _ {T E : Type 0} (label chunk grown : List ℕ) where
  pub pushed-is_label : (result : Result T E) → IsLabel label → FitsCount chunk → AreBytes chunk →
      OnOk result (grown ≡ label ++ counted chunk) → OnErr result (grown ≡ label) → IsLabel grown
  pushed-is_label (Ok x) is fits bytes more same = IsLabel-more label chunk grown is fits bytes more
  pushed-is_label (Err e) is fits bytes more same = subst IsLabel (sym same) is

  pub pushed-fits : (result : Result T E) → length label + (4 + length chunk) < 2 ^ 32 →
      OnOk result (grown ≡ label ++ counted chunk) → OnErr result (grown ≡ label) → length grown < 2 ^ 32
  pushed-fits (Ok x) fits more same = omega (arith, fits, ap length more, length-append label (counted chunk))
  pushed-fits (Err e) fits more same = omega (arith, fits, ap length same)
