use Rattle.std.proofs.Common.{[], ◌++◌, ◌<◌, ◌^◌, ap, sym, ◌∙◌, arith}
use Rattle.p3_fs_core.specs.{BigEndian.count_width, CountLaws.{count_width-enough, count_width-most}}
use Rattle.p3_fs_core.specs.BigEndianLaws.{length-in_bytes, AreBytes-in_bytes}
use Rattle.p3_driver_core.proofs.counts.counts_are_told.Goals as goal

pub returns : goal.returns
returns c = record {
  told = λ max n m fits n_fits m_fits same.
      let enough = count_width-enough max fits in
      let left : n < 256 ^ count_width max = omega (arith, n_fits, enough) in
      let right : m < 256 ^ count_width max = omega (arith, m_fits, enough) in
      (c.counts_are_prefix_code.ensures (count_width max) n m [] [] left right (ap (λ bytes. bytes ++ []) same)).0;
  as_long = λ max n m. length-in_bytes (count_width max) n ∙ sym (length-in_bytes (count_width max) m);
  short = λ max n. omega (arith, length-in_bytes (count_width max) n, count_width-most max);
  bytes = λ max n. AreBytes-in_bytes (count_width max) n;
}
