use Rattle.std.proofs.Common.{◌+◌, ◌-◌, ◌/◌, Some, ap, sym, ◌∙◌, rules}
use Rattle.p3_grinding.specs.UniformDrawLaws.{halves-sampled, halves-refused}
use Rattle.p3_duplex.specs.{DuplexState.after_sampled, DuplexUniform.single, DuplexUniformLaws.single-is_uniform}
use Rattle.p3_duplex.proofs.Uniform.{moved_up}
use Rattle.p3_duplex.proofs.duplex_challenger.DuplexChallenger.halved_bits.Goals as goal

pub returns-in_err-low : goal.returns-in_err-low
returns-in_err-low g c =
    let r = g.F.PrimeCharacteristicRing.residues in
    let permute = g.P.CryptographicPermutation.permutation in
    let bits = c.args.bits in
    let laws = single-is_uniform r permute g.row.RATE c.args.resample in
    let stops = halves-refused (after_sampled r permute g.row.RATE) c.args.resample (bits / 2)
    (single r permute g.row.RATE c.args.resample (bits / 2))
    (single r permute g.row.RATE c.args.resample (bits - bits / 2)) (laws (bits / 2)) (laws (bits - bits / 2))
    c.in_err-low.field-0.0 c.args.self.now c.single_bits.new.self c.in_err-low.ensures.drawn in
    search (rules, stops)

pub returns : goal.returns
returns g c =
    let r = g.F.PrimeCharacteristicRing.residues in
    let permute = g.P.CryptographicPermutation.permutation in
    let bits = c.args.bits in
    let laws = single-is_uniform r permute g.row.RATE c.args.resample in
    let high = single r permute g.row.RATE c.args.resample (bits - bits / 2) in
    let drawn = halves-sampled (after_sampled r permute g.row.RATE) c.args.resample (bits / 2)
    (single r permute g.row.RATE c.args.resample (bits / 2)) high (laws (bits / 2)) (laws (bits - bits / 2))
    c.args.self.now c.in_ok-low.low c.in_ok-high.high c.in_ok-low.ensures.drawn.0
    (ap high.draw.sampled (sym c.in_ok-low.ensures.drawn.1) ∙ c.in_ok-high.ensures.drawn.0)
    ∙ ap (λ n. Some (c.in_ok-low.low + n)) (sym (moved_up bits c.in_ok-high.high c.requires c.in_ok-high.ensures.below)) in
    (drawn, search rules)
