use Rattle.std.proofs.{Common.{[], ◌∷◌, true}, lemmas.Result.MatchResult-weaker}
use Rattle.p3_challenger_core.specs.Observation.{unrefused_observe}
use Rattle.p3_duplex.specs.{DuplexState.observed, DuplexUniform.uniform_bits, DuplexUniformLaws.check-takes_no_memory}
use Rattle.p3_grinding.specs.{Checks.{check_of, draws_nothing, zero_and_uniform}, CheckLaws.search-takes_no_memory}
use Rattle.p3_duplex.proofs.duplex_challenger.grinding.DuplexChallengerUniformGrindingChallenger.grind_uniform.Goals as goal

pub returns-clause-found : goal.returns-clause-found
returns-clause-found g c =
    let r = g.F.PrimeCharacteristicRing.residues in
    let permute = g.P.CryptographicPermutation.permutation in
    let most = g.F.UniformSamplingField.MAX_SINGLE_SAMPLE_BITS in
    let check = check_of draws_nothing (unrefused_observe (λ x. x ∷ []) (observed r permute g.row.RATE))
    (zero_and_uniform (uniform_bits r permute g.row.RATE true most c.args.bits)) c.args.bits in
    MatchResult-weaker c.least_uniform_witness.result c.least_uniform_witness.ensures.found (λ _ h. h)
    (λ e. search-takes_no_memory r check (check-takes_no_memory r permute g.row.RATE true most c.args.bits) e
    c.args.self.now c.least_uniform_witness.new.challenger)
