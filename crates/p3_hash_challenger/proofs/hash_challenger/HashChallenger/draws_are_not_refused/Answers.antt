use Rattle.std.specs.Prelude.{Some}
use Rattle.p3_hash_challenger.specs.HashState.{function_of, sampled, after_sampled}
use Rattle.p3_challenger_core.specs.SamplingLaws.{draws-not_refused}
use Rattle.p3_hash_challenger.proofs.hash_challenger.HashChallenger.draws_are_not_refused.Goals as goal

pub returns : goal.returns
returns g c =
    let hasher = g.H.CryptographicHasher in
    let function = function_of hasher.hash g.row.OUT_LEN hasher.filler in
    draws-not_refused (λ s. Some (sampled function s)) (after_sampled function)
