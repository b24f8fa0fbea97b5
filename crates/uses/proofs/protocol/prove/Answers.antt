use Rattle.std.proofs.Common.{ap}
use Rattle.p3_challenger.specs.{Drivers.proving_of, SeparatorSeed.seed_of_separator}
use Rattle.p3_challenger.specs.BegunLaws.{begun-as}
use Rattle.uses.proofs.Runs.{once-both, sent-as, sent-alone}
use Rattle.p3_symmetric.specs.contracts.sha256.Sha256HasherDigestHasher.TheImpl as digests
use Rattle.uses.proofs.protocol.prove.Goals as goal

pub returns : goal.returns
returns c =
    let prover = proving_of (λ s. s) c.in_ok-prover.prover in
    once-both _ _ _ c.send-sent.result c.finalize.result c.and.result c.and.ensures c.send-sent.ensures
    c.finalize.ensures.ok
    (λ sent proof ends. sent-as _ _ _ _ _ _ _ _ _ _
    (begun-as c.challenger.result prover.transcript.challenger
    (seed_of_separator digests.ghosts.digest_of c.args.separator.now)
    (ap (λ p. p.transcript.challenger) c.in_ok-prover.ensures.ok) c.challenger.ensures)
    (sent-alone _ _ _ _ (ap (λ p. p.bytes) c.in_ok-prover.ensures.ok) ends.1 sent.1) sent.2)
