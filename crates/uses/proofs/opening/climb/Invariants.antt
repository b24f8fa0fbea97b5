use Rattle.std.proofs.Common.{◌≡◌}
use Rattle.p3_challenger.specs.Drivers.{verifying_of}
use Rattle.uses.proofs.MerkleOpening.{IsClimbed}
use Rattle.p3_symmetric.specs.contracts.sha256.Sha256HasherDigestHasher.TheImpl as digests
use Rattle.uses.proofs.opening.climb.Given as goal

-- the siblings so far are read and climbed over, and the challenger takes no part in it
abbrev pub invariant-loop : goal.invariant-loop
invariant-loop l =
    let before = verifying_of (λ s. s) l.initial.verifier in
    let here = verifying_of (λ s. s) l.verifier in
    IsClimbed digests.ghosts.digest_of l.fn.place l.fn.leaf before.bytes l.counter l.place l.node here.bytes
    × (here.transcript.challenger ≡ before.transcript.challenger)
