use Rattle.p3_hash_challenger.specs.{HashCalls.with_pending, HashState.function_of}
use Rattle.p3_hash_challenger.proofs.ReadBack.{reads_back, reads_back_to_digest, reads_back_or_collides}
use Rattle.p3_hash_challenger.proofs.hash_challenger.HashChallenger.new.Goals as goal

pub returns-clause-reads_back : goal.returns-clause-reads_back
returns-clause-reads_back g c =
    let hasher = g.H.CryptographicHasher in
    reads_back (function_of hasher.hash g.row.OUT_LEN hasher.filler c.args.hasher)
    (with_pending c.args.initial_state.items)

pub returns-clause-to_digest : goal.returns-clause-to_digest
returns-clause-to_digest g c =
    let hasher = g.H.CryptographicHasher in
    reads_back_to_digest (function_of hasher.hash g.row.OUT_LEN hasher.filler c.args.hasher)
    (with_pending c.args.initial_state.items)

pub returns-clause-or_collides : goal.returns-clause-or_collides
returns-clause-or_collides g c values =
    let hasher = g.H.CryptographicHasher in
    reads_back_or_collides (function_of hasher.hash g.row.OUT_LEN hasher.filler c.args.hasher)
    (λ message. g.met.H.CryptographicHasher.digests c.args.hasher message) values (with_pending c.args.initial_state.items)
