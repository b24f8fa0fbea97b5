use Rattle.std.proofs.Common.{ap}
use Rattle.p3_challenger.specs.{QueriesLaws.number-decides, HashState.function_of}
use Rattle.transcript_read_back.specs.AcceptedReadBackLaws.{accepted-read_back, accepted-read_back_or_collide}
use Rattle.transcript_read_back.specs.{CallByCall.hash_run, ChallengerReadBackLaws.some-of_length}
use Rattle.transcript_read_back.specs.ChallengerReadBackLaws.{hash-reads_back, hash-reads_back_or_collides}
use Rattle.transcript_read_back.specs.TranscriptReadBackLaws.{transcripts-read_back, transcripts-read_back_or_collide}
use Rattle.transcript_read_back.proofs.recursive.begin_hash.Goals as goal

pub scripts_are_calls-requires-clause-opaque_feeds : goal.scripts_are_calls-requires-clause-opaque_feeds
scripts_are_calls-requires-clause-opaque_feeds g c = λ values is. some-of_length 31 values is

pub returns-clause-makes_queries : goal.returns-clause-makes_queries
returns-clause-makes_queries g c =
    let hasher = g.H.CryptographicHasher in
    c.scripts_are_calls.ensures (hash_run (function_of hasher.hash 32 hasher.filler)) c.hash_is_call_by_call.ensures

pub returns-clause-tells : goal.returns-clause-tells
returns-clause-tells g c =
    let hasher = g.H.CryptographicHasher in
    transcripts-read_back _ _ _ _ c.hash_is_call_by_call.ensures _ _ _ c.binding.ensures.equal_symbols_bind
    (hash-reads_back (function_of hasher.hash 32 hasher.filler) _ _ (ap (λ r. r.hasher) c.new.ensures.value)
    c.new.ensures.reads_back)

pub returns-clause-or_collides : goal.returns-clause-or_collides
returns-clause-or_collides g c =
    let hasher = g.H.CryptographicHasher in
    transcripts-read_back_or_collide _ _ _ _ c.hash_is_call_by_call.ensures _ _ _
    c.binding.ensures.equal_symbols_bind _ _ _ (λ calls others _ pending. pending)
    (hash-reads_back_or_collides (function_of hasher.hash 32 hasher.filler) _ _
    (ap (λ r. r.hasher) c.new.ensures.value) (c.new.ensures.or_collides number-decides))

pub returns-clause-accepted : goal.returns-clause-accepted
returns-clause-accepted g c =
    let hasher = g.H.CryptographicHasher in
    accepted-read_back _ _ _ _ _ _ _ _ _ _ _ _ _ _ _ c.hash_is_call_by_call.ensures
    c.equal_symbols_have_equal_values.ensures c.new.result
    (hash-reads_back (function_of hasher.hash 32 hasher.filler) _ _ (ap (λ r. r.hasher) c.new.ensures.value)
    c.new.ensures.reads_back)

pub returns-clause-accepted_or_collides : goal.returns-clause-accepted_or_collides
returns-clause-accepted_or_collides g c =
    let hasher = g.H.CryptographicHasher in
    accepted-read_back_or_collide _ _ _ _ _ _ _ _ _ _ _ _ _ _ _ c.hash_is_call_by_call.ensures
    c.equal_symbols_have_equal_values.ensures c.new.result _ _ _ (λ calls others _ pending. pending)
    (hash-reads_back_or_collides (function_of hasher.hash 32 hasher.filler) _ _
    (ap (λ r. r.hasher) c.new.ensures.value) (c.new.ensures.or_collides number-decides))
