use Rattle.std.proofs.Common.{◌<◌, ap, arith}
use Rattle.p3_challenger.specs.HashValueLaws.{length-values}
use Rattle.p3_field.specs.BabyBearResidues.{residues}
use Rattle.transcript_read_back.specs.AcceptedReadBackLaws.{accepted-read_back_or_collide, accepted-read_back}
use Rattle.transcript_read_back.specs.{CallByCall.duplex_run, ChallengerReadBackLaws.duplex-reads_back_or_collides}
use Rattle.transcript_read_back.specs.ChallengerReadBackLaws.{duplex-reads_back, duplex-ends_alike, some-of_length}
use Rattle.transcript_read_back.specs.TranscriptReadBackLaws.{transcripts-read_back_or_collide, transcripts-read_back}
use Rattle.transcript_read_back.proofs.recursive.begin_duplex.Goals as goal

pub scripts_are_calls-requires-clause-opaque_feeds : goal.scripts_are_calls-requires-clause-opaque_feeds
scripts_are_calls-requires-clause-opaque_feeds g c = λ x _. some-of_length 7 _ (length-values x)

pub returns-clause-makes_queries : goal.returns-clause-makes_queries
returns-clause-makes_queries g c =
    c.scripts_are_calls.ensures (duplex_run residues g.P.CryptographicPermutation.permutation g.row.RATE)
    c.duplex_is_call_by_call.ensures

pub returns-clause-tells : goal.returns-clause-tells
returns-clause-tells g c =
    let below : g.row.RATE < 2013265921 = omega (arith, c.requires.count) in
    transcripts-read_back _ _ _ _ c.duplex_is_call_by_call.ensures _ _ c.new.result c.binding.ensures.equal_symbols_bind
    (duplex-reads_back residues g.P.CryptographicPermutation.permutation g.row.RATE c.new.result _
    (ap (λ r. r.permutation) c.new.ensures.value) (c.new.ensures.reads_back below))

pub returns-clause-or_collides : goal.returns-clause-or_collides
returns-clause-or_collides g c =
    let below : g.row.RATE < 2013265921 = omega (arith, c.requires.count) in
    transcripts-read_back_or_collide _ _ _ _ c.duplex_is_call_by_call.ensures _ _ c.new.result
    c.binding.ensures.equal_symbols_bind _ _ _
    (duplex-ends_alike residues g.P.CryptographicPermutation.permutation g.row.RATE c.new.result)
    (duplex-reads_back_or_collides residues g.P.CryptographicPermutation.permutation g.row.RATE c.new.result _
    (ap (λ r. r.permutation) c.new.ensures.value) (c.new.ensures.or_collides below))

pub returns-clause-accepted : goal.returns-clause-accepted
returns-clause-accepted g c =
    let below : g.row.RATE < 2013265921 = omega (arith, c.requires.count) in
    accepted-read_back _ _ _ _ _ _ _ _ _ _ _ _ _ _ _ c.duplex_is_call_by_call.ensures
    c.equal_symbols_have_equal_values.ensures c.new.result
    (duplex-reads_back residues g.P.CryptographicPermutation.permutation g.row.RATE c.new.result _
    (ap (λ r. r.permutation) c.new.ensures.value) (c.new.ensures.reads_back below))

pub returns-clause-accepted_or_collides : goal.returns-clause-accepted_or_collides
returns-clause-accepted_or_collides g c =
    let below : g.row.RATE < 2013265921 = omega (arith, c.requires.count) in
    accepted-read_back_or_collide _ _ _ _ _ _ _ _ _ _ _ _ _ _ _ c.duplex_is_call_by_call.ensures
    c.equal_symbols_have_equal_values.ensures c.new.result _ _ _
    (duplex-ends_alike residues g.P.CryptographicPermutation.permutation g.row.RATE c.new.result)
    (duplex-reads_back_or_collides residues g.P.CryptographicPermutation.permutation g.row.RATE c.new.result _
    (ap (λ r. r.permutation) c.new.ensures.value) (c.new.ensures.or_collides below))
