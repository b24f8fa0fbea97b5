use Rattle.std.proofs.Common.{ap}
use Rattle.p3_challenger.specs.{Bound.bound_value, Alphabet.alphabet_of, SeparatorSeed.seed_of_separator}
use Rattle.uses.proofs.SentAndDrawn.{drawn-first}
use Rattle.uses.proofs.round.first_challenge.Goals as goal

pub returns : goal.returns
returns g c =
    let seed = seed_of_separator g.D.DigestHasher.digest_of c.args.separator.now in
    drawn-first g.C.Sponge.fed g.C.Sponge.fed_nothing g.C.Sponge.fed_more
    (alphabet_of g.U.Unit.items g.U.Unit.is_too_long g.C.CanObserve.observation g.C.CanObserve.slice_may_leave)
    g.Cdc.Codec.observation g.Cdc.Codec.sampling seed c.args.value.now
    (c.bytes_feed_their_symbols.ensures.fixed seed) (c.values_feed_their_symbols.ensures.value c.args.value.now)
    bound_value (g.C.Sponge.state c.args.challenger) _ _ c.send_and_draw-drawn.result
    (ap (λ p. p.transcript.challenger) c.in_ok-prover.ensures.ok) c.send_and_draw-drawn.ensures.steps
