use Rattle.std.proofs.Common.{zero, suc, inl, inr}
use Rattle.p3_challenger_core.specs.declared.error.ChallengerError.TheVariants.{OutOfMemory, DrawLimit, NoWitness}
use Rattle.p3_challenger_core.specs.declared.error.ChallengerError.TheVariants.{TooLong}
use Rattle.p3_duplex.proofs.duplex_challenger.DuplexChallenger.checks_are_not_refused.Goals as goal

pub returns : goal.returns
returns g c zero witness OutOfMemory s t h = h
returns g c zero witness DrawLimit s t h = h.0
returns g c (suc more) witness OutOfMemory s t (inl h) = h
returns g c (suc more) witness OutOfMemory s t (inr (is, inl h)) = h
returns g c (suc more) witness OutOfMemory s t (inr (is, inr h)) = h
returns g c (suc more) witness DrawLimit s t (inl h, at) = h
returns g c (suc more) witness DrawLimit s t (inr (is, h), at) = h
returns g c bits witness NoWitness s t h = h
returns g c bits witness TooLong s t h = h
