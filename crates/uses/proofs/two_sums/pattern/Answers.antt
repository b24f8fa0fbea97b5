use Rattle.std.proofs.Common.{ap}
use Rattle.p3_challenger.specs.Steps.{algebra_of}
use Rattle.uses.{specs.TwoSums.steps_of_two, proofs.RecordSums.{ends-own, two-are, two-recorded, two-viable}}
use Rattle.uses.proofs.two_sums.pattern.Goals as goal

pub returns-clause-only : goal.returns-clause-only
returns-clause-only g c =
    let field = algebra_of g.F.PrimeCharacteristicRing.residues.order g.F.BasedVectorSpace.DIMENSION
    (g.D.DigestHasher.digest_of g.F.AlgebraIdentity.identity) g.F.Named.name_bytes in
    let fresh = c.new-recorder.ensures in
    let going = ap (λ r. r.finished) fresh in
    let none = ap (λ r. r.steps) fresh in
    ends-own (steps_of_two field c.args.rounds) c.record_two-recorded.new.recorder c.record_two-recorded.result
    c.finalize.result c.and.result c.and.ensures (two-are field c.args.rounds)
    (two-recorded field c.args.rounds _ _ none c.record_two-recorded.result c.record_two-recorded.ensures.steps)
    (c.record_two-recorded.ensures.only going (two-viable field c.args.rounds _ none)) c.finalize.ensures.only
