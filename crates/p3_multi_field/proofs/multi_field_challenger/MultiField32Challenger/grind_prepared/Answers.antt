use Rattle.std.proofs.Common.{refl, arith, rules}
use Rattle.p3_challenger_core.specs.BitLaws.{most_bits-short}
use Rattle.p3_multi_field.proofs.{Pairs.pair_over, Preparing.{least-is_least, none-passes}}
use Rattle.p3_multi_field.proofs.multi_field_challenger.MultiField32Challenger.grind_prepared.Goals as goal

pub least-found-requires : goal.least-found-requires
least-found-requires g c = omega (arith, c.requires, most_bits-short g.F.PrimeCharacteristicRing.residues.order)

pub returns-in-Some-clause-found : goal.returns-in-Some-clause-found
returns-in-Some-clause-found g c =
    let pair = pair_over g.F.PrimeCharacteristicRing.residues g.PF.PrimeCharacteristicRing.residues g.PF.FieldBridge in (
      least-is_least pair g.P.CryptographicPermutation.permutation g.row.RATE c.args.self.now c.prepare-check.result
          c.args.bits c.if-bits-eq0.false c.prepare-check.ensures c.in-Some.witness c.in-Some.ensures,
      search rules,
    )

pub returns-in-None-clause-found : goal.returns-in-None-clause-found
returns-in-None-clause-found g c =
    let pair = pair_over g.F.PrimeCharacteristicRing.residues g.PF.PrimeCharacteristicRing.residues g.PF.FieldBridge in (
      none-passes pair g.P.CryptographicPermutation.permutation g.row.RATE c.args.self.now c.prepare-check.result c.args.bits
          c.if-bits-eq0.false c.prepare-check.ensures c.in-None.ensures,
      refl,
    )
