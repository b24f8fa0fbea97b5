use Rattle.std.proofs.Common.{refl, subst, arith, rules}
use Rattle.p3_challenger_core.specs.BitLaws.{most_bits-short}
use Rattle.p3_duplex.specs.LaneSearch.{IsLeastOf, NoneOfAll}
use Rattle.p3_duplex.proofs.LaneSearching.{passes-prepared, least-is_least, none-passes, array_fits}
use Rattle.p3_duplex.proofs.duplex_challenger.DuplexChallenger.grind_in_lanes.Goals as goal

pub least_in_lanes-found-requires : goal.least_in_lanes-found-requires
least_in_lanes-found-requires g c =
    let inv = c.self.invariant in (
      array_fits g.row.WIDTH _ c.requires.width g.met.F.Field.is_small,
      (
        omega (arith, inv.short, inv.capacity),
        (
          omega (arith, inv.positive, inv.capacity),
          (
            array_fits g.row.WIDTH _ c.requires.width g.met.F.PackedField.lanes_are_small,
            omega (arith, c.requires.bits, most_bits-short g.F.PrimeCharacteristicRing.residues.order),
          ),
        ),
      ),
    )

pub returns-in-Some-clause-found : goal.returns-in-Some-clause-found
returns-in-Some-clause-found g c =
    let r = g.F.PrimeCharacteristicRing.residues in
    let permute = g.P.CryptographicPermutation.permutation in
    let inside = c.self.inside in
    let same = passes-prepared r permute g.row.RATE c.self.invariant.positive c.args.self.now
    inside.sponge_state inside.input_buffer inside.inputs inside.outputs_left inside.draw_limit inside.permutation
    (omega (arith, c.self.invariant.short, c.self.told2)) c.self.view_is c.overwrite.new.cells c.overwrite.ensures c.args.bits in (
      least-is_least r permute g.row.RATE c.args.self.now c.args.bits c.if-bits-eq0.false c.in-Some.witness
          (subst (λ Passes. IsLeastOf r Passes c.in-Some.witness) same c.in-Some.ensures),
      search rules,
    )

pub returns-in-None-clause-found : goal.returns-in-None-clause-found
returns-in-None-clause-found g c =
    let r = g.F.PrimeCharacteristicRing.residues in
    let permute = g.P.CryptographicPermutation.permutation in
    let inside = c.self.inside in
    let same = passes-prepared r permute g.row.RATE c.self.invariant.positive c.args.self.now
    inside.sponge_state inside.input_buffer inside.inputs inside.outputs_left inside.draw_limit inside.permutation
    (omega (arith, c.self.invariant.short, c.self.told2)) c.self.view_is c.overwrite.new.cells c.overwrite.ensures c.args.bits in
    (none-passes r permute g.row.RATE c.args.self.now c.args.bits c.if-bits-eq0.false (subst (NoneOfAll r) same c.in-None.ensures), refl)
