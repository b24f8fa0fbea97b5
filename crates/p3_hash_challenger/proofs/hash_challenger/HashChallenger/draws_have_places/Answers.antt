use Rattle.std.proofs.Common.{◌≤◌, ap, arith}
use Rattle.p3_hash_challenger.{specs.HashState.function_of, proofs.Calls.{draws-places, draws-places_after_array}}
use Rattle.p3_hash_challenger.proofs.hash_challenger.HashChallenger.draws_have_places.Goals as goal

pub returns : goal.returns
returns g c =
    let s = c.args.self.now.sponge in
    let len = g.row.OUT_LEN in
    let left : s.outputs_left ≤ len =
    omega (arith, ap (λ t. t.sponge.outputs_left) c.self.view_is, c.self.invariant.left) in
    let hasher = g.H.CryptographicHasher in
    let h = function_of hasher.hash len hasher.filler c.args.self.now.hasher in
    let positive = c.self.invariant.positive in
    record {
      values = draws-places h positive s left;
      array = draws-places_after_array h positive s left;
    }
