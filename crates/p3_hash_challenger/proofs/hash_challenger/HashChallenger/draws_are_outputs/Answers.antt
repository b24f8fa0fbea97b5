use Rattle.std.proofs.Common.{◌≡◌, ℕ, ◌≤◌, List, length, Option, Some, None, IfSome, refl, subst, arith}
use Rattle.std.specs.Option.{ForNone}
use Rattle.p3_challenger_core.specs.SegmentLaws.{run_calls-alike}
use Rattle.p3_hash_challenger.proofs.HashOutputs.{HasOutputs, filled_call, call_outputs}
use Rattle.p3_hash_challenger.specs.{HashCalls.hash_by_calls, HashState.{HashState, function_of, pending_of}}
use Rattle.p3_hash_challenger.proofs.hash_challenger.HashChallenger.draws_are_outputs.Goals as goal

-- the outputs left are places of the digest
pending-places : {T : Type 0} (out_len : ℕ) (digest : Option (List T)) (buffer : List T) (left : ℕ)
    → left ≤ out_len → ForNone digest (left ≡ 0) → IfSome digest (λ places. length places ≡ out_len)
    → left ≤ length (pending_of digest buffer)
pending-places out_len None buffer left fits none_left whole = omega (arith, none_left refl)
pending-places out_len (Some places) buffer left fits none_left whole = omega (arith, whole)

pub returns : goal.returns
returns g c =
    let inside = c.self.inside in
    let keeps = c.self.invariant in
    let state = c.args.self.now in
    let len = g.row.OUT_LEN in
    let places = pending-places len inside.digest inside.input_buffer.items inside.outputs_left
    keeps.left keeps.none_left keeps.whole in
    let fits : HasOutputs state.sponge =
    subst (λ (s : HashState g.row.T.Denot g.row.H.Denot). HasOutputs s.sponge) c.self.view_is places in
    let hasher = g.H.CryptographicHasher in
    let h = function_of hasher.hash len hasher.filler state.hasher in
    let whole = g.met.H.CryptographicHasher.digests state.hasher in
    λ calls other. run_calls-alike HasOutputs (hash_by_calls h) (hash_by_calls (record h { filler = other }))
    (filled_call h other keeps.positive whole) (call_outputs h other keeps.positive whole)
    state.sponge fits calls
