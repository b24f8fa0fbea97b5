use Rattle.std.proofs.Common.{◌≡◌, ◌<◌, ◌-◌, [], ◌∷◌, ◌++◌, length, take, reverse, slice_index_or, refl, sym, ap, ◌∙◌, arith}
use Rattle.std.proofs.lemmas.List.{length-set, length-replicate, length-reverse, take_all, take_more, take_more_set, get_or-reverse}
use Rattle.p3_hash_challenger.proofs.hash_challenger.witness_search.outputs_of.Goals as goal

pub loop-i-init : goal.loop-i-init
loop-i-init g c = (length-replicate g.row.S 0, c.told-digest, refl)

-- one output more
pub loop-i-preserved : goal.loop-i-preserved
loop-i-preserved g c =
    let i = c.loop-i.i in
    let outputs = c.loop-i.outputs in
    let digest = c.args.digest.now in
    let turned = reverse digest in
    let output = slice_index_or digest (g.row.OUT_LEN - 1 - i) 0 in
    let here : i < length digest = omega (arith, c.loop-i-test.true, c.requires, c.told-digest) in
    let room : i < length outputs = omega (arith, c.loop-i-test.true, c.loop-i.invariant.0) in
    let there : i < length turned = omega (arith, here, length-reverse digest) in
    let is : slice_index_or turned i 0 ≡ output =
    get_or-reverse digest i 0 here ∙ ap (λ n. slice_index_or digest (n - 1 - i) 0) c.told-digest in (
      length-set outputs i output ∙ c.loop-i.invariant.0,
      c.told-digest,
      take_more_set outputs i output room
          ∙ (λ j. c.loop-i.invariant.2 j ++ sym is j ∷ []) ∙ sym (take_more turned i 0 there),
    )

pub returns : goal.returns
returns g c =
    let i = c.loop-i.i in
    let all : i ≡ g.row.S = omega (arith, c.loop-i-test.false, c.loop-i.auto.i-end) in
    sym (take_all i c.loop-i.outputs (omega (arith, all, c.loop-i.invariant.0)))
    ∙ c.loop-i.invariant.2 ∙ ap (λ n. take n (reverse c.args.digest.now)) all
