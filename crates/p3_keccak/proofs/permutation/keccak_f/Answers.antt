use Rattle.std.proofs.Common.{◌≡◌, ℕ, ◌+◌, ◌*◌, ap, arith, refl, sym, ◌∙◌}
use Rattle.p3_keccak.specs.Keccak.{round, rounds}
use Rattle.p3_keccak.proofs.Blocks.{rounds_next}
use Rattle.p3_keccak.proofs.permutation.keccak_f.Goals as goal

pub rounds-init : goal.rounds-init
unfolding rounds
rounds-init c = refl

pub rounds-preserved : goal.rounds-preserved
rounds-preserved c =
    let at : ℕ = 2 * c.rounds.pair in
    let next : 2 * (c.rounds.pair + 1) ≡ at + 1 + 1 = omega arith in
    rw (c.round-next.ensures, c.round-between.ensures, c.rounds.invariant)
    (sym (ap (rounds c.args.state) next ∙ rounds_next c.args.state (at + 1)
    ∙ ap (λ a. round a (at + 1)) (rounds_next c.args.state at)))

pub returns : goal.returns
returns c =
    let done : c.rounds.pair ≡ 12 = omega arith in
    rw done at c.rounds.invariant
