use Rattle.std.proofs.Common.{◌≡◌, drop}
use Rattle.uses.specs.OwnRounds.{permuted}
use Rattle.uses.proofs.own_rounds.RoundsCryptographicPermutationArrayBabyBear2.permute_mut.Given as goal

-- the rounds that are left make of the cells what all of them make of the first ones
abbrev pub invariant-loop-constant : goal.invariant-loop-constant
invariant-loop-constant l =
    permuted (drop l.constant-index l.fn.self.constants) l.state ≡ permuted l.fn.self.constants l.initial.state
