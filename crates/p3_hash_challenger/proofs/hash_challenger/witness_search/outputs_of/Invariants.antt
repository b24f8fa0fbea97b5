use Rattle.std.proofs.Common.{◌≡◌, length, take, reverse}
use Rattle.p3_hash_challenger.proofs.hash_challenger.witness_search.outputs_of.Given as goal

-- the outputs so far are the last places of the digest
abbrev pub invariant-loop-i : goal.invariant-loop-i
invariant-loop-i g l =
    (length l.outputs ≡ g.row.S)
    × (length l.digest ≡ g.row.OUT_LEN)
    × (take l.i l.outputs ≡ take l.i (reverse l.digest))
