use Rattle.std.proofs.Common.{◌≡◌, map, rules}
use Rattle.p3_small_primes.specs.BabyBearResidues.{residues}
use Rattle.p3_poseidon2.specs.BabyBear16 as table
use Rattle.p3_poseidon2.specs.BabyBear16.{permutation}
use Rattle.p3_poseidon2.proofs.Steps.{same-constants}
use Rattle.p3_poseidon2.proofs.baby_bear_16.default_babybear_poseidon2_16.Goals as goal

pub returns : goal.returns
unfolding permutation
returns c =
    let p = c.new.result in
    let on_diagonal : p.diagonal ≡ map residues.of table.diagonal = search rules in
    let first : p.initial ≡ map (map residues.of) table.initial = search rules in
    let inner : p.internal ≡ map residues.of table.internal = search rules in
    let last : p.terminal ≡ map (map residues.of) table.terminal = search rules in
    same-constants residues 16 7 _ _ _ _ _ _ _ _ on_diagonal first inner last
