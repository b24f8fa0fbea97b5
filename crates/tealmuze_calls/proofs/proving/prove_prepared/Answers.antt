use Rattle.tealmuze_calls.proofs.BySuites.{of_suite}
use Rattle.tealmuze_calls.proofs.proving.prove_prepared.Goals as goal

pub returns-in-BabyBearBytes-clause-ok : goal.returns-in-BabyBearBytes-clause-ok
returns-in-BabyBearBytes-clause-ok c = rw c.in-BabyBearBytes.is (of_suite 0 _ _ c.prove_protocol.ensures.ok)

pub returns-in-BabyBearBytes-clause-err : goal.returns-in-BabyBearBytes-clause-err
returns-in-BabyBearBytes-clause-err c = rw c.in-BabyBearBytes.is (of_suite 0 _ _ c.prove_protocol.ensures.err)

pub returns-in-BabyBearElements-clause-ok : goal.returns-in-BabyBearElements-clause-ok
returns-in-BabyBearElements-clause-ok c = rw c.in-BabyBearElements.is (of_suite 1 _ _ c.prove_protocol-in-BabyBearElements.ensures.ok)

pub returns-in-BabyBearElements-clause-err : goal.returns-in-BabyBearElements-clause-err
returns-in-BabyBearElements-clause-err c = rw c.in-BabyBearElements.is (of_suite 1 _ _ c.prove_protocol-in-BabyBearElements.ensures.err)

pub returns-in-BabyBearBytesKeccak-clause-ok : goal.returns-in-BabyBearBytesKeccak-clause-ok
returns-in-BabyBearBytesKeccak-clause-ok c = rw c.in-BabyBearBytesKeccak.is (of_suite 2 _ _ c.prove_protocol-in-BabyBearBytesKeccak.ensures.ok)

pub returns-in-BabyBearBytesKeccak-clause-err : goal.returns-in-BabyBearBytesKeccak-clause-err
returns-in-BabyBearBytesKeccak-clause-err c = rw c.in-BabyBearBytesKeccak.is (of_suite 2 _ _ c.prove_protocol-in-BabyBearBytesKeccak.ensures.err)

pub returns-in-BabyBearElementsKeccak-clause-ok : goal.returns-in-BabyBearElementsKeccak-clause-ok
returns-in-BabyBearElementsKeccak-clause-ok c = rw c.in-BabyBearElementsKeccak.is (of_suite 3 _ _ c.prove_protocol-in-BabyBearElementsKeccak.ensures.ok)

pub returns-in-BabyBearElementsKeccak-clause-err : goal.returns-in-BabyBearElementsKeccak-clause-err
returns-in-BabyBearElementsKeccak-clause-err c = rw c.in-BabyBearElementsKeccak.is (of_suite 3 _ _ c.prove_protocol-in-BabyBearElementsKeccak.ensures.err)

pub returns-in-GoldilocksElements-clause-ok : goal.returns-in-GoldilocksElements-clause-ok
returns-in-GoldilocksElements-clause-ok c = rw c.in-GoldilocksElements.is (of_suite 4 _ _ c.prove_protocol-in-GoldilocksElements.ensures.ok)

pub returns-in-GoldilocksElements-clause-err : goal.returns-in-GoldilocksElements-clause-err
returns-in-GoldilocksElements-clause-err c = rw c.in-GoldilocksElements.is (of_suite 4 _ _ c.prove_protocol-in-GoldilocksElements.ensures.err)

pub returns-in-GoldilocksElementsKeccak-clause-ok : goal.returns-in-GoldilocksElementsKeccak-clause-ok
returns-in-GoldilocksElementsKeccak-clause-ok c = rw c.in-GoldilocksElementsKeccak.is (of_suite 5 _ _ c.prove_protocol-in-GoldilocksElementsKeccak.ensures.ok)

pub returns-in-GoldilocksElementsKeccak-clause-err : goal.returns-in-GoldilocksElementsKeccak-clause-err
returns-in-GoldilocksElementsKeccak-clause-err c = rw c.in-GoldilocksElementsKeccak.is (of_suite 5 _ _ c.prove_protocol-in-GoldilocksElementsKeccak.ensures.err)

pub returns-in-BabyBearPoseidon2-clause-ok : goal.returns-in-BabyBearPoseidon2-clause-ok
returns-in-BabyBearPoseidon2-clause-ok c = rw c.in-BabyBearPoseidon2.is (of_suite 6 _ _ c.prove_protocol-in-BabyBearPoseidon2.ensures.ok)

pub returns-in-BabyBearPoseidon2-clause-err : goal.returns-in-BabyBearPoseidon2-clause-err
returns-in-BabyBearPoseidon2-clause-err c = rw c.in-BabyBearPoseidon2.is (of_suite 6 _ _ c.prove_protocol-in-BabyBearPoseidon2.ensures.err)

pub returns-in-GoldilocksPoseidon2-clause-ok : goal.returns-in-GoldilocksPoseidon2-clause-ok
returns-in-GoldilocksPoseidon2-clause-ok c = rw c.in-GoldilocksPoseidon2.is (of_suite 7 _ _ c.prove_protocol-in-GoldilocksPoseidon2.ensures.ok)

pub returns-in-GoldilocksPoseidon2-clause-err : goal.returns-in-GoldilocksPoseidon2-clause-err
returns-in-GoldilocksPoseidon2-clause-err c = rw c.in-GoldilocksPoseidon2.is (of_suite 7 _ _ c.prove_protocol-in-GoldilocksPoseidon2.ensures.err)
