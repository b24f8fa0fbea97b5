use Rattle.std.specs.List.{flat_map}
use Rattle.p3_symmetric.specs.Digests.{values_of}
use Rattle.p3_hash_challenger.{specs.HashState.function_of, proofs.Calls.{fed-is_calls, array-is_calls}}
use Rattle.p3_hash_challenger.proofs.hash_challenger.HashChallenger.observes_are_calls.Goals as goal

pub returns-clause-array : goal.returns-clause-array
returns-clause-array g c s xs =
    let hasher = g.H.CryptographicHasher in
    array-is_calls (function_of hasher.hash g.row.OUT_LEN hasher.filler) s xs

pub returns-clause-digest : goal.returns-clause-digest
returns-clause-digest g c s digest =
    let hasher = g.H.CryptographicHasher in
    fed-is_calls (function_of hasher.hash g.row.OUT_LEN hasher.filler) s (values_of digest)

pub returns-clause-cap : goal.returns-clause-cap
returns-clause-cap g c s cap =
    let hasher = g.H.CryptographicHasher in
    fed-is_calls (function_of hasher.hash g.row.OUT_LEN hasher.filler) s (flat_map (λ root. root) cap)

pub returns-clause-lists : goal.returns-clause-lists
returns-clause-lists g c s lists =
    let hasher = g.H.CryptographicHasher in
    fed-is_calls (function_of hasher.hash g.row.OUT_LEN hasher.filler) s (flat_map (λ list. list.items) lists.items)
