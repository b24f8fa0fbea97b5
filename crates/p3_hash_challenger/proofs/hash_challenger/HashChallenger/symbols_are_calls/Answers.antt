use Rattle.p3_hash_challenger.{specs.HashState.function_of, proofs.Calls.{fed-is_calls, steps-are_calls}}
use Rattle.p3_hash_challenger.proofs.hash_challenger.HashChallenger.symbols_are_calls.Goals as goal

pub returns-clause-fed : goal.returns-clause-fed
returns-clause-fed g c s symbols =
    let hasher = g.H.CryptographicHasher in
    fed-is_calls (function_of hasher.hash g.row.OUT_LEN hasher.filler) s symbols

pub returns-clause-drawn : goal.returns-clause-drawn
returns-clause-drawn g c n s =
    let hasher = g.H.CryptographicHasher in
    steps-are_calls (function_of hasher.hash g.row.OUT_LEN hasher.filler) n s
