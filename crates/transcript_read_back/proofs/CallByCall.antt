-- A duplex challenger and a hash challenger are call by call.
use Rattle.std.proofs.Common.{◌≡◌, ℕ, List, ◌++◌, ap}
use Rattle.p3_challenger.specs.{DuplexState.DuplexState, CallRowLaws.run_calls-append, DuplexCalls.duplex_by_calls}
use Rattle.p3_challenger.specs.{HashState.HashState, Segments.Call, HashCalls.{HashFunction, hash_by_calls}}
use Rattle.p3_field.specs.Residues.{Residues}
use Rattle.transcript_read_back.specs.CallByCall.{after_calls, duplex_run, hash_run}

pub duplex-more : {F P : Type 0} (r : Residues F) (permute : P → List F → List F) (rate : ℕ) (c : DuplexState F P)
    (calls others : List (Call F)) →
    after_calls (duplex_run r permute rate) c (calls ++ others)
    ≡ after_calls (duplex_run r permute rate) (after_calls (duplex_run r permute rate) c calls) others
duplex-more r permute rate c calls others =
    ap (λ run. record c { sponge = run.after })
    (run_calls-append (duplex_by_calls r (permute c.permutation) rate) c.sponge calls others)

pub hash-more : {T H : Type 0} (function : H → HashFunction T) (s : HashState T H) (calls others : List (Call T)) →
    after_calls (hash_run function) s (calls ++ others)
    ≡ after_calls (hash_run function) (after_calls (hash_run function) s calls) others
hash-more function s calls others =
    ap (λ run. record s { sponge = run.after })
    (run_calls-append (hash_by_calls (function s.hasher)) s.sponge calls others)
