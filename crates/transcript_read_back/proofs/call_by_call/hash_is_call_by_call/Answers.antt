use Rattle.std.proofs.Common.{refl}
use Rattle.p3_challenger.specs.HashState.{function_of}
use Rattle.transcript_read_back.proofs.CallByCall.{hash-more}
use Rattle.transcript_read_back.proofs.call_by_call.hash_is_call_by_call.Goals as goal

pub returns : goal.returns
returns g c =
    let hasher = g.H.CryptographicHasher in
    record {
      fed_is = c.symbols_are_calls.ensures.fed;
      drawn_is = c.symbols_are_calls.ensures.drawn;
      none = λ s. refl;
      more = hash-more (function_of hasher.hash g.row.OUT_LEN hasher.filler);
    }
