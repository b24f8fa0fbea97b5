use Rattle.std.proofs.Common.{refl}
use Rattle.transcript_read_back.proofs.CallByCall.{duplex-more}
use Rattle.transcript_read_back.proofs.call_by_call.duplex_is_call_by_call.Goals as goal

pub returns : goal.returns
returns g c =
    record {
      fed_is = c.symbols_are_calls.ensures.fed;
      drawn_is = c.symbols_are_calls.ensures.drawn;
      none = λ s. refl;
      more = duplex-more g.F.PrimeCharacteristicRing.residues g.P.CryptographicPermutation.permutation g.row.RATE;
    }
