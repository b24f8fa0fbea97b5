use Rattle.std.proofs.Common.{◌≡◌, ◌++◌, length}
use Rattle.std.specs.List.{All, flat_map}
use Rattle.p3_challenger.specs.Scripts.{values_sent}
use Rattle.tealmuze_calls.specs.{Forms.value_bytes, Told.IsSendable}
use Rattle.tealmuze_calls.proofs.values.parse_values.Given as goal

-- so many are read
abbrev pub invariant-loop-read : goal.invariant-loop-read
invariant-loop-read g l =
    record {
      so_far : l.initial.from.left.now ≡ flat_map (value_bytes g.S.Field.PrimeCharacteristicRing.residues.number
          g.S.Extension.BasedVectorSpace.coefficients) (values_sent l.sent.items) ++ l.from.left.now;
      count : length l.sent.items ≡ l.read;
      held : All IsSendable (values_sent l.sent.items);
    }
