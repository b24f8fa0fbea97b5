use Rattle.std.proofs.Common.{◌≡◌, ◌++◌, length}
use Rattle.std.specs.List.{All, flat_map}
use Rattle.tealmuze_calls.specs.Descriptions.{HasForm, HasText, HasHeldParts, step_bytes}
use Rattle.tealmuze_calls.proofs.description.parse_steps.Given as goal

-- so many are read
abbrev pub invariant-loop-position : goal.invariant-loop-position
invariant-loop-position g l =
    let number = g.S.Field.PrimeCharacteristicRing.residues.number in
    let coefficients = g.S.Extension.BasedVectorSpace.coefficients in
    record {
      formed : All (HasForm number coefficients g.S.Called.opaque_numbers g.S.Called.are_opaque) l.steps.items;
      texts : All (HasText number coefficients g.S.Called.opaque_numbers) l.steps.items;
      held : All (HasHeldParts number coefficients g.S.Called.opaque_numbers) l.steps.items;
      so_far : l.initial.from.left.now
          ≡ flat_map (step_bytes number coefficients g.S.Called.opaque_numbers) l.steps.items ++ l.from.left.now;
      count : length l.steps.items ≡ l.position;
    }
