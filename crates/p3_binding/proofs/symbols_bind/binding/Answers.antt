use Rattle.std.proofs.Common.{refl, sym, append-nil}
use Rattle.p3_binding.proofs.{Bound.symbols-bind, Lawful.Lawful, Scripts.step-told, Uninfluenced.script-hints}
use Rattle.p3_binding.proofs.symbols_bind.binding.Goals as goal

pub returns-clause-equal_symbols_bind : goal.returns-clause-equal_symbols_bind
returns-clause-equal_symbols_bind g c =
    let laws : Lawful _ = record {
      begins = c.symbols_begin.ensures c.requires.items;
      short = g.met.S.Unit.Unit.short_fits g.met.S.Suite.alphabet;
      coefficients = (g.met.S.Codec.Codec.symbols_are_prefix_code c.requires.values).prefix_code;
      scalar = record {
        feeds = λ x. sym (append-nil (g.S.Codec.Codec.observation.symbols x));
        places = λ x. sym g.met.S.Field.ScalarField.one_coefficient;
      };
      extension = record { feeds = λ x. refl; places = g.met.S.Extension.BasedVectorSpace.length_coefficients };
      opaque = c.requires.opaque;
      witness = λ there. (g.met.S.Group.StepGroup.witnesses_prefix_free there).prefix_code;
      counts = c.counts_are_told.ensures.told;
    } in
    symbols-bind _ _ laws (step-told _ laws) record {
      parts = c.separators_have_seeds.ensures.parts;
      bytes = c.separators_have_seeds.ensures.bytes;
      seeds = c.seeds_are_prefix_code.ensures;
      identifiers = c.identifiers_are_injective.ensures;
      labels = c.labels_are_injective.ensures;
      patterns = c.equal_renderings_are_equal_patterns.ensures.patterns;
    }

pub returns-clause-hints_do_not_influence : goal.returns-clause-hints_do_not_influence
returns-clause-hints_do_not_influence g c = script-hints _ _ _ _ _ _ _ _ _ _
