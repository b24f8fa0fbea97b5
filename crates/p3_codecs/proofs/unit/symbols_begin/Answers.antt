use Rattle.p3_fs_core.specs.AlphabetLaws.{symbols-begin, after_equal}
use Rattle.p3_codecs.proofs.unit.symbols_begin.Goals as goal

pub returns : goal.returns
returns g c = λ prefix_code a b x y a_are b_are a_fits b_fits e.
    let unit = g.U.Unit in
    let symbols = g.C.CanObserve.observation.symbols in (
      symbols-begin unit.is_item unit.items symbols prefix_code g.met.U.Unit.items_are a b x y a_are b_are
          (λ r s h. g.met.U.Unit.begins c.requires a b r s a_are b_are a_fits b_fits h) e,
      after_equal unit.items symbols a b x y e,
    )
