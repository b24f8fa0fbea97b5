-- A `Box<T>` over `Global`, in the words of the library's steps of boxes: its two types as a call passes them.
use mathlib.Core.Path.{refl}
use mathlib.Core.List.{[], ◌∷◌}
use mir.Raw.{raw}
use mir.Syntax.{impl, tnil, tcons, dnil}
use denote.Exit.{no}
use denote.Param.{arg, layout}
use denote.Param.Laws.{Laws, arg_laws}
use denote.RattleType.{RattleType}
use Rattle.std.proofs.BoxSteps.Form.{Bx}
use Rattle.std.specs.contracts.alloc.Global.{the_row as Global}
use Rattle.std.proofs.alloc.Global.TheLaws.{the_row_laws as handle_laws}
use Rattle.std.specs.contracts.impls.GlobalAllocator.TheImpl.{ghosts, dict}
use Rattle.tealmuze_c.specs.contracts.Destruct++none.drop.Key.{symbol as no_drop}

abbrev pub over_heap : (X : RattleType) → Laws X → Bx
over_heap X L = record {
  row = X;
  laws = L;
  al = record {
    row = arg (raw (layout Global)) no Global;
    laws = arg_laws (raw (layout Global)) no Global handle_laws refl;
    g = ghosts;
    d = dict;
    drops = impl (no_drop ∷ []) (tcons (raw (layout Global)) tnil) dnil;
  };
}
