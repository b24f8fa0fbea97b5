-- `none` hands nothing out.
use Rattle.std.proofs.Common.{[], ◌∷◌, refl, w64, None}
use Rattle.std.proofs.raw_atomic.Walks.{proved}
use mir.Syntax.{a_type, dcons, dnil}
use mir.MapTy.{inst_fn}
use contract.Running.{tables}
use types.Kit.{‵, raw, ◌⊛◌, ◌$◌, ◌∵◌, !, qed, done, move, keep, split, fjoin, suffices}
use types.Part.{agg}
use types.Run.{enter, no_more, and_then, returns}
use types.ByLocal.{alloc_all, pass_all, free_all, look_at, get, sets}
use denote.Builtin.{usize}
use denote.Exit.{yes}
use denote.Param.{bounded, param}
use denote.Plain.{uint_Makes, uint_vals, uint_Tells}
use denote.RattleType.{owns}
use denote.RawPtr.{null_ptr}
use denote.Signature.{plain, types_at}
use denote.Steps.{nothing, owned}
use denote.Triple.Entry.{alive}
use denote.Triple.Walked.{Stays, says, walk_of, stay_dropped, Goes-dropped, ends_at}
use Rattle.tealmuze_c.proofs.Handing.{handed_val, handed_of, handed_in}
use Rattle.tealmuze_c.specs.contracts.handed.Handed.none as f
use Rattle.tealmuze_c.proofs.handed.Handed.none.Statement.{statement}
use Rattle.tealmuze_c.proofs.handed.Handed.none.Code as code

pub none_spec : {M : Type 1} → statement M
none_spec 𝓤 𝓛 𝓜 𝓡 wired X L drops glue =
    let 𝓣 = tables 𝓤 𝓛.H 𝓜 𝓡 𝓡.env in let R = param 0 X in let En = f.ended X drops in let c = f.clauses X drops 𝓛 𝓜.mem 𝓡.returns in
    let args = bounded (a_type ∷ []) (X, tt) (dcons drops dnil) in let fn = inst_fn args code.function in
    let hs : Stays En.signature.params En.kept = (stay_dropped (plain (λ _. usize)) yes, tt) in
    proved 𝓛 En hs c 𝓜 𝓡 (Goes-dropped 𝓛 1 (plain (λ _. usize)) yes (λ κs x w. refl), tt)
    (f.Key.name args) fn (code.unfolded 𝓤 𝓛.H 𝓜 𝓡 wired (X, tt) drops)
    (λ κs. (uint_vals w64, tt)) (λ κs. (uint_Tells w64, tt)) (λ κs qs bounds a g are.
    let n = a.0 in let y : (walk_of 𝓛 En hs c).Ghost = ((κs, qs, bounds, a, (uint_vals w64 n, tt)), g) in
    qed 𝓛 ((raw (alive 𝓛 En.signature κs qs) ⊛ ‵ (owns (types_at En.signature.params κs) a y.0.4)) ∷ raw ((c κs a).requires g) ∷ []) ∵
    split ! $ keep ! (0 ∷ []) $
    enter ! _ _ _ _ _ $ alloc_all ! (λ l. pass_all ! refl ((tt, record { fits = are.0.1 }), tt) $
    sets ! (agg ! (no_more !)) refl (tt, tt) $
    sets ! (agg ! (and_then ! (get ! refl) (and_then ! (get ! refl) (no_more !)))) refl (tt, (record { fits = are.0.1 }, (tt, tt))) $
    owned ! usize _ (uint_Makes 𝓛 w64) n _ (refl, are.0.1) $ nothing ! $ handed_in R ! n null_ptr None $
    returns ! (look_at ! 0 refl) $ free_all ! refl $
    suffices ! _ (ends_at 𝓛 En hs c y (handed_val n) (handed_of R n null_ptr None) (tt, tt) (tt, tt)) $ says ! (refl, refl) $
    nothing ! $ nothing ! $ fjoin ! $ move ! (2 ∷ 0 ∷ 1 ∷ []) $ done !))
