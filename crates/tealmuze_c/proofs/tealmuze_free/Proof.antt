-- `tealmuze_free` meets its contract: the box is made of what the caller owned, and `free` lets it go.
use Rattle.std.proofs.Common.{List, [], ◌∷◌, ◌++◌, refl, sym, ap, subst}
use Rattle.std.proofs.raw_atomic.Walks.{proved_at}
use Rattle.std.proofs.cell.Inside.{one}
use lib.Dec.{T}
use base.Fraction.{full_share}
use base.Logic.{ent, emp, id⊢}
use base.Fml.{ftrue, flft}
use mir.Raw.{raw as bare}
use mir.Val.{Val, vptr, vunit, has_ty, WT}
use prog.Wp.{WpFn}
use contract.BorrowLft.{◌⊑◌, ⊑_static}
use contract.Monad.{fact, fact_i}
use contract.Running.{tables}
use types.Kit.{‵, raw, ◌⊛◌, some, later, prop, ◌$◌, ◌∵◌, !, qed, done, move, keep, drop, use0, use1, split, join, feq_i, feq_l, pick, await, regoal, rewrite, suffices, group}
use types.Run.{enter, of_opd, unit_lit, no_more, and_then, returns}
use types.ByLocal.{alloc_all, pass_all, free_all, look_at, get, sets, lands_as}
use types.Tokens.{lft_new}
use denote.Builtin.{unit}
use denote.Exit.{yes, no}
use denote.Param.{arg, layout}
use denote.Param.Laws.{arg_laws}
use denote.RawPtr.{Ptr, RawPtr, block_ptr, in_a_block, rawptr_vals}
use denote.Signature.{plain}
use denote.Steps.{nothing, only}
use denote.Triple.Call.{calls_at}
use denote.Triple.Clauses.{Lasts, lasts}
use denote.Triple.Entry.{Vals}
use denote.Triple.Spec.{triple_of}
use denote.Triple.Table.{framed}
use denote.Triple.Walked.{Stays, walk_of, stay_dropped, Goes-dropped, ends_at}
use Rattle.std.proofs.BoxSteps.Form.{Bx, D, B, box_ty, box_typed}
use Rattle.std.proofs.BoxSteps.Steps.{box_out, box_in}
use Rattle.std.specs.contracts.alloc.Global.{the_row as Global}
use Rattle.std.proofs.alloc.Global.TheLaws.{the_row_laws as handle_laws}
use Rattle.std.proofs.impls.GlobalAllocator.TheImpl.Met.{passed}
use Rattle.std.specs.contracts.boxed.Box.from_raw as from
use Rattle.std.proofs.boxed.Box.from_raw.Met as from_met
use Rattle.tealmuze_c.proofs.Destruct++none.drop.Symbol.{glues}
use Rattle.tealmuze_live.specs.contracts.live.Live.{the_row as R}
use Rattle.std.specs.Box.Ownership.{box_owns}
use Rattle.std.specs.contracts.impls.GlobalAllocator.TheImpl.{ghosts}
use Rattle.tealmuze_c.specs.Owned.{is_owned_at}
use Rattle.tealmuze_c.proofs.Owned.{none_at_null, owned_box}
use Rattle.tealmuze_c.proofs.Boxed.{over_heap}
use Rattle.tealmuze_live.proofs.live.Live.TheLaws.{the_row_laws as state_laws}
use Rattle.tealmuze_c.specs.contracts.tealmuze_free as f
use Rattle.tealmuze_c.proofs.tealmuze_free.Statement.{statement}
use Rattle.tealmuze_c.proofs.tealmuze_free.Code as code
use Rattle.tealmuze_c.proofs.tealmuze_free.Code.{calls-tealmuze_c::free as calls, calls-tealmuze_c::Destruct++none::drop as no_drop}
use Rattle.tealmuze_c.specs.contracts.free as g
use Rattle.tealmuze_c.proofs.free.Met.{met}

abbrev stayed : Stays f.ended.signature.params f.ended.kept
stayed = (stay_dropped (plain (λ _. Global)) yes, (stay_dropped (plain (λ _. RawPtr)) yes, tt))

pub tealmuze_free_spec : {M : Type 1} → statement M
tealmuze_free_spec {M} 𝓤 𝓛 𝓜 𝓡 wired =
    let c = f.clauses 𝓛 𝓜.mem 𝓡.returns in let W = walk_of 𝓛 f.ended stayed c in let 𝓣 = tables 𝓤 𝓛.H 𝓜 𝓡 𝓡.env in
    let E : Bx = over_heap (arg (bare (layout R)) no R) (arg_laws (bare (layout R)) no R state_laws refl) in let al = E.al in
    proved_at 𝓛 f.ended stayed c 𝓜 𝓡 (
      Goes-dropped 𝓛 0 (plain (λ _. Global)) yes (λ κs x w. refl),
      (
        Goes-dropped 𝓛 0 (plain (λ _. RawPtr)) yes (λ κs x w. refl),
        tt,
      ),
    )
    f.Key.name code.function (code.unfolded 𝓤 𝓛.H 𝓜 𝓡 wired)
    (λ x are.
    let κs = x.0.0 in let qs = x.0.1 in let bounds = x.0.2 in let a = x.0.3 in let v = x.1 in
    let one-handle = one (layout Global) x.0.4.0 ((handle_laws.lawful 𝓛).typed a.0 x.0.4.0 are.0) in let h : Val = one-handle.0 in
    let at : Vals f.ended.signature κs → W.Ghost = λ vss. ((κs, qs, bounds, a, vss), v) in
    let y : Ptr → W.Ghost = λ p. ((κs, qs, bounds, (a.0, (p, tt)), (h ∷ [], (rawptr_vals p, tt))), v) in
    subst (λ (vss : Vals f.ended.signature κs). ent 𝓤 (W.pre (at vss)) (WpFn 𝓤 𝓛.H 𝓣.C 𝓣.Λ code.function (W.args (at vss)) (W.post (at vss))))
    (λ i. (sym one-handle.1 i, (sym are.1.0 i, tt))) (
    qed 𝓛 ((‵ ftrue ⊛ ‵ (Global.own_val a.0 (h ∷ [])) ⊛ ‵ (RawPtr.own_val a.1.0 (rawptr_vals a.1.0)) ⊛ ‵ ftrue) ∷ ‵ (is_owned_at R a.1.0 v) ∷ []) ∵
    split ! $ move ! (1 ∷ []) $ split ! $ keep ! (3 ∷ 0 ∷ []) $
    -- [what is owned; the handle]
    in_a_block ! a.1.0 (λ p. is_owned_at R p v) (none_at_null 𝓛 R v) (λ b o e.
    regoal ! (λ p. prop (WpFn 𝓤 𝓛.H 𝓣.C 𝓣.Λ code.function (h ∷ (rawptr_vals p ++ [])) (W.post (y p)))) e refl $
    enter ! _ _ _ _ _ $
    alloc_all ! (λ l. pass_all ! refl (one-handle.2, ((tt, tt), tt)) $
    -- transcript as *mut Live
    sets ! (of_opd ! (get ! refl)) refl (tt, tt) $
    -- a lifetime for each of the box's types
    lft_new ! tt (λ α. lft_new ! tt (λ β.
    let K = triple_of 𝓛 (from.signature E.row al.row al.g al.d al.drops) (from.spec E.row al.row al.g al.d al.drops 𝓛 𝓜.mem 𝓡.returns) in
    let k : K.Ghost = (((α ∷ [], (β ∷ [], tt)), (full_share, (full_share, tt)), tt, (a.0, (block_ptr b o, tt)), (h ∷ [], (vptr b o ∷ [], tt))), v) in
    -- [the token of β; of α; what is owned; the handle]
    move ! (2 ∷ []) $ use1 𝓛 (‵ (box_owns (ghosts.dealloc_token a.0) R (block_ptr b o) v)) (owned_box 𝓛 R a.0 (block_ptr b o) v) $
    use0 𝓛 (raw (fact 𝓤 ((β ∷ []) ⊑ Global.lives))) (fact_i 𝓤 _ (emp 𝓤) (⊑_static (β ∷ []))) $ join ! $
    use0 𝓛 (raw (fact 𝓤 ((α ∷ []) ⊑ R.lives))) (fact_i 𝓤 _ (emp 𝓤) (⊑_static (α ∷ []))) $ join ! $
    -- [what is required; the tokens of β and of α; the handle]
    nothing ! $ feq_i ! (List Val) (vptr b o ∷ []) (vptr b o ∷ []) refl $ join ! $ move ! (4 ∷ 0 ∷ []) $ join ! $
    nothing ! $ move ! (3 ∷ 0 ∷ []) $ join ! $ move ! (3 ∷ 0 ∷ []) $ join ! $ join ! $ join ! $ use1 𝓛 (raw (K.pre k)) (id⊢ 𝓤 _) $
    calls_at ! (framed 𝓤 𝓛.H 𝓜 𝓣) K
    (from_met.met 𝓤 𝓛 𝓜 𝓡 (code.calls-std_alloc::boxed::Box::from_raw 𝓡.env wired) E.row al.row E.laws al.laws al.g al.d al.drops
    (passed 𝓡.env (code.calls-std_heap::GlobalAllocator::allocate 𝓡.env wired) (code.calls-std_heap::GlobalAllocator::deallocate 𝓡.env wired) (code.calls-std_heap::GlobalAllocator::grow 𝓡.env wired) (code.calls-std_heap::GlobalAllocator::shrink 𝓡.env wired) M 𝓤 𝓛 𝓜 𝓡)
    (glues 𝓡.env (no_drop 𝓡.env wired) al.row al.laws M 𝓤 𝓛 𝓜 𝓡))
    k (and_then ! (get ! refl) (and_then ! (get ! refl) (no_more !))) (λ u.
    use1 𝓛 (later (some (λ (it : D E). ((‵ (flft (α ∷ []) full_share) ⊛ ‵ (flft (β ∷ []) full_share) ⊛ ‵ ftrue) ⊛ ‵ ((B E).own_val it (u ∷ []))) ⊛
    some (λ (xs : Lasts (from.ended E.row al.row al.g al.d al.drops) k.0.0 k.0.3). ‵ (lasts (from.ended E.row al.row al.g al.d al.drops) k.0.0 k.0.3 xs) ⊛ raw (fact 𝓤 _) ⊛ raw (fact 𝓤 _))))) (id⊢ 𝓤 _) $
    await ! tt $ pick ! (λ it. split ! $ split ! $ drop ! $ move ! (1 ∷ []) $ drop ! $
    -- [the box]
    box_out E ! it (u ∷ []) (λ b' o' h' e' is fits. box_in E ! it b' o' it.value e' refl $ rewrite ! 0 (λ (us : List Val). ‵ ((B E).own_val it us)) (sym is) refl $
    let typed : T (has_ty (box_ty E) u) × WT u = subst (λ (w : Val). T (has_ty (box_ty E) w) × WT w) (sym (ap only is)) (box_typed E h' b' o' fits) in
    lands_as ! refl refl typed $
    let G = triple_of 𝓛 g.signature (g.spec 𝓛 𝓜.mem 𝓡.returns) in
    let z : G.Ghost = ((tt, tt, tt, (it, tt), (u ∷ [], tt)), tt) in
    nothing ! $ move ! (1 ∷ 0 ∷ []) $ join ! $ nothing ! $ join ! $ nothing ! $ move ! (1 ∷ 0 ∷ []) $ join ! $ use1 𝓛 (raw (G.pre z)) (id⊢ 𝓤 _) $
    calls_at ! (framed 𝓤 𝓛.H 𝓜 𝓣) G (met 𝓤 𝓛 𝓜 𝓡 (calls 𝓡.env wired)) z
    (and_then ! (get ! refl) (no_more !)) (λ r.
    use1 𝓛 (later (some (λ (n : Unit {0}). (‵ ftrue ⊛ ‵ (unit.own_val n (r ∷ []))) ⊛
    some (λ (xs : Lasts g.ended z.0.0 z.0.3). ‵ (lasts g.ended z.0.0 z.0.3 xs) ⊛ ‵ ftrue)))) (id⊢ 𝓤 _) $
    await ! tt $ pick ! (λ n. split ! $ split ! $ drop ! $ feq_l ! (λ is_unit. drop ! $
    lands_as ! (ap only is_unit) refl (tt, tt) $
    sets ! (of_opd ! (unit_lit !)) refl (tt, tt) $
    returns ! (look_at ! 0 refl) $ free_all ! refl $
    suffices ! _ (ends_at 𝓛 f.ended stayed c (y (block_ptr b o)) vunit tt (tt, (tt, tt)) (tt, (tt, tt))) $
    nothing ! $ feq_i ! _ (vunit ∷ []) _ refl $ nothing ! $ nothing ! $ join ! $ nothing ! $ join ! $ nothing ! $ group ! 3 $ done !))))))))))))
