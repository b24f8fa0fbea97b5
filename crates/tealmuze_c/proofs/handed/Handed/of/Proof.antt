-- `of` hands out what a box owned.
use Rattle.std.proofs.Common.{List, [], ◌∷◌, ◌++◌, refl, sym, ap, ◌∙◌, subst, w64, MutBor, Some}
use Rattle.std.proofs.raw_atomic.Walks.{proved_at}
use base.Fraction.{full_share}
use base.Logic.{ent, emp, id⊢}
use base.Fml.{ftrue, flft}
use mir.Syntax.{Fn, a_type, dcons, dnil, named}
use mir.MapTy.{inst_fn}
use mir.Val.{Val, vptr}
use prog.Wp.{WpFn}
use contract.BorrowLft.{◌⊑◌, ⊑_static}
use contract.Monad.{fact, fact_i}
use contract.Running.{tables}
use types.Kit.{‵, raw, ◌⊛◌, some, later, prop, ◌$◌, ◌∵◌, !, qed, done, move, keep, drop, use0, use1, split, join, fsplit3, fjoin, fjoin3, feq_i, feq_l, pick, await, regoal, rewrite, suffices}
use types.Part.{agg}
use types.Run.{enter, of_opd, store, stop, no_more, and_then, assigns, returns}
use types.ByLocal.{alloc_all, pass_all, free_all, look_at, get, through, sets, lands_as}
use types.Tokens.{lft_new}
use denote.Builtin.{usize}
use denote.Exit.{yes, no}
use denote.Memory.{cell_at}
use denote.Param.{bounded, param}
use denote.Plain.{uint_Makes, uint_vals}
use denote.RattleType.{RattleType}
use denote.RawPtr.{Ptr, RawPtr, block_ptr, ptr_val, in_a_block}
use denote.Ref.{MutRef, mut_vals}
use denote.Signature.{plain}
use denote.Steps.{nothing, owned, opens, closes, heard, only}
use denote.Triple.Call.{calls_at}
use denote.Triple.Clauses.{Lasts, lasts}
use denote.Triple.Entry.{Vals}
use denote.Triple.Spec.{triple_of}
use denote.Triple.Table.{framed}
use denote.Triple.Walked.{Stays, says, walk_of, stay_dropped, stay_ref, Goes-dropped, Goes-ref, ends_at}
use Rattle.std.proofs.BoxSteps.Form.{Bx, word, box_typed}
use Rattle.std.proofs.BoxSteps.Steps.{box_out, box_in}
use Rattle.std.specs.contracts.alloc.Global.{the_row as Global}
use Rattle.std.specs.contracts.boxed.Box as boxed
use Rattle.std.specs.contracts.impls.GlobalAllocator.TheImpl.{ghosts}
use Rattle.std.proofs.impls.GlobalAllocator.TheImpl.Met.{passed}
use Rattle.std.specs.contracts.boxed.Box.into_raw as into
use Rattle.std.proofs.boxed.Box.into_raw.Met as into_met
use Rattle.tealmuze_c.proofs.Destruct++none.drop.Symbol.{glues}
use Rattle.std.specs.Box.Ownership.{box_owns}
use Rattle.tealmuze_c.specs.Owned.{is_owned_at}
use Rattle.tealmuze_c.proofs.{Boxed.over_heap, Owned.{none_at_null, box_owned}}
use Rattle.tealmuze_c.proofs.Handing.{handed_val, handed_of, handed_in}
use Rattle.tealmuze_c.specs.contracts.handed.Handed.of as f
use Rattle.tealmuze_c.proofs.handed.Handed.of.Statement.{statement}
use Rattle.tealmuze_c.proofs.handed.Handed.of.Code as code
use Rattle.tealmuze_c.proofs.handed.Handed.of.Code.{calls-tealmuze_c::Destruct++none::drop as no_drop}

pub of_spec : {M : Type 1} → statement M
of_spec {M} 𝓤 𝓛 𝓜 𝓡 wired X L drops glue =
    let 𝓣 = tables 𝓤 𝓛.H 𝓜 𝓡 𝓡.env in let R = param 0 X in let En = f.ended X drops in let c = f.clauses X drops 𝓛 𝓜.mem 𝓡.returns in
    let args = bounded (a_type ∷ []) (X, tt) (dcons drops dnil) in let fn : Fn = inst_fn args code.function in
    let E : Bx = over_heap X L in let al = E.al in let Boxed : RattleType = boxed.the_row R Global ghosts in
    let hs : Stays En.signature.params En.kept = (stay_dropped (plain (λ _. Boxed)) no, (stay_ref (0 ∷ []) tt (plain (λ _. RawPtr)), (stay_dropped (plain (λ _. usize)) yes, tt))) in
    let W = walk_of 𝓛 En hs c in
    proved_at 𝓛 En hs c 𝓜 𝓡 (
      Goes-dropped 𝓛 2 (plain (λ _. Boxed)) no (λ κs x w. refl),
      (
        Goes-ref 𝓛 2 0 tt (plain (λ _. RawPtr)),
        (
          Goes-dropped 𝓛 2 (plain (λ _. usize)) yes (λ κs x w. refl),
          tt,
        ),
      ),
    )
    (f.Key.name args) fn (code.unfolded 𝓤 𝓛.H 𝓜 𝓡 wired (X, tt) drops)
    (λ x are.
    let κs = x.0.0 in let qs = x.0.1 in let bounds = x.0.2 in let a = x.0.3 in let g = x.1 in
    let v = a.0 in let at : MutBor Ptr = a.1.0 in let n = a.1.1.0 in let vs = x.0.4.0 in let ps : List Val = mut_vals at in let ns : List Val = uint_vals w64 n in
    let at_b = at.ref_ptr.0 in let at_o = at.ref_ptr.1 in
    let with : Vals En.signature κs → W.Ghost = λ vss. ((κs, qs, bounds, a, vss), g) in
    let y : W.Ghost = with (vs, (ps, (ns, tt))) in
    subst (λ (vss : Vals En.signature κs). ent 𝓤 (W.pre (with vss)) (WpFn 𝓤 𝓛.H 𝓣.C 𝓣.Λ fn (W.args (with vss)) (W.post (with vss))))
    (λ i. (vs, (sym are.1.0.0 i, (sym are.1.1.0.0 i, tt)))) (
    qed 𝓛 (((‵ (flft κs.0 qs.0) ⊛ ‵ (flft κs.1.0 qs.1.0) ⊛ ‵ ftrue) ⊛ ‵ (Boxed.own_val v vs) ⊛ ‵ ((MutRef (named 0) κs.0 RawPtr).own_val at ps) ⊛ ‵ (usize.own_val n ns) ⊛ ‵ ftrue)
    ∷ (raw (fact 𝓤 (κs.1.0 ⊑ X.lives)) ⊛ ‵ ftrue) ∷ []) ∵
    move ! (1 ∷ []) $ split ! $ heard ! _ (λ within. drop ! $ split ! $ split ! $ move ! (1 ∷ []) $ split ! $
    -- [the token of T; nothing; that of the pointer; the parameters]
    move ! (3 ∷ []) $ split ! $ move ! (1 ∷ []) $ split ! $ keep ! (2 ∷ 0 ∷ 3 ∷ 5 ∷ []) $
    -- [the box; the pointer; the tokens of T and of the pointer]
    box_out E ! v vs (λ b o h e is fits. box_in E ! v b o v.value e refl $
    let w : Val = word E h b o in
    regoal ! (λ us. prop (WpFn 𝓤 𝓛.H 𝓣.C 𝓣.Λ fn (us ++ (ps ++ (ns ++ []))) (W.post y))) is refl $
    enter ! _ _ _ _ _ $
    alloc_all ! (λ l. pass_all ! refl (box_typed E h b o fits, ((tt, tt), ((tt, record { fits = are.1.1.0.1 }), tt))) $
    sets ! (of_opd ! (get ! refl)) refl (box_typed E h b o fits) $
    lft_new ! tt (λ β.
    let K = triple_of 𝓛 (into.signature X al.row al.g al.d al.drops drops) (into.spec X al.row al.g al.d al.drops drops 𝓛 𝓜.mem 𝓡.returns) in
    let k : K.Ghost = (((κs.1.0, (β ∷ [], tt)), (qs.1.0, (full_share, tt)), tt, (v, tt), (w ∷ [], tt)), tt) in
    nothing ! $ use0 𝓛 (raw (fact 𝓤 ((β ∷ []) ⊑ Global.lives))) (fact_i 𝓤 _ (emp 𝓤) (⊑_static (β ∷ []))) $ join ! $
    use0 𝓛 (raw (fact 𝓤 (κs.1.0 ⊑ X.lives))) (fact_i 𝓤 _ (emp 𝓤) within) $ join ! $
    -- [what is required; the token of β; the box; the pointer; the tokens of T and of the pointer]
    nothing ! $ move ! (3 ∷ 0 ∷ []) $ join ! $ nothing ! $ move ! (3 ∷ 0 ∷ []) $ join ! $ move ! (4 ∷ 0 ∷ []) $ join ! $ join ! $ join ! $ use1 𝓛 (raw (K.pre k)) (id⊢ 𝓤 _) $
    calls_at ! (framed 𝓤 𝓛.H 𝓜 𝓣) K
    (into_met.met 𝓤 𝓛 𝓜 𝓡 (code.calls-std_alloc::boxed::Box::into_raw 𝓡.env wired) X al.row E.laws al.laws al.g al.d al.drops drops
    (passed 𝓡.env (code.calls-std_heap::GlobalAllocator::allocate 𝓡.env wired) (code.calls-std_heap::GlobalAllocator::deallocate 𝓡.env wired) (code.calls-std_heap::GlobalAllocator::grow 𝓡.env wired) (code.calls-std_heap::GlobalAllocator::shrink 𝓡.env wired) M 𝓤 𝓛 𝓜 𝓡)
    (glues 𝓡.env (no_drop 𝓡.env wired) al.row al.laws M 𝓤 𝓛 𝓜 𝓡) glue)
    k (and_then ! (get ! refl) (no_more !)) (λ u.
    use1 𝓛 (later (some (λ (p : Ptr). ((‵ (flft κs.1.0 qs.1.0) ⊛ ‵ (flft (β ∷ []) full_share) ⊛ ‵ ftrue) ⊛ ‵ (RawPtr.own_val p (u ∷ []))) ⊛
    some (λ (xs : Lasts (into.ended X al.row al.g al.d al.drops drops) k.0.0 k.0.3). ‵ (lasts (into.ended X al.row al.g al.d al.drops drops) k.0.0 k.0.3 xs) ⊛ ‵ (box_owns (ghosts.dealloc_token v.alloc) R p v.value))))) (id⊢ 𝓤 _) $
    await ! tt $ pick ! (λ p. split ! $ split ! $ move ! (2 ∷ []) $ pick ! (λ xs. split ! $ drop ! $ use1 𝓛 (‵ (is_owned_at R p v.value)) (box_owned 𝓛 R v.alloc p v.value) $
    -- [what is owned; the tokens; the raw pointer; the pointer; the token of the pointer]
    in_a_block ! p (λ q. is_owned_at R q v.value) (none_at_null 𝓛 R v.value) (λ b' o' e'.
    move ! (2 ∷ []) $ feq_l ! (λ is_p. lands_as ! (ap only is_p ∙ ap ptr_val e') refl (tt, tt) $
    sets ! (of_opd ! (get ! refl)) refl (tt, tt) $
    move ! (1 ∷ []) $ split ! $ move ! (1 ∷ []) $ drop ! $ move ! (2 ∷ []) $
    -- [the pointer; the token of T; what is owned; the token of the pointer]
    fsplit3 ! $ move ! (1 ∷ 2 ∷ 5 ∷ []) $ opens ! tt RawPtr at_b at_o (λ us. move ! (1 ∷ []) $ feq_l ! (λ was.
    rewrite ! 0 (λ (rs : List Val). ‵ (cell_at full_share RawPtr.mir rs at_b at_o)) was refl $
    assigns ! (of_opd ! (get ! refl)) (through ! refl (stop !)) (store ! 0 refl (tt, tt)) $
    feq_i ! (List Val) (vptr b' o' ∷ []) (vptr b' o' ∷ []) refl $ move ! (1 ∷ 0 ∷ []) $ closes ! tt RawPtr (block_ptr b' o') (vptr b' o' ∷ []) at_b at_o $
    -- [three parts of the pointer; the token of T; what is owned]
    sets ! (agg ! (no_more !)) refl (tt, tt) $
    sets ! (agg ! (and_then ! (get ! refl) (and_then ! (get ! refl) (no_more !)))) refl (tt, (record { fits = are.1.1.0.1 }, (tt, tt))) $
    owned ! usize _ (uint_Makes 𝓛 w64) n _ (refl, are.1.1.0.1) $ move ! (6 ∷ 0 ∷ []) $ handed_in R ! n (block_ptr b' o') (Some v.value) $
    returns ! (look_at ! 0 refl) $ free_all ! refl $
    suffices ! _ (ends_at 𝓛 En hs c y (handed_val n) (handed_of R n (block_ptr b' o') (Some v.value)) (tt, (block_ptr b' o', (tt, tt))) (tt, (tt, (tt, tt)))) $ says ! (refl, refl, refl) $
    move ! (4 ∷ 1 ∷ 2 ∷ []) $ fjoin3 ! $ nothing ! $ nothing ! $ fjoin ! $ move ! (1 ∷ 0 ∷ []) $ fjoin ! $ nothing ! $ fjoin ! $
    -- [what is left of the parameters; what is handed out; the tokens of the pointer and of T]
    nothing ! $ move ! (4 ∷ 0 ∷ []) $ join ! $ move ! (3 ∷ 0 ∷ []) $ join ! $ done !)))))))))))))
