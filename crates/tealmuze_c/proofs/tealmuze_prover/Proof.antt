-- `tealmuze_prover` meets its contract: what the handle leads to is shared for good, so `begin_prover` may read it, and what `begin_prover` hands out is owned.
use Rattle.std.proofs.Common.{ℕ, List, [], ◌∷◌, ◌++◌, refl, sym, ap, subst, w64, MutBor}
use Rattle.std.proofs.raw_atomic.Walks.{proved_at, leaves}
use Rattle.std.proofs.cell.Inside.{one}
use base.Logic.{ent, emp, id⊢}
use base.Fml.{ftrue, flft}
use mir.Syntax.{named}
use mir.Val.{Val, vint, vptr}
use prog.Wp.{WpFn}
use contract.Monad.{fact, fact_i}
use contract.Running.{tables}
use types.Kit.{‵, raw, ◌⊛◌, some, later, prop, ◌$◌, ◌∵◌, !, qed, by, move, keep, drop, use0, use1, use2, split, join, fsplit, fjoin, feq_i, feq_l, pick, await, regoal}
use types.Part.{whole, sub, agg}
use types.Run.{enter, of_opd, addr, from, stop, fld, hop, no_more, and_then, returns}
use types.ByLocal.{alloc_all, pass_all, free_all, look_at, look_in_at, get, get_in, through, sets, lands_as}
use denote.Builtin.{u8}
use denote.Exit.{yes}
use denote.Param.{layout}
use denote.RawPtr.{Ptr, RawPtr, block_ptr, in_a_block, rawptr_vals}
use denote.Ref.{MutRef, mut_vals}
use denote.Signature.{plain}
use denote.Slice.{MutSlice, mut_slice_vals}
use denote.Steps.{nothing, heard, only}
use denote.Triple.Call.{calls_at}
use denote.Triple.Clauses.{Lasts, lasts}
use denote.Triple.Entry.{Vals}
use denote.Triple.Spec.{triple_of}
use denote.Triple.Table.{framed}
use denote.Triple.Walked.{Stays, walk_of, stay_dropped, gave_ref, gave_slice, Goes-dropped, Goes-gave_ref, Goes-gave_slice}
use Rattle.std.specs.contracts.alloc.Global.{the_row as Global}
use Rattle.std.proofs.alloc.Global.TheLaws.{the_row_laws as handle_laws}
use Rattle.tealmuze_c.specs.Kept.{is_shared_at}
use Rattle.tealmuze_c.proofs.Handing.{Handed, handed_out, handed_at}
use Rattle.tealmuze_live.specs.contracts.live.Live.{the_row as R}
use Rattle.tealmuze_calls.specs.contracts.prepared.Prepared.{the_row as Read}
use Rattle.tealmuze_c.specs.contracts.tealmuze_prover as f
use Rattle.tealmuze_c.proofs.tealmuze_prover.Statement.{statement}
use Rattle.tealmuze_c.proofs.tealmuze_prover.Code as code
use Rattle.tealmuze_c.proofs.tealmuze_prover.Code.{calls-tealmuze_c::begin_prover as calls}
use Rattle.tealmuze_c.specs.contracts.begin_prover as g
use Rattle.tealmuze_c.proofs.begin_prover.Met.{met}

abbrev stayed : Stays f.ended.signature.params f.ended.kept
stayed = (
  stay_dropped (plain (λ _. Global)) yes,
  (
    stay_dropped (plain (λ _. RawPtr)) yes,
    (
      gave_ref (0 ∷ []) tt (plain (λ _. RawPtr)),
      (
        gave_slice (1 ∷ []) tt (plain (λ _. u8)),
        tt,
      ),
    ),
  ),
)

pub tealmuze_prover_spec : {M : Type 1} → statement M
tealmuze_prover_spec 𝓤 𝓛 𝓜 𝓡 wired =
    let c = f.clauses 𝓛 𝓜.mem 𝓡.returns in let W = walk_of 𝓛 f.ended stayed c in let 𝓣 = tables 𝓤 𝓛.H 𝓜 𝓡 𝓡.env in
    proved_at 𝓛 f.ended stayed c 𝓜 𝓡 (
      Goes-dropped 𝓛 2 (plain (λ _. Global)) yes (λ κs x w. refl),
      (
        Goes-dropped 𝓛 2 (plain (λ _. RawPtr)) yes (λ κs x w. refl),
        (
          Goes-gave_ref 𝓛 2 0 tt (plain (λ _. RawPtr)),
          (
            Goes-gave_slice 𝓛 2 1 tt (plain (λ _. u8)),
            tt,
          ),
        ),
      ),
    )
    f.Key.name code.function (code.unfolded 𝓤 𝓛.H 𝓜 𝓡 wired)
    (λ x are.
    let κs = x.0.0 in let qs = x.0.1 in let bounds = x.0.2 in let a = x.0.3 in let v = x.1 in
    let one-handle = one (layout Global) x.0.4.0 ((handle_laws.lawful 𝓛).typed a.0 x.0.4.0 are.0) in let h : Val = one-handle.0 in
    let state : MutBor Ptr = a.1.1.0 in let answer : MutBor (List ℕ) = a.1.1.1.0 in
    let ps : List Val = mut_vals state in let ws : List Val = mut_slice_vals answer in
    let at : Vals f.ended.signature κs → W.Ghost = λ vss. ((κs, qs, bounds, a, vss), v) in
    let y : Ptr → W.Ghost = λ p. ((κs, qs, bounds, (a.0, (p, (state, (answer, tt)))), (h ∷ [], (rawptr_vals p, (ps, (ws, tt))))), v) in
    let room-answer = are.1.1.1.0.0.1 in
    subst (λ (vss : Vals f.ended.signature κs). ent 𝓤 (W.pre (at vss)) (WpFn 𝓤 𝓛.H 𝓣.C 𝓣.Λ code.function (W.args (at vss)) (W.post (at vss))))
    (λ i. (sym one-handle.1 i, (sym are.1.0 i, (sym are.1.1.0.0 i, (sym are.1.1.1.0.0.0 i, tt))))) (
    qed 𝓛 (((‵ (flft κs.0 qs.0) ⊛ ‵ (flft κs.1.0 qs.1.0) ⊛ ‵ ftrue) ⊛ ‵ (Global.own_val a.0 (h ∷ [])) ⊛ ‵ (RawPtr.own_val a.1.0 (rawptr_vals a.1.0)) ⊛ ‵ ((MutRef (named 0) κs.0 RawPtr).own_val state ps) ⊛ ‵ ((MutSlice (named 1) κs.1.0 u8).own_val answer ws) ⊛ ‵ ftrue)
    ∷ ‵ (is_shared_at Read a.1.0 v) ∷ []) ∵
    split ! $ move ! (1 ∷ []) $ split ! $ move ! (1 ∷ []) $ split ! $ drop ! $ split ! $ move ! (1 ∷ []) $ split ! $ keep ! (0 ∷ 2 ∷ 3 ∷ 4 ∷ 5 ∷ []) $
    -- [the answer; the pointer; the handle; the tokens; what is shared]
    move ! (3 ∷ []) $ split ! $ move ! (1 ∷ []) $ split ! $ keep ! (6 ∷ 2 ∷ 0 ∷ 5 ∷ 4 ∷ 3 ∷ []) $
    -- [what is shared; the tokens of the pointer and of the answer; the handle; the pointer; the answer]
    in_a_block ! a.1.0 (λ p. is_shared_at Read p v) (id⊢ 𝓤 _) (λ b o e.
    regoal ! (λ p. prop (WpFn 𝓤 𝓛.H 𝓣.C 𝓣.Λ code.function (h ∷ (rawptr_vals p ++ (ps ++ (ws ++ [])))) (W.post (y p)))) e refl $
    enter ! _ _ _ _ _ $
    alloc_all ! (λ l. pass_all ! refl (one-handle.2, ((tt, tt), ((tt, tt), ((tt, (tt, (record { fits = room-answer.0 }, tt))), tt)))) $
    -- prepared as *mut Prepared, &*that, and the pointer and the answer lent on
    sets ! (of_opd ! (get ! refl)) refl (tt, tt) $
    sets ! (addr ! (through ! refl (stop !))) refl (tt, tt) $
    sets ! (addr ! (through ! refl (stop !))) refl (tt, tt) $
    sets ! (addr ! (from ! (fld ! refl (hop ! (look_in_at ! 4 (sub ! 0 refl (whole !))) (stop !))))) refl (tt, tt) $
    sets ! (agg ! (and_then ! (get ! refl) (and_then ! (get_in ! (fld ! refl (stop !)) (sub ! 1 refl (whole !))) (no_more !)))) refl (tt, (tt, (record { fits = room-answer.0 }, tt))) $
    -- what is shared, as a `&`
    feq_i ! (List Val) (vptr b o ∷ []) (vptr b o ∷ []) refl $ fjoin ! $
    let G = triple_of 𝓛 g.signature (g.spec 𝓛 𝓜.mem 𝓡.returns) in
    let z : G.Ghost = (((κs.0, (κs.1.0, tt)), (qs.0, (qs.1.0, tt)), tt, (record { ref_ptr = (b, o); now = v }, (a.0, (state, (answer, tt)))), (vptr b o ∷ [], (h ∷ [], (ps, (ws, tt))))), tt) in
    nothing ! $ move ! (6 ∷ 0 ∷ []) $ join ! $ move ! (5 ∷ 0 ∷ []) $ join ! $ move ! (4 ∷ 0 ∷ []) $ join ! $ move ! (1 ∷ 0 ∷ []) $ join ! $
    nothing ! $ move ! (3 ∷ 0 ∷ []) $ join ! $ move ! (2 ∷ 0 ∷ []) $ join ! $ join ! $
    nothing ! $ move ! (1 ∷ 0 ∷ []) $ use2 𝓛 (raw (G.pre z)) (id⊢ 𝓤 _) $
    calls_at ! (framed 𝓤 𝓛.H 𝓜 𝓣) G (met 𝓤 𝓛 𝓜 𝓡 (calls 𝓡.env wired)) z
    (and_then ! (get ! refl) (and_then ! (get ! refl) (and_then ! (get ! refl) (and_then ! (get ! refl) (no_more !))))) (λ r.
    use1 𝓛 (later (some (λ (it : (Handed R).Denot). ((‵ (flft κs.0 qs.0) ⊛ ‵ (flft κs.1.0 qs.1.0) ⊛ ‵ ftrue) ⊛ ‵ ((Handed R).own_val it (r ∷ []))) ⊛
    some (λ (xs : Lasts g.ended z.0.0 z.0.3). ‵ (lasts g.ended z.0.0 z.0.3 xs) ⊛ raw (fact 𝓤 _) ⊛ raw (fact 𝓤 _))))) (id⊢ 𝓤 _) $
    await ! tt $ pick ! (λ it. split ! $ split ! $
    -- [the tokens; the result; what the call left]
    move ! (1 ∷ []) $ handed_out R ! it (r ∷ []) (λ is good. lands_as ! (ap only is) refl good $
    -- [the length; what is owned; the tokens; what the call left]
    sets ! (of_opd ! (get_in ! (fld ! refl (stop !)) (sub ! 0 refl (whole !)))) refl (tt, good.1.0) $
    sets ! (of_opd ! (get ! refl)) refl (tt, good.1.0) $
    move ! (3 ∷ []) $ pick ! (λ xs. split ! $ move ! (1 ∷ []) $ split ! $ heard ! _ (λ told. heard ! _ (λ made.
    -- [what the call left; the length; what is owned; the tokens]
    fsplit ! $ drop ! $ fsplit ! $ drop ! $ fsplit ! $ move ! (1 ∷ []) $ fsplit ! $ fsplit ! $ fsplit ! $ move ! (1 ∷ []) $ feq_l ! (λ same.
    -- [the answer's last value; its borrow; nothing; the pointer's last value and its borrow; the length; what is owned; the tokens]
    returns ! (look_at ! 0 refl) $ free_all ! refl $
    fjoin ! $ move ! (0 ∷ 1 ∷ []) $ fjoin ! $ move ! (1 ∷ 0 ∷ []) $ fjoin ! $ nothing ! $ fjoin ! $ nothing ! $ fjoin ! $
    -- [what is left of the parameters; the length; what is owned; the tokens]
    move ! (2 ∷ []) $ use1 𝓛 (raw _) (handed_at R 𝓛 _ _ xs.1.1.0 it.at it.is made) $
    use0 𝓛 (raw (fact 𝓤 _)) (fact_i 𝓤 _ (emp 𝓤) told) $ join ! $ move ! (3 ∷ 1 ∷ 2 ∷ 0 ∷ []) $
    by ! (leaves 𝓛 f.ended stayed c (y (block_ptr b o)) (vint w64 it.written) it.written (tt, (tt, (xs.1.1.0, (xs.1.1.1.0, tt)))) (tt, (tt, (tt, (same, tt))))))))))))))))
