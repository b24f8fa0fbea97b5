-- `tealmuze_step` meets its contract: the transcript is lent to `step` for the call, and is owned where it was after it.
use Rattle.std.proofs.Common.{ℕ, List, [], ◌∷◌, ◌++◌, refl, sym, subst, w64, MutBor, Bor}
use Rattle.std.proofs.raw_atomic.Walks.{proved_at}
use Rattle.std.proofs.cell.Inside.{one}
use base.Fraction.{full_share}
use base.Logic.{ent, sep, id⊢}
use base.Fml.{GName, ftrue, flft, flent}
use mir.Syntax.{named}
use mir.Val.{Val, vptr}
use prog.Wp.{WpFn}
use contract.Monad.{fact}
use contract.Running.{tables}
use types.Logic.{sem}
use types.SemTy.{Body}
use types.Kit.{‵, raw, ◌⊛◌, some, later, prop, ◌$◌, ◌∵◌, !, qed, done, move, keep, drop, use1, use2, use3, split, join, fsplit, fjoin, feq_l, pick, await, regoal, suffices, frame, group, show}
use types.Part.{whole, sub, agg}
use types.Run.{enter, of_opd, addr, from, stop, fld, hop, no_more, and_then, returns}
use types.ByLocal.{alloc_all, pass_all, free_all, look_at, look_in_at, get, get_in, through, sets, lands_as}
use types.Tokens.{lft_new, lft_end}
use denote.Builtin.{u8, usize}
use denote.Exit.{yes}
use denote.Laws.{Is, shows}
use denote.Lend.{lends_ref, ref_back}
use denote.Memory.{mem, part_at}
use denote.Param.{layout}
use denote.Plain.{uint_Lawful}
use denote.RawPtr.{Ptr, RawPtr, block_ptr, in_a_block, rawptr_vals}
use denote.Ref.{MutRef}
use denote.Signature.{plain, shr_slice_of}
use denote.Slice.{ShrSlice, MutSlice, shr_slice_vals, mut_slice_vals}
use denote.Steps.{nothing, heard, peeks}
use denote.Triple.Call.{calls_at}
use denote.Triple.Clauses.{Lasts, lasts}
use denote.Triple.Entry.{Vals}
use denote.Triple.Spec.{triple_of}
use denote.Triple.Table.{framed}
use denote.Triple.Walked.{Stays, says, walk_of, stay_dropped, gave_slice, Goes-dropped, Goes-gave_slice, ends_at}
use Rattle.std.specs.contracts.alloc.Global.{the_row as Global}
use Rattle.std.proofs.alloc.Global.TheLaws.{the_row_laws as handle_laws}
use Rattle.tealmuze_live.specs.contracts.live.Live.{the_row as R}
use Rattle.tealmuze_c.specs.{Owned.is_owned_at, Told.IsStep}
use Rattle.tealmuze_live.specs.contracts.live.LiveTells.TheImpl.{tells-value}
use Rattle.tealmuze_c.proofs.Owned.{none_at_null}
use Rattle.tealmuze_c.specs.contracts.tealmuze_step as f
use Rattle.tealmuze_c.proofs.tealmuze_step.Statement.{statement}
use Rattle.tealmuze_c.proofs.tealmuze_step.Code as code
use Rattle.tealmuze_c.proofs.tealmuze_step.Code.{calls-tealmuze_c::step as calls}
use Rattle.tealmuze_c.specs.contracts.step as g
use Rattle.tealmuze_c.proofs.step.Met.{met}

abbrev stayed : Stays f.ended.signature.params f.ended.kept
stayed = (
  stay_dropped (plain (λ _. Global)) yes,
  (
    stay_dropped (plain (λ _. RawPtr)) yes,
    (
      stay_dropped (shr_slice_of (0 ∷ []) tt (plain (λ _. u8))) yes,
      (
        gave_slice (1 ∷ []) tt (plain (λ _. u8)),
        tt,
      ),
    ),
  ),
)

pub tealmuze_step_spec : {M : Type 1} → statement M
tealmuze_step_spec 𝓤 𝓛 𝓜 𝓡 wired =
    let c = f.clauses 𝓛 𝓜.mem 𝓡.returns in let W = walk_of 𝓛 f.ended stayed c in let 𝓣 = tables 𝓤 𝓛.H 𝓜 𝓡 𝓡.env in
    proved_at 𝓛 f.ended stayed c 𝓜 𝓡 (
      Goes-dropped 𝓛 2 (plain (λ _. Global)) yes (λ κs x w. refl),
      (
        Goes-dropped 𝓛 2 (plain (λ _. RawPtr)) yes (λ κs x w. refl),
        (
          Goes-dropped 𝓛 2 (shr_slice_of (0 ∷ []) tt (plain (λ _. u8))) yes (λ κs x w. refl),
          (
            Goes-gave_slice 𝓛 2 1 tt (plain (λ _. u8)),
            tt,
          ),
        ),
      ),
    )
    f.Key.name code.function (code.unfolded 𝓤 𝓛.H 𝓜 𝓡 wired)
    (λ x are.
    let κs = x.0.0 in let qs = x.0.1 in let bounds = x.0.2 in let a = x.0.3 in let v = x.1 in
    let one-handle = one (layout Global) x.0.4.0 ((handle_laws.lawful 𝓛).typed a.0 x.0.4.0 are.0) in let h : Val = one-handle.0 in
    let request : Bor (List ℕ) = a.1.1.0 in let answer : MutBor (List ℕ) = a.1.1.1.0 in
    let us : List Val = shr_slice_vals request in let ws : List Val = mut_slice_vals answer in
    let at : Vals f.ended.signature κs → W.Ghost = λ vss. ((κs, qs, bounds, a, vss), v) in
    let y : Ptr → W.Ghost = λ p. ((κs, qs, bounds, (a.0, (p, (request, (answer, tt)))), (h ∷ [], (rawptr_vals p, (us, (ws, tt))))), v) in
    let room-request = are.1.1.0.0.1 in let room-answer = are.1.1.1.0.0.1 in
    subst (λ (vss : Vals f.ended.signature κs). ent 𝓤 (W.pre (at vss)) (WpFn 𝓤 𝓛.H 𝓣.C 𝓣.Λ code.function (W.args (at vss)) (W.post (at vss))))
    (λ i. (sym one-handle.1 i, (sym are.1.0 i, (sym are.1.1.0.0.0 i, (sym are.1.1.1.0.0.0 i, tt))))) (
    qed 𝓛 (((‵ (flft κs.0 qs.0) ⊛ ‵ (flft κs.1.0 qs.1.0) ⊛ ‵ ftrue) ⊛ ‵ (Global.own_val a.0 (h ∷ [])) ⊛ ‵ (RawPtr.own_val a.1.0 (rawptr_vals a.1.0)) ⊛ ‵ ((ShrSlice (named 0) κs.0 u8).own_val request us) ⊛ ‵ ((MutSlice (named 1) κs.1.0 u8).own_val answer ws) ⊛ ‵ ftrue)
    ∷ ‵ (is_owned_at R a.1.0 v) ∷ []) ∵
    split ! $ move ! (1 ∷ []) $ split ! $ move ! (1 ∷ []) $ split ! $ drop ! $ split ! $ move ! (1 ∷ []) $ split ! $ keep ! (0 ∷ 2 ∷ 3 ∷ 4 ∷ 5 ∷ []) $
    -- [the answer; the request; the handle; the tokens; what is owned]
    move ! (3 ∷ []) $ split ! $ move ! (1 ∷ []) $ split ! $ keep ! (6 ∷ 2 ∷ 0 ∷ 5 ∷ 4 ∷ 3 ∷ []) $
    -- [what is owned; the tokens of the request and of the answer; the handle; the request; the answer]
    in_a_block ! a.1.0 (λ p. is_owned_at R p v) (none_at_null 𝓛 R v) (λ b o e.
    regoal ! (λ p. prop (WpFn 𝓤 𝓛.H 𝓣.C 𝓣.Λ code.function (h ∷ (rawptr_vals p ++ (us ++ (ws ++ [])))) (W.post (y p)))) e refl $
    fsplit ! $
    -- [the transcript; the right to free it; ..]
    enter ! _ _ _ _ _ $
    alloc_all ! (λ l. pass_all ! refl (one-handle.2, ((tt, tt), ((tt, (tt, (record { fits = room-request.0 }, tt))), ((tt, (tt, (record { fits = room-answer.0 }, tt))), tt)))) $
    -- transcript as *mut Live, &mut *that, and the answer lent on
    sets ! (of_opd ! (get ! refl)) refl (tt, tt) $
    sets ! (addr ! (through ! refl (stop !))) refl (tt, tt) $
    sets ! (addr ! (from ! (fld ! refl (hop ! (look_in_at ! 4 (sub ! 0 refl (whole !))) (stop !))))) refl (tt, tt) $
    sets ! (agg ! (and_then ! (get ! refl) (and_then ! (get_in ! (fld ! refl (stop !)) (sub ! 1 refl (whole !))) (no_more !)))) refl (tt, (tt, (record { fits = room-answer.0 }, tt))) $
    -- the transcript is lent for α
    lft_new ! tt (λ α. move ! (1 ∷ []) $
    use1 𝓛 (later (some (λ (γ : GName). ‵ ((MutRef (named 0) (α ∷ []) R).own_val (record { ref_ptr = (b, o); ghost_name = γ; now = v }) (vptr b o ∷ [])) ⊛ ‵ (flent (α ∷ []) (Body (mem R) b o γ)))))
    (lends_ref 𝓛 R (named 0) (α ∷ []) v b o) $ await ! tt $ pick ! (λ γ. split ! $
    -- [the loan; what the lender keeps; the token of α; the right to free; the tokens of the request and of the answer; the handle; the request; the answer]
    let G = triple_of 𝓛 g.signature (g.spec 𝓛 𝓜.mem 𝓡.returns) in
    let z : G.Ghost = (((α ∷ [], (κs.0, (κs.1.0, tt))), (full_share, (qs.0, (qs.1.0, tt))), tt, (record { ref_ptr = (b, o); ghost_name = γ; now = v }, (a.0, (request, (answer, tt)))), (vptr b o ∷ [], (h ∷ [], (us, (ws, tt))))), tt) in
    nothing ! $ move ! (9 ∷ 0 ∷ []) $ join ! $ move ! (8 ∷ 0 ∷ []) $ join ! $ move ! (7 ∷ 0 ∷ []) $ join ! $ move ! (1 ∷ 0 ∷ []) $ join ! $
    nothing ! $ move ! (6 ∷ 0 ∷ []) $ join ! $ move ! (5 ∷ 0 ∷ []) $ join ! $ move ! (3 ∷ 0 ∷ []) $ join ! $ join ! $
    nothing ! $ move ! (1 ∷ 0 ∷ []) $ use2 𝓛 (raw (G.pre z)) (id⊢ 𝓤 _) $
    calls_at ! (framed 𝓤 𝓛.H 𝓜 𝓣) G (met 𝓤 𝓛 𝓜 𝓡 (calls 𝓡.env wired)) z
    (and_then ! (get ! refl) (and_then ! (get ! refl) (and_then ! (get ! refl) (and_then ! (get ! refl) (no_more !))))) (λ r.
    use1 𝓛 (later (some (λ (n : ℕ). ((‵ (flft (α ∷ []) full_share) ⊛ ‵ (flft κs.0 qs.0) ⊛ ‵ (flft κs.1.0 qs.1.0) ⊛ ‵ ftrue) ⊛ ‵ (usize.own_val n (r ∷ []))) ⊛
    some (λ (xs : Lasts g.ended z.0.0 z.0.3). ‵ (lasts g.ended z.0.0 z.0.3 xs) ⊛ raw (fact 𝓤 _))))) (id⊢ 𝓤 _) $
    await ! tt $ pick ! (λ n. split ! $ split ! $ split ! $ lft_end ! tt $
    -- [α is over; the tokens; the result; what the call left; what the lender keeps; the right to free]
    move ! (2 ∷ []) $ peeks ! usize (Is usize) (shows 𝓛 usize) n (r ∷ []) (λ is. lands_as ! refl refl ((uint_Lawful 𝓛 w64).typed n _ is).0 $
    move ! (3 ∷ []) $ pick ! (λ xs. split ! $ move ! (1 ∷ []) $ heard ! _ (λ told.
    -- [what the call left; the result; α is over; the tokens; what the lender keeps; the right to free]
    fsplit ! $ fsplit ! $ move ! (4 ∷ 6 ∷ 0 ∷ []) $
    use3 𝓛 (later (‵ (part_at R full_share xs.0 b o))) (ref_back 𝓛 R (α ∷ []) γ xs.0 b o) $ await ! tt $
    -- [the transcript; its borrow; what the call left of the others; the result; the tokens; the right to free]
    move ! (2 ∷ []) $ fsplit ! $ drop ! $ fsplit ! $ drop ! $ fsplit ! $ fsplit ! $ fsplit ! $ move ! (1 ∷ []) $ feq_l ! (λ same.
    -- [the answer's last value; its borrow; nothing; the transcript; its borrow; the result; the tokens; the right to free]
    returns ! (look_at ! 0 refl) $ free_all ! refl $ keep ! (0 ∷ 1 ∷ 3 ∷ 5 ∷ 6 ∷ 7 ∷ []) $
    suffices ! _ (ends_at 𝓛 f.ended stayed c (y (block_ptr b o)) r n (tt, (tt, (tt, (xs.1.1.1.0, tt)))) (tt, (tt, (tt, (same, tt))))) $
    fjoin ! $ nothing ! $ move ! (1 ∷ 0 ∷ []) $ fjoin ! $ nothing ! $ fjoin ! $ nothing ! $ fjoin ! $ nothing ! $ fjoin ! $
    -- [what is left of the parameters; the transcript; the result; the tokens; the right to free]
    move ! (1 ∷ 4 ∷ []) $ fjoin ! $ move ! (3 ∷ 1 ∷ 2 ∷ []) $ group ! 3 $ frame ! $ show ! (λ (is : R.Denot). sep 𝓤 (sem 𝓛 (is_owned_at R (block_ptr b o) is)) (fact 𝓤 (IsStep (tells-value.it 1) v request.now answer.now is xs.1.1.1.0 n))) xs.0 $ says ! told $ done !))))))))))))
