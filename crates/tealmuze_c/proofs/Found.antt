-- A length, and a `&` for good to what is kept, if anything is: what is had of them. Assumes `Logic`.
use Rattle.std.proofs.Common.{◌≡◌, ℕ, List, [], ◌∷◌, ◌++◌, refl, sym, ap, ◌∙◌, lit<, w64, Bor, Option, None, Some, MatchOption}
use seplogic.Bi.Basic.{or, or-intro_l, or-intro_r}
use seplogic.Ra.Ura.{Ura}
use base.Logic.{SProp, ent, emp, ex, sep, via}
use base.Fml.{Fml, ftrue}
use mir.Syntax.{static}
use mir.Val.{Val, vint, vptr, vstruct, vcons, vnil, of_list}
use contract.Monad.{fact, fact_i}
use types.Logic.{Logic, sem}
use types.Kit.{Item, Goal, Seq, ‵, ◌$◌, ◌∵◌, !, qed, done, move, drop, fsplit, fsplit3, fpick, feq_l, rewrite, show}
use types.Match.{live}
use denote.Builtin.{usize}
use denote.Laws.{Is, shows}
use denote.Param.{layout}
use denote.RattleType.{RattleType}
use denote.RawPtr.{Ptr}
use denote.Ref.{ShrRef}
use denote.Steps.{nothing, peeks}
use denote.Struct.Tuple.{Tuple}
use denote.Triple.Walked.{says}
use Rattle.std.specs.Ptr.{as_ptr}
use Rattle.std.specs.contracts.option.Option as option
use Rattle.std.proofs.cell.Inside.{Good}
use Rattle.tealmuze_c.specs.Kept.{is_shared_at}

module _ (R : RattleType) where
  abbrev pub Found : RattleType
  Found = Tuple (usize ∷ option.the_row (ShrRef static [] R) ∷ [])

  -- its machine value
  abbrev pub found : ℕ → Val → Val
  found n w = vstruct (vcons (vint w64 n) (vcons w vnil))

  abbrev pub shared_if : Option (Bor R.Denot) → Fml
  shared_if None = ftrue
  shared_if (Some it) = is_shared_at R (as_ptr it) it.now

  module _ {M : Type 1} {𝓤 : Ura M} {𝓛 : Logic 𝓤} {K : Type 0} {Γ : List (Item 𝓤)} {G : Goal 𝓤 𝓛.H} where
    pub found_out : K → (n : ℕ) (kept : Option (Bor R.Denot)) (vs : List Val)
        → ((w : Val) → vs ≡ found n w ∷ [] → Good (layout Found) (found n w) → Seq K 𝓛 (‵ (usize.own_val n (vint w64 n ∷ [])) ∷ ‵ (shared_if kept) ∷ Γ) G)
        → Seq K 𝓛 (‵ (Found.own_val (n, kept) vs) ∷ Γ) G
    found_out t n None vs k = fpick t (λ vss. fsplit t $ feq_l t (λ e. fsplit3 t $
        peeks t usize (Is usize) (shows 𝓛 usize) n vss.0 (λ is. rewrite t 0 (λ us. ‵ (usize.own_val n us)) is.0 refl $ move t (1 ∷ []) $
        fpick t (λ us. fsplit t $ feq_l t (λ at. fpick t (λ wss. fsplit t $ feq_l t (λ fields. drop t $ move t (1 ∷ []) $ drop t $ nothing t $ move t (1 ∷ 0 ∷ []) $
        let opt : vss.1.0 ≡ live 0 vnil ∷ [] = at ∙ ap (λ ws. live 0 (of_list ws) ∷ []) fields in
        k (live 0 vnil) (e ∙ (λ i. vstruct (of_list (is.0 i ++ (opt i ++ []))) ∷ [])) (tt, (record { fits = is.1 }, ((record { fits = lit< tt }, tt), tt))))))))))
    found_out t n (Some it) vs k = fpick t (λ vss. fsplit t $ feq_l t (λ e. fsplit3 t $
        peeks t usize (Is usize) (shows 𝓛 usize) n vss.0 (λ is. rewrite t 0 (λ us. ‵ (usize.own_val n us)) is.0 refl $ move t (1 ∷ []) $
        fpick t (λ us. fsplit t $ feq_l t (λ at. fpick t (λ wss. fsplit t $ feq_l t (λ fields. fsplit t $ fsplit t $ feq_l t (λ ref. move t (1 ∷ []) $ drop t $ move t (2 ∷ []) $ drop t $ move t (1 ∷ 0 ∷ []) $
        let p = vptr it.ref_ptr.0 it.ref_ptr.1 in
        let opt : vss.1.0 ≡ live 1 (vcons p vnil) ∷ [] = at ∙ ap (λ ws. live 1 (of_list ws) ∷ []) (fields ∙ ap (λ ws. ws ++ []) ref) in
        k (live 1 (vcons p vnil)) (e ∙ (λ i. vstruct (of_list (is.0 i ++ (opt i ++ []))) ∷ [])) (tt, (record { fits = is.1 }, ((record { fits = lit< tt }, (tt, tt)), tt)))))))))))

  module _ {M : Type 1} {𝓤 : Ura M} (𝓛 : Logic 𝓤) (Not : Type 0) (IsOne : R.Denot → Type 0) (p : Ptr) where
    -- one is shared for good there
    abbrev IsThere : R.Denot → SProp 𝓤
    IsThere x = sep 𝓤 (sem 𝓛 (is_shared_at R p x)) (fact 𝓤 (IsOne x))

    -- where it is kept, if it is
    pub handed : (kept : Option (Bor R.Denot)) → MatchOption kept Not (λ it. IsOne it.now × (p ≡ as_ptr it))
        → ent 𝓤 (sem 𝓛 (shared_if kept)) (or 𝓤.op (ex 𝓤 IsThere) (fact 𝓤 Not))
    handed None said = via 𝓤 (fact 𝓤 Not) (fact_i 𝓤 Not (emp 𝓤) said) (or-intro_r 𝓤.op (ex 𝓤 IsThere))
    handed (Some it) said = via 𝓤 (ex 𝓤 IsThere)
        (qed 𝓛 (‵ (is_shared_at R (as_ptr it) it.now) ∷ []) ∵ rewrite ! 0 (λ (q : Ptr). ‵ (is_shared_at R q it.now)) (sym said.1) refl $ show ! IsThere it.now $ says ! said.0 $ done !)
        (or-intro_l 𝓤.op (fact 𝓤 Not))
