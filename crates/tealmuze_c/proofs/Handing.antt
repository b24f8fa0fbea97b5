-- What is had of a `Handed`: its one machine value, and what is owned. Assumes `Logic`.
use Rattle.std.proofs.Common.{◌≡◌, ℕ, List, [], ◌∷◌, ◌++◌, refl, ◌∙◌, w64, sym, subst, Option, None, Some, MatchOption}
use seplogic.Bi.Basic.{or, or-intro_l, or-intro_r}
use seplogic.Ra.Ura.{Ura}
use base.Logic.{SProp, ent, emp, ex, sep, via}
use mir.Val.{Val, vint, vstruct, vcons, vnil, of_list}
use contract.Monad.{fact, fact_i}
use types.Logic.{Logic, sem}
use types.Kit.{Item, Goal, Seq, Step, step, ‵, ◌$◌, ◌∵◌, !, qed, done, show, move, drop, fsplit, fsplit3, fjoin, fjoin3, fpick, fpack, feq_i, feq_l, rewrite, use0}
use denote.Builtin.{usize, RawPtr}
use denote.Laws.{Is, shows}
use denote.Param.{layout}
use denote.RattleType.{RattleType, Valss}
use denote.RawPtr.{Ptr}
use denote.Shadow.{makes_shadow}
use denote.Steps.{nothing, peeks}
use denote.Struct.Owning.{shape}
use denote.Struct.Struct.{within}
use denote.Triple.Walked.{says}
use Rattle.std.proofs.cell.Inside.{Good}
use Rattle.std.specs.contracts.marker.PhantomData as marker
use Rattle.tealmuze_c.specs.Owned.{is_owned_at, owned_if}
use Rattle.tealmuze_c.specs.contracts.handed.Handed as handed

-- its machine value
abbrev pub handed_val : ℕ → Val
handed_val n = vstruct (vcons (vint w64 n) (vcons (vstruct vnil) vnil))

module _ (R : RattleType) where
  abbrev pub Handed : RattleType
  Handed = handed.the_row R

  abbrev Mark : RattleType
  Mark = marker.the_row RawPtr

  abbrev pub handed_of : ℕ → Ptr → Option R.Denot → Handed.Denot
  handed_of n p is = record { written = n; marker = record {}; at = p; is = is }

  module _ {M : Type 1} {𝓤 : Ura M} {𝓛 : Logic 𝓤} {K : Type 0} {Γ : List (Item 𝓤)} {G : Goal 𝓤 𝓛.H} where
    pub handed_in : K → (n : ℕ) (p : Ptr) (is : Option R.Denot)
        → Step K 𝓛 (‵ (Handed.own_val (handed_of n p is) (handed_val n ∷ [])) ∷ Γ) G (‵ (owned_if R p is) ∷ ‵ (usize.own_val n (vint w64 n ∷ [])) ∷ Γ) G
    handed_in t n p is = step (λ s. let v : Val = handed_val n in
        nothing t $ use0 𝓛 (‵ (Mark.own_val (record {}) (vstruct vnil ∷ []))) (makes_shadow 𝓛 (Mark.own_val (record {}) (vstruct vnil ∷ [])) (λ uss. (tt, tt)) (tt, (refl, tt))) $
        move t (3 ∷ 0 ∷ 1 ∷ []) $ fjoin3 t $ feq_i t (List Val) (v ∷ []) (v ∷ []) refl $ fjoin t $
        fpack t (Valss (usize ∷ Mark ∷ [])) (within (shape (handed.the_type R)) (n, (record {}, tt)) (v ∷ [])) (vint w64 n ∷ [], (vstruct vnil ∷ [], tt)) $ fjoin t $ s)

    pub handed_out : K → (d : Handed.Denot) (vs : List Val)
        → (vs ≡ handed_val d.written ∷ [] → Good (layout Handed) (handed_val d.written) → Seq K 𝓛 (‵ (usize.own_val d.written (vint w64 d.written ∷ [])) ∷ ‵ (owned_if R d.at d.is) ∷ Γ) G)
        → Seq K 𝓛 (‵ (Handed.own_val d vs) ∷ Γ) G
    handed_out t d vs k = fsplit t $ fpick t (λ vss. fsplit t $ feq_l t (λ e. fsplit3 t $
        peeks t usize (Is usize) (shows 𝓛 usize) d.written vss.0 (λ is. rewrite t 0 (λ us. ‵ (usize.own_val d.written us)) is.0 refl $ move t (1 ∷ []) $
        fpick t (λ us. fsplit t $ feq_l t (λ m. drop t $ move t (1 ∷ []) $ drop t $
        k (e ∙ (λ i. vstruct (of_list (is.0 i ++ (m i ++ []))) ∷ [])) (tt, (record { fits = is.1 }, (tt, tt))))))))

  module _ {M : Type 1} {𝓤 : Ura M} (𝓛 : Logic 𝓤) (Not : Type 0) (IsOne : R.Denot → Type 0) (p q : Ptr) where
    -- one is owned there
    abbrev IsThere : R.Denot → SProp 𝓤
    IsThere x = sep 𝓤 (sem 𝓛 (is_owned_at R p x)) (fact 𝓤 (IsOne x))

    -- where one is handed out, if one is
    pub handed_at : (is : Option R.Denot) → MatchOption is Not (λ x. IsOne x × (p ≡ q))
        → ent 𝓤 (sem 𝓛 (owned_if R q is)) (or 𝓤.op (ex 𝓤 IsThere) (fact 𝓤 Not))
    handed_at None said = via 𝓤 (fact 𝓤 Not) (fact_i 𝓤 Not (emp 𝓤) said) (or-intro_r 𝓤.op (ex 𝓤 IsThere))
    handed_at (Some x) said = via 𝓤 (ex 𝓤 IsThere)
        (qed 𝓛 (‵ (is_owned_at R q x) ∷ []) ∵ rewrite ! 0 (λ (at : Ptr). ‵ (is_owned_at R at x)) (sym said.1) refl $ show ! IsThere x $ says ! said.0 $ done !)
        (or-intro_l 𝓤.op (fact 𝓤 Not))

-- For the answers of a function that hands out: what holds where nothing is, and where something is.
pub if_none : {X N : Type 0} (S : X → Type 0) {o : Option X} → o ≡ None → N → MatchOption o N S
if_none {N = N} S e n = subst (λ (o : Option _). MatchOption o N S) (sym e) n

pub if_some : {X : Type 0} (N : Type 0) (S : X → Type 0) {o : Option X} (x : X) → o ≡ Some x → S x → MatchOption o N S
if_some N S x e s = subst (λ (o : Option _). MatchOption o N S) (sym e) s
