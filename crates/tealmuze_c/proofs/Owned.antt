-- What the caller owns: none of it lies at null, and it is what a box owns. Assumes `Logic`.
use seplogic.Ra.Ura.{Ura}
use mir.Raw.{raw as bare}
use mathlib.Core.List.{[], ◌∷◌}
use base.Logic.{ent, never, fst∗}
use types.Logic.{Logic, sem}
use types.Kit.{‵, ◌$◌, ◌∵◌, !, qed, done, move, fsplit, fjoin, fpick, fpack}
use denote.Memory.{lone}
use denote.RattleType.{RattleType}
use denote.RawPtr.{Ptr, null_ptr}
use Rattle.std.specs.Box.Ownership.{box_owns}
use Rattle.std.specs.Global.{Global}
use Rattle.std.specs.contracts.impls.GlobalAllocator.TheImpl.{ghosts}
use Rattle.tealmuze_c.specs.Owned.{is_owned_at, may_be_freed}

module _ {M : Type 1} {𝓤 : Ura M} (𝓛 : Logic 𝓤) (R : RattleType) where
  pub none_at_null : (x : R.Denot) → ent 𝓤 (sem 𝓛 (is_owned_at R null_ptr x)) (never 𝓤)
  none_at_null x = fst∗ 𝓤 (never 𝓤) (sem 𝓛 (may_be_freed (bare (lone R.mir)) null_ptr))

  module _ (alloc : Global) (p : Ptr) (x : R.Denot) where
    -- every `Global` has one heap
    pub owned_box : ent 𝓤 (sem 𝓛 (is_owned_at R p x)) (sem 𝓛 (box_owns (ghosts.dealloc_token alloc) R p x))
    owned_box = qed 𝓛 (‵ (is_owned_at R p x) ∷ []) ∵ fsplit ! $ move ! (1 ∷ []) $ fpick ! (λ _. move ! (1 ∷ 0 ∷ []) $ fjoin ! $ done !)

    pub box_owned : ent 𝓤 (sem 𝓛 (box_owns (ghosts.dealloc_token alloc) R p x)) (sem 𝓛 (is_owned_at R p x))
    box_owned = qed 𝓛 (‵ (box_owns (ghosts.dealloc_token alloc) R p x) ∷ []) ∵ fsplit ! $ move ! (1 ∷ []) $
        fpack ! Global (λ heap. ghosts.dealloc_token heap (bare (lone R.mir)) p) alloc $ move ! (1 ∷ 0 ∷ []) $ fjoin ! $ done !
