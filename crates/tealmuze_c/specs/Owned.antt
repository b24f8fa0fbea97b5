-- A value that the caller owns, behind a pointer.
use base.Fml.{Fml, ftrue, fex}
use mir.Syntax.{Ty}
use denote.RattleType.{RattleType}
use denote.RawPtr.{Ptr}
use Rattle.std.specs.Prelude.{Option, None, Some}
use Rattle.std.specs.Box.Ownership.{box_owns}
use Rattle.std.specs.Global.{Global}
use Rattle.std.specs.contracts.impls.GlobalAllocator.TheImpl.{ghosts}

-- A `Global` may free a block for a value of this type.
abbrev pub may_be_freed : Ty → Ptr → Fml
may_be_freed τ p = fex Global (λ alloc. ghosts.dealloc_token alloc τ p)

-- This value lies there, and whoever owns it may free its block.
abbrev pub is_owned_at : (T : RattleType) → Ptr → T.Denot → Fml
is_owned_at T = box_owns may_be_freed T

-- This value lies there, if there is one.
abbrev pub owned_if : (T : RattleType) → Ptr → Option T.Denot → Fml
owned_if T p None = ftrue
owned_if T p (Some x) = is_owned_at T p x
