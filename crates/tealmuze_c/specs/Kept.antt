-- A value that is shared for good, behind a pointer.
use base.Fml.{Fml}
use mathlib.Core.List.{[]}
use denote.RattleType.{RattleType}
use denote.Memory.{hidden_shr}
use denote.RawPtr.{Ptr, in_block, block_of, count_of}

-- This value lies there, and may be read for as long as the program runs.
abbrev pub is_shared_at : (T : RattleType) → Ptr → T.Denot → Fml
is_shared_at T p x = in_block p (hidden_shr T [] x (block_of p) (count_of p))
