-- The size of an element in memory.
use Rattle.std.specs.Prelude.{◌≤◌, ◌^◌}
use prog.Memory.{size}
use denote.{RattleType.RattleType, Param.layout}

-- a value of the type takes at most 2 ^ 16 bytes
abbrev pub IsSmall : RattleType → Type 0
IsSmall R = size (layout R) ≤ 2 ^ 16
