use Rattle.std.{proofs.Common.{◌≡◌, ◌≤◌, List, ℕ, ◌++◌, map, drop}, specs.Fmt.{HasWritten, IsPlainFormatter}}
use Rattle.p3_fs_core.specs.Interactions.{step_of}
use Rattle.p3_patterns.specs.Rendering.{text_of, lines}
use Rattle.p3_patterns.proofs.rendering.RenderingDisplay.fmt.Given as goal

-- what is written so far, and the lines that are left, are all the lines
abbrev pub invariant-loop-position : goal.invariant-loop-position
invariant-loop-position g l =
    let steps = map step_of l.self.steps.now in
    let remaining = lines (text_of l.self.alternate) l.digits in
    (l.depth ≤ l.position) ×
    (IsPlainFormatter l.initial.f → (written : List ℕ) × HasWritten g.W.Write.write_str_gives l.initial.f written l.f
    × (written ++ remaining l.position l.depth (drop l.position steps) ≡ remaining 0 0 steps))
