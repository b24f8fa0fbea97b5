use Rattle.std.proofs.Common.{◌<◌, map, length, sym, arith}
use Rattle.p3_fs_core.specs.Interactions.{step_of}
use Rattle.p3_patterns.proofs.OpenPositions.{open-pattern, open-innermost}
use Rattle.p3_patterns.proofs.open_containers.OpenContainers.innermost.Goals as goal

pub returns-in_err-position-clause-none : goal.returns-in_err-position-clause-none
returns-in_err-position-clause-none c =
    rw c.from_residual.ensures (open-pattern (map step_of c.args.steps.now) c.args.self.now.openers.items c.requires
    (rw c.deref.ensures.value at (sym c.in_err-position.ensures.value)))

pub bounds-steps-position : goal.bounds-steps-position
bounds-steps-position c =
    (open-innermost c.args.steps.now c.args.self.now.openers.items _ c.requires
    (rw c.deref.ensures.value at (sym c.in_ok-position.ensures.value))).0

pub offset_bounds-steps-position : goal.offset_bounds-steps-position
offset_bounds-steps-position c =
    let within : c.in_ok-position.field-0.now < length c.args.steps.now =
    (open-innermost c.args.steps.now c.args.self.now.openers.items _ c.requires
    (rw c.deref.ensures.value at (sym c.in_ok-position.ensures.value))).0 in
    omega (arith, within, c.well_formed)

pub returns-clause-some : goal.returns-clause-some
returns-clause-some c =
    rw c.index-steps-position.is ((open-innermost c.args.steps.now c.args.self.now.openers.items _ c.requires
    (rw c.deref.ensures.value at (sym c.in_ok-position.ensures.value))).1 _)
