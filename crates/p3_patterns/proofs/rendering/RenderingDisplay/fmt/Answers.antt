use Rattle.std.{proofs.Common.{rules, ◌+◌, ◌≤◌, ◌++◌, length, codes, IsOk, arith}, specs.Fmt.{HasWritten, decimal}}
use Rattle.std.proofs.Output.{has_written_append, has_written_of_eq}
use Rattle.p3_patterns.{specs.Rendering.{text_of, depth_after}, proofs.Rendered.{depth-small, one-more, all-lines}}
use Rattle.p3_patterns.proofs.rendering.RenderingDisplay.fmt.Goals as goal

pub loop-position-preserved : goal.loop-position-preserved
loop-position-preserved g c =
    let small : depth_after c.hierarchy-in-loop-position.result c.loop-position.depth ≤ c.loop-position.position + 1 =
    depth-small c.hierarchy-in-loop-position.result _ _ c.loop-position.invariant.0 in (
      omega (arith, small, c.depth_after-depth.ensures),
      λ plain.
          let so_far = c.loop-position.invariant.1 plain in
          let ok : IsOk c.write.result = search rules in (
            _,
            has_written_append _ _ _ _ _ _ so_far.1 (c.write.ensures.writes so_far.1.plain ok),
            one-more (text_of c.args.self.now.alternate) _ _ _ _ _ _ _ c.args.self.now.steps.now _ c.step-item.result
                _ _ c.step-item.is c.loop-position-test.true c.hierarchy.ensures c.indentation.ensures
                c.hierarchy-in-loop-position.ensures c.depth_after-depth.ensures so_far.2,
          ),
    )

pub returns-clause-writes : goal.returns-clause-writes
returns-clause-writes g c plain ok =
    let steps = c.args.self.now.steps.now in
    let header : HasWritten g.W.Write.write_str_gives c.args.f.now (codes "Plonky3 Fiat-Shamir Transcript ("
    ++ (decimal (length steps) ++ codes " interactions)\n")) c.writeln.new.self = search rules in
    let all = c.loop-position.invariant.1 header.plain in
    has_written_of_eq _ _ _ _ _
    (all-lines (text_of c.args.self.now.alternate) _ _ _ _ steps all.0 (omega arith) c.decimal_digits-digits.ensures
    c.saturating_sub.ensures all.2) (has_written_append _ _ _ _ _ _ header all.1)
