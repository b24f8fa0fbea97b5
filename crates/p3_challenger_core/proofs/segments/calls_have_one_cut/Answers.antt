use Rattle.p3_challenger_core.specs.SegmentLaws.{segments-cut, cut-only}
use Rattle.p3_challenger_core.proofs.segments.calls_have_one_cut.Goals as goal

pub returns-clause-cut : goal.returns-clause-cut
returns-clause-cut g c = segments-cut

pub returns-clause-only : goal.returns-clause-only
returns-clause-only g c = λ calls cut is_cut. cut-only calls cut.first cut.others is_cut
