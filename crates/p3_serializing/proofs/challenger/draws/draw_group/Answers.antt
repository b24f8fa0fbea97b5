use Rattle.std.proofs.Common.{rules}
use Rattle.p3_serializing.specs.SerializingStateLaws.{refused-group}
use Rattle.p3_serializing.proofs.challenger.draws.draw_group.Goals as goal

pub returns-in_err-bytes : goal.returns-in_err-bytes
returns-in_err-bytes g c =
    let sponge = g.Inner.Sponge in
    let refused = refused-group sponge.next g.Inner.CanSample.sampling g.met.Inner.CanSample.samples g.row.BYTES
    c.in_err-bytes.field-0.0 (sponge.state c.args.inner.now) (sponge.state c.sample_array.new.challenger)
    c.in_err-bytes.ensures.err in
    search (rules, refused)
