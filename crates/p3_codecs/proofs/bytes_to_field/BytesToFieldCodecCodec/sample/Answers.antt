use Rattle.std.proofs.{Common.{◌≡◌, ℕ, ◌+◌, List, length, take, replicate, subst, arith}, lemmas.List.length-take-le}
use Rattle.std.proofs.lemmas.Result.{err_from_is_err_and}
use Rattle.p3_challenger_core.specs.{Sampling.RefusesDraws, SamplingLaws.refused-in_row}
use Rattle.p3_fs_core.specs.BigEndian.{bytes_for}
use Rattle.p3_codecs.proofs.bytes_to_field.BytesToFieldCodecCodec.sample.Goals as goal

-- one of the bytes is refused
pub returns-in_err-sample_into_slice-clause-err : goal.returns-in_err-sample_into_slice-clause-err
returns-in_err-sample_into_slice-clause-err g c =
    let p = err_from_is_err_and c.from_residual.result c.from_residual.ensures.1 in
    let m = g.C.CanSample in
    let state = g.C.Sponge.state in
    let e = c.in_err-sample_into_slice.field-0.0 in
    let start = state c.args.challenger.now in
    let end = state c.sample_into_slice.new.self in
    let n = bytes_for g.F.Field.bit_length + 16 in
    let room : List ℕ = replicate 24 0 in
    let as_many : length (take (c.wire_len.result + 16) room) ≡ n =
    omega (
      arith,
      length-take-le (c.wire_len.result + 16) room (omega (arith, c.wire_len.ensures.most)),
      c.wire_len.ensures.width,
    ) in
    rw (p.1, p.2) (refused-in_row g.C.Sponge.next m.sampling g.met.C.CanSample.samples
    n e start end (subst (λ (k : ℕ). RefusesDraws m.sampling k e start end) as_many
    c.in_err-sample_into_slice.ensures.err))
