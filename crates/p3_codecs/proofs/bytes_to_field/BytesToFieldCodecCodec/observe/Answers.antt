use Rattle.std.{proofs.Common.{◌≡◌, ℕ, List, subst}, specs.Result.{OnOk, IfErr}}
use Rattle.p3_challenger_core.specs.Observation.{observed_all, RefusesObserve}
use Rattle.p3_fs_core.specs.{BigEndian.bytes_for, BigEndianLaws.word_end}
use Rattle.p3_codecs.proofs.bytes_to_field.BytesToFieldCodecCodec.observe.Goals as goal

pub returns-clause-ok : goal.returns-clause-ok
returns-clause-ok g c =
    let state = g.C.Sponge.state in
    let encoded = word_end (bytes_for g.F.Field.bit_length) c.wire_len.result
    (g.F.PrimeCharacteristicRing.residues.number c.args.value.now) c.as_canonical_u64.result
    c.to_be_bytes-number.result
    c.wire_len.ensures.width c.wire_len.ensures.most c.as_canonical_u64.ensures c.to_be_bytes-number.ensures in
    subst (λ (bytes : List ℕ). OnOk c.observe_slice.result (state c.observe_slice.new.self
    ≡ observed_all g.C.CanObserve.observation.observed (state c.args.challenger.now) bytes)) encoded
    c.observe_slice.ensures.ok

pub returns-clause-err : goal.returns-clause-err
returns-clause-err g c =
    let state = g.C.Sponge.state in
    let encoded = word_end (bytes_for g.F.Field.bit_length) c.wire_len.result
    (g.F.PrimeCharacteristicRing.residues.number c.args.value.now) c.as_canonical_u64.result
    c.to_be_bytes-number.result
    c.wire_len.ensures.width c.wire_len.ensures.most c.as_canonical_u64.ensures c.to_be_bytes-number.ensures in
    subst (λ (bytes : List ℕ). IfErr c.observe_slice.result (λ e. RefusesObserve
    (g.C.CanObserve.slice_may_leave (state c.args.challenger.now) bytes) e (state c.observe_slice.new.self)))
    encoded c.observe_slice.ensures.err
