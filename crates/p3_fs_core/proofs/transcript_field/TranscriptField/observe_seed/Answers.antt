use Rattle.std.{proofs.Common.{◌≡◌, sym, subst}, specs.List.flat_map, specs.Result.OnOk}
use Rattle.p3_challenger_core.specs.{Sponge.IsFed, ObservationLaws.{all-fed, all-fed_exactly, on_ok}}
use Rattle.p3_challenger_core.specs.SymbolLaws.{element-feeds, row-feeds}
use Rattle.p3_fs_core.specs.Packing.{packed, chunk_bytes}
use Rattle.p3_fs_core.proofs.transcript_field.TranscriptField.observe_seed.Goals as goal

pub returns-clause-fed : goal.returns-clause-fed
returns-clause-fed g c =
    let o = g.C.CanObserve.observation in
    let sponge = g.C.Sponge in
    let old = sponge.state c.args.challenger.now in
    let values = packed g.Self.PrimeCharacteristicRing.residues (chunk_bytes g.Self.Field.bit_length) c.args.bytes.now
    in
    let fed = all-fed sponge.fed sponge.fed_nothing sponge.fed_more o g.met.C.CanObserve.observes old values in
    on_ok c.observe_packed.result (λ is. subst (λ s. IsFed sponge.fed old (flat_map o.symbols values) s) (sym is) fed)
    c.observe_packed.ensures.ok

pub returns-clause-fed_exactly : goal.returns-clause-fed_exactly
returns-clause-fed_exactly g c = λ prefix_code.
    let r = g.Self.PrimeCharacteristicRing.residues in
    let o = g.C.CanObserve.observation in
    let sponge = g.C.Sponge in
    let each = element-feeds r g.met.Self.PrimeCharacteristicRing.are_residues o.symbols prefix_code in
    let old = sponge.state c.args.challenger.now in
    let values = packed r (chunk_bytes g.Self.Field.bit_length) c.args.bytes.now in
    let fed = all-fed_exactly sponge.fed sponge.fed_nothing sponge.fed_more o g.met.C.CanObserve.observes old values
    (row-feeds o.symbols each values) in
    subst (λ s. OnOk c.observe_packed.result (sponge.state c.observe_packed.new.challenger ≡ s)) fed
    c.observe_packed.ensures.ok
