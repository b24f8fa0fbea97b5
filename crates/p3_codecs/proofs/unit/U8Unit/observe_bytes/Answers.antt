use Rattle.std.{proofs.Common.{◌≡◌, arith, sym, subst}, specs.List.flat_map, specs.Result.OnOk}
use Rattle.p3_challenger_core.specs.{Reading.AreBytes, Sponge.IsFed, ObservationLaws.{all-fed, all-fed_exactly, on_ok}}
use Rattle.p3_challenger_core.specs.SymbolLaws.{byte-feeds, bytes-feed}
use Rattle.p3_codecs.proofs.unit.U8Unit.observe_bytes.Goals as goal

pub returns-clause-fed : goal.returns-clause-fed
returns-clause-fed g c =
    let o = g.C.CanObserve.observation in
    let sponge = g.C.Sponge in
    let bytes = c.args.bytes.now in
    let old = sponge.state c.args.challenger.now in
    let fed = all-fed sponge.fed sponge.fed_nothing sponge.fed_more o g.met.C.CanObserve.observes old bytes in
    on_ok c.observe_slice.result (λ is. subst (λ s. IsFed sponge.fed old (flat_map o.symbols bytes) s) (sym is) fed)
    c.observe_slice.ensures.ok

pub returns-clause-fed_exactly : goal.returns-clause-fed_exactly
returns-clause-fed_exactly g c = λ prefix_code.
    let o = g.C.CanObserve.observation in
    let sponge = g.C.Sponge in
    let bytes = c.args.bytes.now in
    let are_bytes : AreBytes bytes = λ i. omega (arith, c.type_inv.bytes i) in
    let old = sponge.state c.args.challenger.now in
    let fed = all-fed_exactly sponge.fed sponge.fed_nothing sponge.fed_more o g.met.C.CanObserve.observes old bytes
    (bytes-feed o.symbols (byte-feeds o.symbols prefix_code) bytes are_bytes) in
    subst (λ s. OnOk c.observe_slice.result (sponge.state c.observe_slice.new.self ≡ s)) fed c.observe_slice.ensures.ok
