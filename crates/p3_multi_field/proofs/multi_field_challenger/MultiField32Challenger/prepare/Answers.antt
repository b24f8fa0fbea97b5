use Rattle.std.proofs.Common.{◌≡◌, ◌+◌, ◌-◌, ◌*◌, ◌/◌, ◌%◌, ◌<◌, ◌++◌, ◌∷◌, [], ◌∙◌, length, take, drop, slice_index_or}
use Rattle.std.proofs.Common.{sym, ap, ap₂, subst, arith}
use Rattle.std.proofs.lemmas.{List.{take_more, take_all, length-take, length-take-le, length-drop}, Nat.{div-add-mod', mod_below, div_below}}
use Rattle.p3_multi_field.specs.MultiFieldCalls.{scalars_over}
use Rattle.p3_multi_field.specs.MultiFieldState.{MultiFieldState}
use Rattle.p3_multi_field.specs.PreparedChecks.{PreparedChecks, PreparedFor}
use Rattle.p3_multi_field.proofs.{Pairs.pair_over, Preparing.given-is_drawn}
use Rattle.p3_multi_field.proofs.multi_field_challenger.MultiField32Challenger.prepare.Goals as goal

-- the candidate is the scalar after those that are pending, and its cell is that of their last part
pub returns : goal.returns
returns g c =
    let bridge = g.PF.FieldBridge in
    let inner = g.F.PrimeCharacteristicRing.residues in
    let pair = pair_over inner g.PF.PrimeCharacteristicRing.residues bridge in
    let permute = g.P.CryptographicPermutation.permutation in
    let rate = g.row.RATE in
    let inside = c.self.inside in
    let keeps = c.self.invariant in
    let size = bridge.ABSORB_COUNT in
    let pending = take inside.scalars inside.pending in
    let state : MultiFieldState g.row.F.Denot g.row.PF.Denot g.row.P.Denot = record {
      sponge = record { cells = inside.sponge_state; pending = pending; outputs_left = inside.outputs_left };
      permutation = inside.permutation;
    } in
    let here : inside.scalars < length inside.pending = omega (arith, length-take (inside.scalars + 1) inside.pending) in
    let count : length pending ≡ inside.scalars = length-take-le inside.scalars inside.pending (omega (arith, here)) in
    let k = length pending / size in
    let more = length pending % size in
    let long : length pending ≡ k * size + more = sym (div-add-mod' (length pending) size) in
    let values : c.pending-scalars.result.now ≡ pending =
    c.pending-scalars.ensures.values ∙ sym (ap (λ (s : MultiFieldState g.row.F.Denot g.row.PF.Denot g.row.P.Denot). s.sponge.pending) c.self.view_is) in
    let any = slice_index_or inside.pending inside.scalars (inner.of 0) in
    let cells : c.pack_over.new.cells ≡ scalars_over pair rate inside.sponge_state (pending ++ any ∷ []) =
    c.pack_over.ensures ∙ ap (scalars_over pair rate inside.sponge_state) (take_more inside.pending inside.scalars (inner.of 0) here) in
    let prepared : PreparedChecks g.row.F.Denot g.row.PF.Denot g.row.P.Denot = record {
      cells = scalars_over pair rate inside.sponge_state (pending ++ any ∷ []);
      place = k;
      before = drop (k * size) pending;
      permutation = inside.permutation;
    } in
    let scalars = c.pending-scalars.result.now in
    let place : length scalars / c.ABSORB_COUNT.result ≡ k = ap₂ (λ xs m. length xs / m) values c.ABSORB_COUNT.ensures in
    let whole = length scalars - length scalars % c.ABSORB_COUNT-2.result in
    let rest : length scalars % c.ABSORB_COUNT-2.result ≡ more = ap₂ (λ xs m. length xs % m) values c.ABSORB_COUNT-2.ensures in
    let whole_is : whole ≡ k * size = omega (arith, rest, ap length values, long) in
    let before : take (length scalars - whole) (drop whole scalars) ≡ drop (k * size) pending =
    take_all (length scalars - whole) (drop whole scalars) (omega (arith, length-drop whole scalars))
    ∙ ap₂ drop whole_is values in
    let is : c.new.result ≡ prepared = c.new.ensures ∙ (λ i. record {
      cells = cells i;
      place = place i;
      before = before i;
      permutation = inside.permutation;
    }) in
    let below : k < rate = div_below (length pending) size rate keeps.some_packed (omega (arith, keeps.short, count)) in
    let for_state : PreparedFor pair permute rate state prepared = λ w.
    given-is_drawn pair permute rate keeps.positive keeps.some_digits state any k more long
    (mod_below (length pending) size keeps.some_packed) below w in
    subst (PreparedFor pair permute rate c.args.self.now) (sym is)
    (subst (λ s. PreparedFor pair permute rate s prepared) c.self.view_is for_state)
