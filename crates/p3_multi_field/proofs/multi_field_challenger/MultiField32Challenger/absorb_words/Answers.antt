use Rattle.std.proofs.{Common.{rules, ◌≡◌, ◌≤◌, [], length, take, ap, ◌∙◌, arith}, lemmas.List.length-take-le}
use Rattle.p3_multi_field.{specs.MultiFieldState.MultiFieldState, proofs.Numbers.keeps_all}
use Rattle.p3_multi_field.proofs.multi_field_challenger.MultiField32Challenger.absorb_words.Goals as goal

pub invariant_of-self : goal.invariant_of-self
invariant_of-self g c =
    let inside = c.self.inside in
    let pending = take inside.scalars inside.pending in
    let within : inside.scalars ≤ length inside.pending = search rules in
    let long : length pending ≡ inside.scalars = length-take-le inside.scalars inside.pending within in
    let none : pending ≡ [] =
    ap (λ (s : MultiFieldState g.row.F.Denot g.row.PF.Denot g.row.P.Denot). s.sponge.pending) c.self.view_is
    ∙ c.requires.none in
    let no_length : length pending ≡ 0 = ap length none in
    keeps_all _ _ _ _ _ _ _ _ c.self.invariant c.row_len-row_len.result (omega (arith, long, no_length))
    c.row_len-row_len.ensures
