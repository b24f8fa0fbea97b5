use Rattle.std.proofs.{Common.{◌≡◌, ◌-◌, drop, length, inl, inr, ap, sym, ◌∙◌, arith}, lemmas.List.take_rest}
use Rattle.tealmuze_live.specs.Readings.{reading_of}
use Rattle.tealmuze_live.proofs.Left.{lent_taken, lent_not_taken}
use Rattle.tealmuze_live.proofs.verifier.Verifier.play_step.Goals as goal

-- the step is played
pub returns-in-Played-clause-ok : goal.returns-in-Played-clause-ok
returns-in-Played-clause-ok g c =
    let proof = c.args.self.proof.items in
    let read : length proof - c.args.self.left ≡ c.saturating_sub-read.result =
    omega (arith, c.saturating_sub-read.ensures, c.len.ensures, c.deref.ensures.len, ap length c.deref.ensures.value) in
    inl (lent_taken _ _ _ _ _ 0 proof _ (reading_of g.S.Challenger.Sponge.state c.args.self) _ _ _
    (sym c.with_unread-driver.ensures.transcript)
    (c.with_unread-driver.ensures.unread ∙ take_rest c.deref.result.now c.saturating_sub-read.result
    ∙ ap (drop c.saturating_sub-read.result) c.deref.ensures.value)
    (ap (λ n. drop n proof) read)
    c.with_unread-driver-2.ensures.transcript
    (ap (λ n. drop (length proof - n) proof) c.remaining_narg-left.ensures) _ (rw c.in-Played.is at c.in-Ok.ensures.ok))

-- it is refused
pub returns-in-Refused-clause-ok : goal.returns-in-Refused-clause-ok
returns-in-Refused-clause-ok g c =
    let proof = c.args.self.proof.items in
    let read : length proof - c.args.self.left ≡ c.saturating_sub-read.result =
    omega (arith, c.saturating_sub-read.ensures, c.len.ensures, c.deref.ensures.len, ap length c.deref.ensures.value) in
    inr (lent_not_taken _ _ _ _ _ _ proof _ (reading_of g.S.Challenger.Sponge.state c.args.self) _ _ _
    (sym c.with_unread-driver.ensures.transcript)
    (c.with_unread-driver.ensures.unread ∙ take_rest c.deref.result.now c.saturating_sub-read.result
    ∙ ap (drop c.saturating_sub-read.result) c.deref.ensures.value)
    (ap (λ n. drop n proof) read)
    c.with_unread-driver-2.ensures.transcript
    (ap (λ n. drop (length proof - n) proof) c.remaining_narg-left.ensures) _ (rw c.in-Refused.is at c.in-Ok.ensures.ok))
