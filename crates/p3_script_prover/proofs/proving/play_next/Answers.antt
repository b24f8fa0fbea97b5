use Rattle.std.proofs.{Common.{inr, refl, ap}, lemmas.Result.err_from_is_err_and}
use Rattle.p3_driver_core.specs.Transcripts.{Transcript}
use Rattle.p3_script_prover.proofs.Handing.{handed-next, refused-next, played-next}
use Rattle.p3_script_prover.proofs.proving.play_next.Goals as goal

pub prover_step-requires-clause-handed : goal.prover_step-requires-clause-handed
prover_step-requires-clause-handed g c =
    (handed-next _ c.standing_of-standing.result c.args.sent.now c.args.next.now c.given_at-given.result
    c.standing_of-standing.ensures c.given_at-given.ensures.given c.requires.handed).handed

pub returns-in_err-witness : goal.returns-in_err-witness
returns-in_err-witness g c =
    let p = err_from_is_err_and c.from_residual.result c.from_residual.ensures.1 in
    let n = handed-next _ c.standing_of-standing.result c.args.sent.now c.args.next.now c.given_at-given.result
    c.standing_of-standing.ensures c.given_at-given.ensures.given c.requires.handed in
    rw (p.1, p.2) (record { comes = refused-next _ _ _ _ _ _ _ _ _ n c.in_err-witness.ensures.comes })

pub returns-in-Err : goal.returns-in-Err
returns-in-Err g c =
    let n = handed-next _ c.standing_of-standing.result c.args.sent.now c.args.next.now c.given_at-given.result
    c.standing_of-standing.ensures c.given_at-given.ensures.given c.requires.handed in
    record {
      comes = refused-next _ _ _ _ _ _ _ _ _ n
          (inr (refl, ap (λ (t : Transcript g.row.S-Challenger-State.Denot). t.playing.finished) c.halt.ensures.transcript));
    }

pub returns-in-Ok : goal.returns-in-Ok
returns-in-Ok g c =
    let n = handed-next _ c.standing_of-standing.result c.args.sent.now c.args.next.now c.given_at-given.result
    c.standing_of-standing.ensures c.given_at-given.ensures.given c.requires.handed in
    record {
      comes = played-next _ c.standing_of-standing.result c.args.sent.now c.args.next.now _ c.given_at-given.result _ _ _ _ _ _ _ _
          _ _ c.standing_of-standing.ensures n c.place_after.ensures c.in_ok-witness.ensures.comes c.in-Ok.ensures.witnesses
          c.in-Ok.ensures.carried c.in-Ok.ensures.challenges;
    }
