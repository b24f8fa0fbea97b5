use Rattle.std.proofs.{Common.{ap, inr, refl}, lemmas.Result.err_from_is_err_and}
use Rattle.p3_driver_core.specs.Transcripts.{Transcript}
use Rattle.p3_script_answers.proofs.Turning.{given-same, lent-handed, played-with}
use Rattle.p3_script_answers.proofs.playing.play_answered.Goals as goal

pub prover_step-requires-clause-handed : goal.prover_step-requires-clause-handed
prover_step-requires-clause-handed g c =
    lent-handed _ c.as_ref.result c.args.value c.as_ref.ensures.value c.requires.answered

pub returns-in_err-witness-clause-played : goal.returns-in_err-witness-clause-played
returns-in_err-witness-clause-played g c =
    let p = err_from_is_err_and c.from_residual.result c.from_residual.ensures.1 in
    rw (p.1, p.2)
    (record { comes = rw (given-same c.as_ref.result c.args.value c.as_ref.ensures.value) at c.in_err-witness.ensures.comes })

pub returns-in-Err-clause-played : goal.returns-in-Err-clause-played
returns-in-Err-clause-played g c =
    record {
      comes = inr (refl, ap (λ (t : Transcript g.row.S-Challenger-State.Denot). t.playing.finished) c.halt.ensures.transcript);
    }

pub returns-in-Ok-clause-played : goal.returns-in-Ok-clause-played
returns-in-Ok-clause-played g c =
    record {
      comes = played-with _ c.standing_of.result _ _ _ _ _ _ _ _ _ _ _ c.standing_of.ensures
          (rw (given-same c.as_ref.result c.args.value c.as_ref.ensures.value) at c.in_ok-witness.ensures.comes)
          c.in-Ok.ensures.witnesses c.in-Ok.ensures.carried c.in-Ok.ensures.challenges;
    }
