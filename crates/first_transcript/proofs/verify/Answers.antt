use Rattle.std.proofs.Common.{◌≡◌, [], length, drop, Option, Some, Result, Ok, arith, refl, sym, ap, ◌∙◌, length-drop}
use Rattle.{p3_hash_challenger.specs.HashState.{observed, function_of}, p3_fs_core.specs.declared.error.TranscriptError.TranscriptError}
use Rattle.p3_small_primes.specs.BabyBearResidues.{BabyBear}
use Rattle.first_transcript.specs.{Scalar.width, First.{drawn_scalar, after_scalar, read_whole}}
use Rattle.first_transcript.proofs.FirstLemmas.{read_whole-decoded}
use Rattle.first_transcript.specs.Scalar as scalar
use Rattle.first_transcript.proofs.verify.Goals as goal

-- the proof is, whole, the scalar that was decoded
pub returns-clause-exact : goal.returns-clause-exact
returns-clause-exact g c =
    let none : length (drop width c.args.narg.now) ≡ 0 = omega (arith, length-drop width c.args.narg.now) in
    let whole : read_whole c.args.narg.now ≡ Ok c.in_ok-found.found =
    read_whole-decoded c.args.narg.now c.in_ok-found.found none c.in_ok-found.ensures.exact in
    let seen = c.in_ok-observe.ensures.ok in
    rw whole (
      refl,
      record {
        drawn = rw (← seen) c.draw-drawn.ensures.drawn;
        left = rw (← seen) c.draw-drawn.ensures.after;
      },
    )

-- the scalar that was decoded is the prover's, and so are the challenge and the challenger
pub returns-clause-accepts : goal.returns-clause-accepts
returns-clause-accepts g c = λ value challenge after run encoded.
    let found : ◌≡◌ {A = Result BabyBear TranscriptError} (Ok c.in_ok-found.found) (Ok value) =
    c.in_ok-found.ensures.only value [] encoded in
    let same : c.in_ok-found.found ≡ value = cc in
    let hasher = g.H.CryptographicHasher in
    let function = function_of hasher.hash g.row.OUT_LEN hasher.filler in
    let start = λ (v : BabyBear). scalar.observed observed c.args.challenger v in
    let seen : c.observe.new.challenger ≡ start value = c.in_ok-observe.ensures.ok ∙ ap start same in
    let drawn : ◌≡◌ {A = Option BabyBear} (Some c.draw-drawn.result) (Some challenge) =
    sym c.draw-drawn.ensures.drawn ∙ ap (drawn_scalar function) seen ∙ run.drawn in
    let challenges : c.draw-drawn.result ≡ challenge = cc in
    (same, (challenges, c.draw-drawn.ensures.after ∙ ap (after_scalar function) seen ∙ sym run.left))
