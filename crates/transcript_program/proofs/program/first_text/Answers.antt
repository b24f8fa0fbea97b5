use Rattle.std.proofs.Common.{◌≡◌, ℕ, List, [], sym, ap, ◌∙◌, subst}
use Rattle.sha2.specs.Sha256.{sha256}
use Rattle.p3_challenger.specs.{HashState.{HashState, function_of}, HashCalls.with_pending, Sha256Hasher.Sha256Hasher}
use Rattle.{first_transcript.specs.{Scalar.wire, First.IsRun}, transcript_program.specs.Program.lines}
use Rattle.transcript_program.proofs.program.first_text.Goals as goal

abbrev fresh_with : List ℕ → HashState ℕ Sha256Hasher
fresh_with values = record { sponge = with_pending values; hasher = record {} }

-- the proof is accepted, with the prover's challenge
pub returns-clause-ok : goal.returns-clause-ok
returns-clause-ok c =
    let value = c.args.value in
    let run = c.in_ok-run.run' in
    let prover : c.new-2.result ≡ fresh_with [] = c.new-2.ensures.value ∙ ap fresh_with c.new.ensures.items in
    let verifier : c.new-4.result ≡ fresh_with [] = c.new-4.ensures.value ∙ ap fresh_with c.new-3.ensures.items in
    let proved = subst (λ (s : HashState ℕ Sha256Hasher). IsRun (function_of (λ _ m. sha256 m) 32 0) s value
    run.challenge run.challenger) prover c.in_ok-run.ensures.run in
    let handed = subst (λ (s : HashState ℕ Sha256Hasher). IsRun (function_of (λ _ m. sha256 m) 32 0) s value
    run.challenge run.challenger) (sym verifier) proved in
    let accepted = c.in_ok-read.ensures.accepts value run.challenge run.challenger handed (c.as_slice.ensures.value
    ∙ c.in_ok-run.ensures.wire) in
    let challenges = accepted.1.0 in
    let shown = c.in_ok-first_lines.ensures in
    record {
      challenge = run.challenge;
      after = run.challenger;
      run = proved;
      text_is = shown ∙ ap (λ proof. lines proof c.in_ok-read.read.challenge) (c.as_slice-2.ensures.value
          ∙ c.in_ok-run.ensures.wire) ∙ ap (lines (wire value)) challenges;
    }
