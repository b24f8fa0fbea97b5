-- What is left of a proof, by how many bytes it has.
use Rattle.std.proofs.Common.{◌≡◌, ℕ, ◌+◌, ◌-◌, List, ◌++◌, length, drop, take, arith, sym, ap, ap₂, subst, ◌∙◌, Option, None, Some, Bor, Result, Ok, Err}
use Rattle.std.proofs.lemmas.List.{append_assoc, drop_at, length-append, take-append-drop}
use Rattle.p3_challenger.specs.{Driving.Driving, Rules.Rules, ScriptRefusals.sides_of, Scripts.play_of}
use Rattle.std.specs.Option.{option_copied}
use Rattle.p3_challenger.specs.{ProverAnswers.value_given, Sent.Sent, VerifierAnswers.IsRefused}
use Rattle.std.specs.Result.{IfOk}
use Rattle.tealmuze_calls.specs.Written.{ByAnswer}
use Rattle.tealmuze_calls.specs.declared.{telling.Answer.Answer, unanswered.Unanswered.Unanswered}
use Rattle.tealmuze_live.specs.Lives.{TellsTaken, TellsNotTaken, value_handed}
use Rattle.p3_challenger.specs.Step as script
use Rattle.tealmuze_calls.specs.declared.telling.Answer.TheVariants as answer

-- these bytes are the last ones, since they are the last of those that are left
pub left_is : (proof wire rest : List ℕ) (read : ℕ) → drop read proof ≡ wire ++ rest →
    drop (length proof - length rest) proof ≡ rest
left_is proof wire rest read left =
    let head : List ℕ = take read proof ++ wire in
    let whole : head ++ rest ≡ proof =
    append_assoc (take read proof) wire rest ∙ ap (λ bytes. take read proof ++ bytes) (sym left) ∙ take-append-drop read proof in
    let so_many : length head ≡ length proof - length rest =
    omega (arith, length-append head rest, ap length whole) in
    subst (λ bytes. drop (length proof - length rest) bytes ≡ rest) whole (drop_at head rest (length proof - length rest) so_many)

-- two drivers with the same transcript and the same bytes are the same
pub driving_is : {S : Type 0} (v w : Driving S) → v.transcript ≡ w.transcript → v.bytes ≡ w.bytes → v ≡ w
driving_is v w played left = ap₂ (λ transcript bytes. record { transcript = transcript; bytes = bytes }) played left

module _ {Su F EF U O C K Ac D G It St Sy : Type 0} (rules : Rules St Sy It F EF O Ac) (number : F → ℕ)
    (coefficients : EF → List F) (step : script.Step Su F EF U O C K Ac D G It St Sy) (witness : Option F) (position : ℕ)
    (proof : List ℕ) (read : ℕ) (was is before after : Driving St)
    (began : was.transcript ≡ before.transcript) (lent : before.bytes ≡ drop read proof) (had : was.bytes ≡ drop read proof)
    (ended : is.transcript ≡ after.transcript)
    (kept : is.bytes ≡ drop (length proof - length after.bytes) proof) where
  was_is : was ≡ before
  was_is = driving_is was before began (had ∙ sym lent)

  -- what is told of the verifier that is lent the proof is told of the one that keeps it
  pub lent_taken : (told : List ℕ) → TellsTaken rules number coefficients step witness before after told →
      TellsTaken rules number coefficients step witness was is told
  lent_taken told tells =
      let bytes = left_is proof ((play_of rules step).wire tells.takes.value) after.bytes read (sym lent ∙ tells.takes.read) in
      subst (λ v. TellsTaken rules number coefficients step witness v is told) (sym was_is)
      (subst (λ w. TellsTaken rules number coefficients step witness before w told)
      (sym (driving_is is after ended (kept ∙ bytes))) tells)

  pub lent_not_taken : (told : List ℕ) → TellsNotTaken rules number coefficients step witness position before after told →
      TellsNotTaken rules number coefficients step witness position was is told
  lent_not_taken told tells = record {
    error = tells.error;
    refused = subst (λ v. IsRefused (sides_of rules step) witness v tells.error) (sym was_is) tells.refused;
    ended = ap (λ t. t.playing.finished) ended ∙ tells.ended;
    told_is = tells.told_is;
  }

module _ {Su F EF U O C K Ac D G It St Sy : Type 0} where
  -- a value that is lent is the value that is handed
  pub given_is : (given : Option (Bor (Sent Su F EF U O C K Ac D G It St Sy))) (sent : Option (Sent Su F EF U O C K Ac D G It St Sy)) →
      option_copied given ≡ sent → value_given given ≡ value_handed sent
  given_is None sent same = ap value_handed same
  given_is (Some x) sent same = ap value_handed same

-- what is told, if it is so of all that is told
pub taking_told : (found : Result Answer Unanswered) (Tells Is : List ℕ → Type 0) (Wants : ℕ → Type 0) →
    ((told : List ℕ) → Tells told → Is told) → IfOk found (ByAnswer Tells (λ wanted. ⊥)) → IfOk found (ByAnswer Is Wants)
taking_told (Ok (answer.Told bytes)) Tells Is Wants so tells = so bytes.items tells
taking_told (Ok (answer.Wants wanted)) Tells Is Wants so tells = absurd tells
taking_told (Err e) Tells Is Wants so tells = tt
