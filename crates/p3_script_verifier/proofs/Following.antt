-- A verifier that follows a script: what its loop keeps, and what comes of it.
use Rattle.std.proofs.Common.{◌≡◌, ◌<◌, ◌≤◌, ◌+◌, ℕ, suc, zero, List, [], ◌∷◌, ◌++◌, Option, refl, sym, ap, subst}
use Rattle.std.proofs.Common.{length, drop, get_or, drop-cons, add-one, arith}
use Rattle.p3_fs_core.specs.StepFits.{FitsLength}
use Rattle.p3_driver_core.specs.{Driving.Driving, Verifying.EndsReading}
use Rattle.p3_runs.specs.{Fronts.Run, FollowingLaws.{Follows, follows-on, follows-end, follows-outcome}, Plays.Play}
use Rattle.p3_runs.specs.{NoProofLaws.one-run, Rules.Rules, Runs.{AreAdmitted, carried_count, if_carried}}
use Rattle.p3_runs.specs.{Stepping.{IsCarriedTo, one_of, IsCanonical}, Values.{Value, Challenge}}
use Rattle.p3_runs.specs.Verdicts.{Accepts}
use Rattle.p3_script_verifier.specs.VerifierAnswers.{KeepsOne}

-- the part from i on begins with the element there
pub part-on : {X : Type 0} (xs : List X) (i : ℕ) (x : X) → i < length xs → x ≡ get_or xs i x →
    drop i xs ≡ x ∷ drop (i + 1) xs
part-on xs i x h e = rw (drop-cons xs i x, add-one, ← e) refl

module _ {X S Symbol F EF O : Type 0} (play : X → Play S Symbol F EF O) where
  admitted-drop : (steps : List X) (i : ℕ) → AreAdmitted play steps → AreAdmitted play (drop i steps)
  admitted-drop steps zero all = all
  admitted-drop [] (suc i) all = all
  admitted-drop (x ∷ steps) (suc i) all = admitted-drop steps i all.1

  admitted-at : (steps : List X) (i : ℕ) (x : X) (later : List X) → drop i steps ≡ x ∷ later →
      AreAdmitted play steps → (play x).admitted
  admitted-at steps i x later at all = (subst (AreAdmitted play) at (admitted-drop steps i all)).0

  carried-at : (steps : List X) (carried : List F) (i j : ℕ) (x : X) (later : List X) →
      drop i steps ≡ x ∷ later → carried_count play (drop i steps) ≡ length (drop j carried) →
      length (if_carried (play x).place (tt {0})) ≤ length (drop j carried)
  carried-at steps carried i j x later at left =
      let count : carried_count play (drop i steps)
      ≡ length (if_carried (play x).place (tt {0})) + carried_count play later
      = ap (carried_count play) at in
      omega (arith, count, left)

module _ {X S Symbol I F EF O Ac : Type 0} (rules : Rules S Symbol I F EF O Ac) (play : X → Play S Symbol F EF O)
    (script : Run X F EF S) (bytes : List ℕ) (carried : List F) where
  -- the step that comes next may be played
  pub next-admitted : (i j : ℕ) (here : Driving S) (received : List (Value F EF)) (drawn : List (Challenge F EF))
      (x : X) (later : List X) → Follows rules play script bytes carried i j here received drawn →
      drop i script.steps ≡ x ∷ later → AreAdmitted play script.steps → (play x).admitted
  next-admitted i j here received drawn x later f at all = admitted-at play script.steps i x later at all

  -- and there is a witness for it, where it has one
  pub next-carried : (i j : ℕ) (here : Driving S) (received : List (Value F EF)) (drawn : List (Challenge F EF))
      (x : X) (later : List X) → Follows rules play script bytes carried i j here received drawn →
      drop i script.steps ≡ x ∷ later → length (if_carried (play x).place (tt {0})) ≤ length (drop j carried)
  next-carried i j here received drawn x later f at = carried-at play script.steps carried i j x later at f.left

  -- a step more was played, and what came of it was kept
  pub follows-kept : (i j k : ℕ) (here there : Driving S) (received received_now : List (Value F EF))
      (drawn drawn_now : List (Challenge F EF)) (x : X) (w : Option F) →
      drop i script.steps ≡ x ∷ drop (i + 1) script.steps → drop j carried ≡ one_of w ++ drop k carried →
      IsCarriedTo (play x).place w → Follows rules play script bytes carried i j here received drawn →
      KeepsOne (play x) w here received drawn there received_now drawn_now →
      Follows rules play script bytes carried (i + 1) k there received_now drawn_now
  follows-kept i j k here there received received_now drawn drawn_now x w at uses brought f one =
      subst (λ l. Follows rules play script bytes carried (i + 1) k there l drawn_now) (sym one.kept)
      (subst (λ l. Follows rules play script bytes carried (i + 1) k there (received ++ one.shown) l) (sym one.drew)
      (follows-on rules play script bytes carried i j k here there received one.shown drawn x w one.draws at uses brought f
      one.takes))

  -- all was played and read: the proof is accepted
  pub follows-accepts : ((x : X) → FitsLength (play x).interaction.length → IsCanonical (play x)) →
      (i j : ℕ) (now : Driving S) (received : List (Value F EF)) (drawn : List (Challenge F EF)) (end : S) →
      length script.steps ≤ i → Follows rules play script bytes carried i j now received drawn → EndsReading now →
      end ≡ now.transcript.challenger → Accepts rules play script bytes carried received drawn end
  follows-accepts canonical i j now received drawn end past f ends is =
      let proof = follows-end rules play script bytes carried i j now received drawn past f ends in
      record {
        values = f.values;
        proof = proof;
        outcome = follows-outcome rules play script bytes carried i j now received drawn past f end is;
        only = λ others other. one-run rules play canonical script bytes carried f.values proof others other;
      }
