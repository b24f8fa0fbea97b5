-- What a prover is handed for the next step.
use Rattle.std.{specs.Borrow.Bor, proofs.Common.{drop, slice_get, add-one, ◌⊎◌, ◌≡◌, ◌+◌, ℕ, suc, zero, List, [], ◌∷◌}}
use Rattle.std.proofs.Common.{◌++◌, Option, Some, None, refl, sym, ap, ◌∙◌, subst, append-nil, inl, inr, Err}
use Rattle.p3_driver_core.specs.Driving.{Driving}
use Rattle.p3_runs.specs.{Plays.Play, Provings.{StartsHanded, where_carried}, Runs.{if_sent, if_drawn, if_witness}}
use Rattle.p3_runs.specs.{Sides.Sides, Stepping.{SendsStep, one_of, Halts}}
use Rattle.p3_runs.specs.Values.{Value, Challenge, IsNothing, Nothing}
use Rattle.p3_script.specs.Alike.{PlaysOrRefusesAlike, PlaysWithoutValue}
use Rattle.p3_script.specs.Scripts.{value_sent, values_sent, challenge_of, challenges_of, drawn_of}
use Rattle.p3_script.specs.{declared.{steps.{Drawn.Drawn, Sent.Sent}, standing.Standing.Standing}, Standings.StandsSo}
use Rattle.p3_fs_core.specs.declared.error.TranscriptError.{TranscriptError}
use Rattle.p3_script_prover.specs.Nexts.{IsGivenAt, lent, next_place, carried_at, PlaysNext, RefusesNext}
use Rattle.p3_script_prover.specs.ProverAnswers.{value_given, value_played, SendsValue}
use Rattle.p3_runs.specs.Plays as place
use Rattle.p3_script.specs.declared.standing.Standing.TheVariants as standing

-- what was played with a value is sent
pub sends-played : {S Symbol F EF O : Type 0} (play : Play S Symbol F EF O) (before after : Driving S) (given : Value F EF)
    (witness : Option F) (drawn : Option (Challenge F EF)) → SendsValue play before given witness drawn after →
    SendsStep play (if_sent play.place given) before witness drawn after
sends-played play before after given witness drawn s =
    record {
      value = value_played witness given;
      fits = s.fits;
      sent = s.sent;
      found = s.found;
      chosen = s.chosen;
      plays = s.plays;
      written = s.written;
    }

-- a step that both sides play alike is sent
pub alike-sent : {S Symbol F EF O : Type 0} (play : Play S Symbol F EF O) (before after : Driving S) (given : Value F EF)
    (drawn : Option (Challenge F EF)) → IsNothing given → PlaysWithoutValue play before drawn after →
    SendsValue play before given None drawn after
alike-sent play before after Nothing drawn is p =
    record {
      fits = p.fits;
      sent = refl;
      found = ap (λ q. if_witness q Nothing) p.nowhere;
      chosen = p.chosen;
      plays = p.plays;
      written = p.bytes ∙ sym (ap (λ l. before.bytes ++ l) p.wire ∙ append-nil before.bytes);
    }
alike-sent play before after _ drawn is p = absurd is

-- or it is refused
pub alike-refused : {S Symbol F EF O R : Type 0} (play : Play S Symbol F EF O) (sides : Sides S F EF)
    (before after : Driving S) (drawn : R → Option (Challenge F EF)) (e : TranscriptError) (given : Value F EF) →
    PlaysOrRefusesAlike play sides before drawn (Err e) after → sides.prover given before e after ⊎ Halts before e after
alike-refused play sides before after drawn e given p =
    elim p.comes [ inl each ↦ inl (each.0 given) | inr halts ↦ inr halts ]

-- a witness is carried where the code says so
pub carried-same : {S Symbol F EF O : Type 0} (play : Play S Symbol F EF O) (standing : Standing) (xs : List F) →
    StandsSo play standing → carried_at standing xs ≡ where_carried play.place xs
carried-same play standing.Sent xs h = ap (λ p. where_carried p xs) (sym h.so)
carried-same play _ xs h = ap (λ p. where_carried p xs) (sym h.so.0)

-- what was drawn besides
pub drawn-more : {Su F EF U O C K Ac D G It St Sy : Type 0} (xs : List (Drawn Su F EF U O C K Ac D G It St Sy))
    (drawn : Option (Drawn Su F EF U O C K Ac D G It St Sy)) →
    challenges_of (xs ++ one_of drawn) ≡ challenges_of xs ++ if_drawn (Some (drawn_of drawn))
drawn-more [] None = refl
drawn-more [] (Some x) = refl
drawn-more (y ∷ xs) drawn = ap (λ l. challenge_of y ∷ l) (drawn-more xs drawn)

-- what is handed for the next step: it may be, and it is the first value that was not used yet, if the step is sent one
pub record IsHandedNext {S Symbol F EF O : Type 0} (play : Play S Symbol F EF O) (sent : List (Value F EF)) (j k : ℕ)
    (given : Value F EF) : Type 0 where
  pub handed : play.IsHanded given
  pub used : drop j sent ≡ if_sent play.place given ++ drop k sent

-- the step is refused
pub refused-next : {S Symbol F EF O : Type 0} (play : Play S Symbol F EF O) (sides : Sides S F EF)
    (vals : List (Value F EF)) (at k : ℕ) (given : Value F EF) (here there : Driving S) (e : TranscriptError) → IsHandedNext play vals at k given →
    sides.prover given here e there ⊎ Halts here e there → RefusesNext play sides vals at here e there
refused-next play sides vals at k given here there e n refuses =
    record { given = given; unused = drop k vals; used = n.used; handed = n.handed; refuses = refuses }

module _ {Su F EF U O C K Ac D G It St Sy S Symbol : Type 0} (play : Play S Symbol F EF O) where
  not_sent : (sent : List (Sent Su F EF U O C K Ac D G It St Sy)) (at : ℕ)
      (given : Option (Bor (Sent Su F EF U O C K Ac D G It St Sy))) → given ≡ None →
      ((v : Value F EF) → if_sent play.place v ≡ []) → play.IsHanded Nothing →
      IsHandedNext play (values_sent sent) at (next_place at given) (value_given given)
  not_sent sent at None h none handed =
      record { handed = handed; used = ap (λ l. l ++ drop at (values_sent sent)) (sym (none Nothing)) }
  not_sent sent at (Some x) h none handed = absurd (cc)

  -- the first value that was not used yet, if the step is sent one
  record Gets (sent : List (Sent Su F EF U O C K Ac D G It St Sy)) (at : ℕ) : Type 0 where
    pub x : Sent Su F EF U O C K Ac D G It St Sy
    pub place : slice_get sent at ≡ Some x
    pub handed : play.IsHanded (value_sent x)
    pub rest : drop at (values_sent sent) ≡ value_sent x ∷ drop (suc at) (values_sent sent)

  gets : (sent : List (Sent Su F EF U O C K Ac D G It St Sy)) (at : ℕ) →
      StartsHanded place.Sent play.IsHanded (drop at (values_sent sent)) → Gets sent at
  gets [] zero h = absurd h
  gets [] (suc at) h = absurd h
  gets (x ∷ sent) zero h = record { x = x; place = refl; handed = h.0; rest = refl }
  gets (x ∷ sent) (suc at) h =
      let got = gets sent at h in
      record { x = got.x; place = got.place; handed = got.handed; rest = got.rest }

  first_sent : (sent : List (Sent Su F EF U O C K Ac D G It St Sy)) (at : ℕ)
      (given : Option (Bor (Sent Su F EF U O C K Ac D G It St Sy))) → lent given ≡ slice_get sent at →
      StartsHanded place.Sent play.IsHanded (drop at (values_sent sent)) → play.place ≡ place.Sent →
      IsHandedNext play (values_sent sent) at (next_place at given) (value_given given)
  first_sent sent at None h starts is =
      let got = gets sent at starts in
      let e : None ≡ Some got.x = h ∙ got.place in
      absurd (cc)
  first_sent sent at (Some r) h starts is =
      let got = gets sent at starts in
      let e : Some r.now ≡ Some got.x = h ∙ got.place in
      let same : got.x ≡ r.now = cc in
      record {
        handed = subst (λ y. play.IsHanded (value_sent y)) same got.handed;
        used = got.rest ∙ ap (λ y. value_sent y ∷ drop (suc at) (values_sent sent)) same
            ∙ ap (λ (n : ℕ). value_sent r.now ∷ drop n (values_sent sent)) (sym (add-one at))
            ∙ ap (λ p. if_sent p (value_sent r.now) ++ drop (at + 1) (values_sent sent)) (sym is);
      }

  pub handed-next : (standing : Standing) (sent : List (Sent Su F EF U O C K Ac D G It St Sy)) (at : ℕ)
      (given : Option (Bor (Sent Su F EF U O C K Ac D G It St Sy))) → StandsSo play standing →
      IsGivenAt standing sent at given →
      StartsHanded play.place play.IsHanded (drop at (values_sent sent)) →
      IsHandedNext play (values_sent sent) at (next_place at given) (value_given given)
  handed-next standing.Sent sent at given h is starts =
      first_sent sent at given is
      (subst (λ p. StartsHanded p play.IsHanded (drop at (values_sent sent))) h.so starts) h.so
  handed-next _ sent at given h is starts =
      not_sent sent at given is (λ v. ap (λ p. if_sent p v) h.so.0) h.so.1

  -- it is played, and what comes of it is kept
  pub played-next : (standing : Standing) (sent : List (Sent Su F EF U O C K Ac D G It St Sy)) (at k : ℕ)
      (given : Option (Bor (Sent Su F EF U O C K Ac D G It St Sy))) (here there : Driving S)
      (witnesses0 witnesses1 carried0 carried1 : List F) (drawn0 drawn1 : List (Drawn Su F EF U O C K Ac D G It St Sy))
      (witness : Option F) (drawn : Option (Drawn Su F EF U O C K Ac D G It St Sy)) → StandsSo play standing →
      IsHandedNext play (values_sent sent) at (next_place at given) (value_given given) → k ≡ next_place at given →
      SendsValue play here (value_given given) witness (drawn_of drawn) there →
      witnesses1 ≡ witnesses0 ++ one_of witness → carried1 ≡ carried0 ++ carried_at standing (one_of witness) →
      drawn1 ≡ drawn0 ++ one_of drawn →
      PlaysNext play (values_sent sent) at k here there witnesses0 witnesses1 carried0 carried1
      (challenges_of drawn0) (challenges_of drawn1)
  played-next standing sent at k given here there w0 w1 c0 c1 d0 d1 witness drawn stands n next sends w c d =
      record {
        given = value_given given;
        witness = witness;
        drawn = drawn_of drawn;
        used = n.used ∙ ap (λ (m : ℕ). if_sent play.place (value_given given) ++ drop m (values_sent sent)) (sym next);
        sends = sends-played play here there (value_given given) witness (drawn_of drawn) sends;
        witnesses_is = w;
        carried_is = c ∙ ap (λ l. c0 ++ l) (carried-same play standing (one_of witness) stands);
        drawn_is = ap challenges_of d ∙ drawn-more d0 drawn;
      }
